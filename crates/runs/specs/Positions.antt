-- A sum over the first n, and what is said of positions alone, with nothing of runs: what an edit makes of them, a test over a range, the longest
-- stretch that passes one, and maximal stretches.
use Rattle.std.specs.Prelude.{ℕ, zero, suc, ◌+◌, ◌-◌, Bool, true, false, cond, not, ◌&&◌, ◌||◌, List, [], ◌∷◌, ◌++◌, ltb, leb}

-- f 0 + .. + f (n - 1)
unfoldable pub sum_below : (ℕ → ℕ) → ℕ → ℕ
sum_below f zero = 0
sum_below f (suc n) = sum_below f n + f n

-- ---- What stands at each position after an edit; `at p` stood at p before it
-- a ≤ p < b
abbrev pub within : ℕ → ℕ → ℕ → Bool
within a b p = leb a p && ltb p b

-- what stands at the positions a .. b changed by f
abbrev pub altered_at : {A : Type 0} → ℕ → ℕ → (A → A) → (ℕ → A) → ℕ → A
altered_at a b f at p = cond (within a b p) (f (at p)) (at p)

-- the positions a .. b gone, and later ones moved down
abbrev pub deleted_at : {A : Type 0} → ℕ → ℕ → (ℕ → A) → ℕ → A
deleted_at a b at p = cond (ltb p a) (at p) (at (p + (b - a)))

-- l positions with x put in at pos: earlier ones as they were, later ones moved up
abbrev pub inserted_at : {A : Type 0} → ℕ → ℕ → A → (ℕ → A) → ℕ → A
inserted_at pos l x at p = cond (ltb p pos) (at p) (cond (ltb p (pos + l)) x (at (p - l)))

-- the first n as they were, and behind them those of `more`
abbrev pub followed_at : {A : Type 0} → ℕ → (ℕ → A) → (ℕ → A) → ℕ → A
followed_at n at more p = cond (ltb p n) (at p) (more (p - n))

-- ---- A test over a range
-- some position of from .. to passes the test
unfoldable pub any_at : (ℕ → Bool) → ℕ → ℕ → Bool
any_at test from zero = false
any_at test from (suc p) = any_at test from p || (leb from p && test p)

-- every position of from .. to passes the test
unfoldable pub all_at : (ℕ → Bool) → ℕ → ℕ → Bool
all_at test from zero = true
all_at test from (suc p) = all_at test from p && (ltb p from || test p)

-- stretchTo test n: the first position of the longest stretch that ends just before n and all of whose positions pass the test; n where
-- position n - 1 does not
unfoldable pub stretch_to : (ℕ → Bool) → ℕ → ℕ
stretch_to test zero = zero
stretch_to test (suc p) = cond (test p) (stretch_to test p) (suc p)

-- the first of the k positions from `from` on that passes the test; from + k where none does
unfoldable pub seek_from : (ℕ → Bool) → ℕ → ℕ → ℕ
seek_from test from zero = from
seek_from test from (suc k) = cond (test from) from (seek_from test (suc from) k)

-- ---- Maximal stretches of alike neighbours; `alike p` says that p and p + 1 have one set
-- 1 where a stretch starts, else 0: at position 0, and where a position differs from the one before
unfoldable pub starts : (ℕ → Bool) → ℕ → ℕ
starts alike zero = 1
starts alike (suc p) = cond (alike p) 0 1

-- how many of the first n positions start a stretch
abbrev pub stretch_count : (ℕ → Bool) → ℕ → ℕ
stretch_count alike n = sum_below (starts alike) n

-- the first position of the stretch that p is in: from there to p all neighbours are alike
abbrev pub first_of : (ℕ → Bool) → ℕ → ℕ
first_of alike p = stretch_to alike p

-- and the last, of n positions: from p to there
abbrev pub last_of : (ℕ → Bool) → ℕ → ℕ → ℕ
last_of alike n p = seek_from (λ q. not (alike q)) p (n - suc p)

-- the most of the first n positions that have no more than b stretches: those that lie in the first b of them
unfoldable pub part_of : (ℕ → Bool) → ℕ → ℕ → ℕ
part_of alike b zero = zero
part_of alike b (suc p) = cond (leb (stretch_count alike (suc p)) b) (suc p) (part_of alike b p)

-- the positions start .. end, and how many marks each of them has
pub record Stretch : Type 0 where
  pub start : ℕ
  pub end : ℕ
  pub marks : ℕ

-- a stretch by its three numbers
abbrev pub stretch : ℕ → ℕ → ℕ → Stretch
stretch a b c = record { start = a; end = b; marks = c }

-- position p more, with c marks: it lengthens the last stretch where it is alike, and begins one otherwise
unfoldable pub extended : Bool → ℕ → ℕ → List Stretch → List Stretch
extended alike p c [] = stretch p (suc p) c ∷ []
extended alike p c (x ∷ xs) = cond alike (stretch x.start (suc p) x.marks ∷ xs) (stretch p (suc p) c ∷ x ∷ xs)

-- the maximal stretches of from .. to, the last first; `count p` says how many marks p has
unfoldable pub stretches_at : (ℕ → Bool) → (ℕ → ℕ) → ℕ → ℕ → List Stretch
unfolding extended
stretches_at alike count from zero = []
stretches_at alike count from (suc p) = cond (leb from p) (extended (alike (p - 1)) p (count p) (stretches_at alike count from p)) []

-- three numbers to a stretch, the first stretch first; stretches with fewer marks than `least` are left out
unfoldable pub as_numbers : ℕ → List Stretch → List ℕ
as_numbers least [] = []
as_numbers least (x ∷ xs) = as_numbers least xs ++ cond (leb least x.marks) (x.start ∷ x.end ∷ x.marks ∷ []) []
