-- Document 01, "Questions and lists": the stretches of a range and of the whole tank, from the positions.
use Rattle.std.specs.Prelude.{ℕ, suc, ◌-◌, ◌≤◌, ◌<◌, ◌≡◌, Bool, true, false, cond, List, [], ◌∷◌, ltb, length}
use Rattle.runs.specs.Positions.{Stretch, stretches_at, as_numbers}
use Rattle.lists.specs.declared.Listed.{Listed}
use Rattle.tank.specs.Rules.{View, alike, asked_range, first_refusal, when_accepted}

-- ---- What maximal stretches are
-- x is the last maximal stretch of a .. b, clipped to it: neighbouring positions with equal sets, each with as many marks as x says, which
-- begin where the range does or where the set changes; `equal p` says that p and p + 1 have equal sets, `count p` how many marks p has
pub record Maximal (equal : ℕ → Bool) (count : ℕ → ℕ) (a b : ℕ) (x : Stretch) : Type 0 where
  pub last : x.end ≡ b
  pub inside : a ≤ x.start
  pub some : x.start < x.end
  pub one : (p : ℕ) → x.start ≤ p → suc p < x.end → equal p ≡ true
  pub counted : (p : ℕ) → x.start ≤ p → p < x.end → count p ≡ x.marks
  pub begun : a < x.start → equal (x.start - 1) ≡ false

-- maximal stretches, the last first, that leave no position of a .. b out: each ends where the one after it begins; an empty range has none
unfoldable pub Tiles : (ℕ → Bool) → (ℕ → ℕ) → ℕ → ℕ → List Stretch → Type 0
Tiles equal count a b [] = b ≤ a
Tiles equal count a b (x ∷ xs) = Maximal equal count a b x × Tiles equal count a x.start xs

-- the stretches tile a tank's positions a .. b, by the marks at each
abbrev pub TilesOver : ℕ → ℕ → View → List Stretch → Type 0
TilesOver a b v = Tiles (alike v.at) (λ p. length (v.at p)) a b

-- ---- The list of them
-- the maximal stretches of neighbouring positions of a .. b with equal sets, clipped to it, each with its count of marks: a position more
-- lengthens the last stretch where its marks are those of the position before it, and begins one otherwise. It is the one list that tiles
-- the range with maximal stretches: the laws `stretches_tile` and `stretches_only`
abbrev pub stretches_over : ℕ → ℕ → View → List Stretch
stretches_over a b v = stretches_at (alike v.at) (λ p. length (v.at p)) a b

-- their numbers: start, end, count of marks of each in order; those with fewer marks than `least` are left out
unfoldable pub list_over : ℕ → ℕ → ℕ → View → List ℕ
list_over least a b v = as_numbers least (stretches_over a b v)

-- the stretches over a .. b, unmarked ones included
abbrev pub range_list : ℕ → ℕ → View → List ℕ
range_list a b v = list_over 0 a b v

-- the whole tank's stretches, in the same shape, unmarked ones left out
abbrev pub whole_list : View → List ℕ
whole_list v = list_over 1 0 v.length v

-- 4: range end over the length; an empty range is refused nothing, wherever it lies
unfoldable pub range_refusal : ℕ → ℕ → View → ℕ
range_refusal a b v = asked_range a b 0 v

-- 11 where no lower number is given and the list is longer than the caller's buffer or list of `room` places
unfoldable pub list_refusal : ℕ → ℕ → ℕ → ℕ
list_refusal lower room needed = first_refusal lower (cond (ltb room needed) 11 0)

-- what is handed over beside a number: the list, and nothing beside a refusal
abbrev pub unless_refused : {A : Type 0} → ℕ → List A → List A
unless_refused number xs = when_accepted number xs []

-- a number, and how many places the list fills, or would fill; 0 beside a refusal
abbrev pub filled_beside : {A : Type 0} → ℕ → List A → Listed
filled_beside number xs = record { number = number; count = length (unless_refused number xs) }

-- the count needed for a range: asked without a buffer, so never 11
abbrev pub range_needed : ℕ → ℕ → View → Listed
range_needed a b v = filled_beside (range_refusal a b v) (range_list a b v)

-- and for the whole tank, which is refused nothing
abbrev pub whole_needed : View → Listed
whole_needed v = filled_beside 0 (whole_list v)

-- the number that a list over a range gives where the buffer has `room` places
abbrev pub range_number : ℕ → ℕ → ℕ → View → ℕ
range_number a b room v = list_refusal (range_refusal a b v) room (length (range_list a b v))

-- the number that the whole tank's list gives
abbrev pub whole_number : ℕ → View → ℕ
whole_number room v = list_refusal 0 room (length (whole_list v))
