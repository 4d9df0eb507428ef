-- The places behind the runs stay as they were, so that all of what a push, a copy and an edit hand back is determined.
use Prim.Native.Nat.{ℕ, zero, suc, ◌+◌, ◌-◌, ◌≤◌, ◌<◌, min}
use mathlib.Core.Path.{◌≡◌, refl, sym, ap, ◌∙◌}
use mathlib.Core.List.{List}
use native.Mathlib.Omega.{arith}
use native.Mathlib.Decide.{dec_lt}
use lib.ListN.{length, get_or, drop}
use lib.Seq.{ext_get_or, drop-drop, get_or-drop}
use Rattle.runs.specs.Runs.{Run, run, runs, total, set_at, Canon, SameBehind, Spare}
use Rattle.runs.specs.Edits.{Joined, Appended}
use Rattle.runs.proofs.Laws.{length_runs, push_longer}
use Rattle.runs.proofs.EditLaws.{copy_longer, one_joined, pushed_is, copied_is}

-- ---- nothing stored, and the stores of a push
pub behind_none : (lens sets : List ℕ) (n : ℕ) → SameBehind n lens sets lens sets
behind_none lens sets n = record { lens_stay = refl; sets_stay = refl }

-- ---- one call after another: the count never falls
pub count_push : (lens sets lens' sets' : List ℕ) (n m l s : ℕ) → Canon (runs lens sets n)
    → Appended (runs lens sets n) l (λ q. s) (runs lens' sets' m) → n ≤ m
count_push lens sets lens' sets' n m l s c j =
    omega (arith, ap length (pushed_is (runs lens sets n) l s c j), length_runs lens sets n, length_runs lens' sets' m, push_longer (runs lens sets n) l s)

pub count_copy : (f : ℕ → ℕ) (lens sets lens' sets' : List ℕ) (n m from to : ℕ) (rs : List Run)
    → Canon (runs lens sets n)
    → Appended (runs lens sets n) (min to (total rs) - from) (λ q. f (set_at rs (from + q))) (runs lens' sets' m)
    → n ≤ m
count_copy f lens sets lens' sets' n m from to rs c j =
    omega (arith, ap length (copied_is f (runs lens sets n) from to rs c j), length_runs lens sets n, length_runs lens' sets' m, copy_longer f (runs lens sets n) from to rs)

-- what agrees behind n, by place
behind_by : {A B : Type 0} (F : List A → ℕ → B) (n m : ℕ) (xs ys : List A) → ((l : List A) (k : ℕ) → F (drop n l) k ≡ F l (n + k)) → n ≤ m
    → drop n ys ≡ drop n xs → F ys m ≡ F xs m
behind_by F n m xs ys moved h e =
    let g : n + (m - n) ≡ m = omega arith in
    rw g at (sym (moved ys (m - n)) ∙ ap (λ l. F l (m - n)) e ∙ moved xs (m - n))

pub drop_on : (n m : ℕ) (xs ys : List ℕ) → n ≤ m → drop n ys ≡ drop n xs → drop m ys ≡ drop m xs
drop_on n m xs ys h e = behind_by (λ l k. drop k l) n m xs ys (λ l k. drop-drop k n l) h e

pub behind_on : {lens sets lens' sets' lens'' sets'' : List ℕ} (n m : ℕ) → n ≤ m
    → SameBehind n lens sets lens' sets' → SameBehind m lens' sets' lens'' sets'' → SameBehind m lens sets lens'' sets''
behind_on {lens} {sets} {lens'} {sets'} n m h a b =
    record { lens_stay = b.lens_stay ∙ drop_on n m lens lens' h a.lens_stay; sets_stay = b.sets_stay ∙ drop_on n m sets sets' h a.sets_stay }

-- ---- place by place
pub get_d_behind : {A : Type 0} (d : A) (n i : ℕ) (xs ys : List A) → n ≤ i → drop n ys ≡ drop n xs → get_or ys i d ≡ get_or xs i d
get_d_behind d n i xs ys h e = behind_by (λ l k. get_or l k d) n i xs ys (λ l k. get_or-drop n l k d) h e

-- blank places stay blank
pub spare_behind : {lens sets lens' sets' : List ℕ} {n : ℕ} → Spare lens sets 0 → SameBehind n lens sets lens' sets' → Spare lens' sets' n
unfolding Spare
spare_behind {lens} {sets} {lens'} {sets'} {n} p e i h =
    (get_d_behind 0 n i lens lens' h e.lens_stay ∙ (p i (omega arith)).0, get_d_behind 0 n i sets sets' h e.sets_stay ∙ (p i (omega arith)).1)

-- equal runs, equal entries
pub entries : (lens sets lens' sets' : List ℕ) (n : ℕ) → runs lens sets n ≡ runs lens' sets' n → (i : ℕ) → i < n
    → (get_or lens i 0 ≡ get_or lens' i 0) × (get_or sets i 0 ≡ get_or sets' i 0)
unfolding runs
entries lens sets lens' sets' zero e i h = absurd (omega arith)
entries lens sets lens' sets' (suc n) e i h =
    elim (dec_lt i n) [
      | yes k ↦ let r : runs lens sets n ≡ runs lens' sets' n = cc in entries lens sets lens' sets' n r i k
      | no k ↦
          let g : i ≡ n = omega arith in
          let r : run (get_or lens n 0) (get_or sets n 0) ≡ run (get_or lens' n 0) (get_or sets' n 0) = cc in
          rw g (ap (λ (x : Run). x.len) r, ap (λ (x : Run). x.set) r)
    ]

-- ---- two results of a push, a copy or an edit that was lent `lens` and `sets`, and that leaves `all` positions with the sets of `at`, are one:
-- the count, and both lists whole
module _ (lens sets lens' sets' lens'' sets'' : List ℕ) (n m all : ℕ) (at : ℕ → ℕ)
    (a : Joined all at (runs lens' sets' n)) (b : Joined all at (runs lens'' sets'' m))
    (p : SameBehind n lens sets lens' sets') (q : SameBehind m lens sets lens'' sets'') where
  pub one_count : n ≡ m
  one_count = sym (length_runs lens' sets' n) ∙ ap length (one_joined a b) ∙ length_runs lens'' sets'' m

  same_entry : (i : ℕ) → (get_or lens' i 0 ≡ get_or lens'' i 0) × (get_or sets' i 0 ≡ get_or sets'' i 0)
  same_entry i =
      elim (dec_lt i n) [
        | yes h ↦ entries lens' sets' lens'' sets'' n (one_joined a b ∙ ap (runs lens'' sets'') (sym one_count)) i h
        | no h ↦
            let k : m ≤ i = omega (arith, one_count) in (
              get_d_behind 0 n i lens lens' (omega arith) p.lens_stay ∙ sym (get_d_behind 0 m i lens lens'' k q.lens_stay),
              get_d_behind 0 n i sets sets' (omega arith) p.sets_stay ∙ sym (get_d_behind 0 m i sets sets'' k q.sets_stay),
            )
      ]

  -- a lent slice keeps its length
  pub one_lens : length lens' ≡ length lens → length lens'' ≡ length lens → lens' ≡ lens''
  one_lens l k = ext_get_or 0 lens' lens'' (l ∙ sym k) (λ i _. (same_entry i).0)

  pub one_sets : length sets' ≡ length sets → length sets'' ≡ length sets → sets' ≡ sets''
  one_sets l k = ext_get_or 0 sets' sets'' (l ∙ sym k) (λ i _. (same_entry i).1)
