-- The stretches of a range as numbers: what one run more adds.
use Prim.Native.Nat.{ℕ, zero, suc, ◌+◌, ◌*◌, ◌≤◌, ◌<◌, min, max}
use mathlib.Core.Path.{◌≡◌, refl, sym, ◌∙◌}
use mathlib.Core.Bool.{Bool, true, false, cond, ◌&&◌}
use mathlib.Core.List.{List, [], ◌∷◌, ◌++◌, append_assoc, append-nil}
use native.Mathlib.Omega.{arith}
use native.Mathlib.Decide.{dec_lt}
use native.Mathlib.Numerals.{add-one}
use borrow.Author.Tests.{lt-ltb, le-ltb, le-leb, lt-leb}
use lib.Count.{ones}
use lib.Dec.{ltb, leb}
use lib.ListN.{length, get_or, set, take, drop, length-append, length-drop}
use lib.Seq.{sets-eq, take_at, drop-append-add, drop-drop}
use Rattle.laws.proofs.Cases.{cond_by}
use Rattle.runs.specs.Runs.{Run, run, runs, total}
use Rattle.runs.specs.Positions.{stretch, as_numbers}
use Rattle.runs.specs.Stretches.{entry, in_front}
use Rattle.runs.proofs.Clipped.{clipped, clipped_list}
use Rattle.runs.proofs.SumLaws.{rising}

-- ---- the numbers of one run
pub entry_past : (least a b c : ℕ) → b ≤ a → entry least a b c ≡ []
unfolding entry
entry_past least a b c h = simp (le-ltb a b h)

pub entry_few : (least a b c : ℕ) → c < least → entry least a b c ≡ []
unfolding entry
entry_few least a b c h = elim (dec_lt a b) [ yes k ↦ simp (lt-ltb a b k, lt-leb least c h) | no k ↦ simp (le-ltb a b (omega arith)) ]

pub entry_full : (least a b c : ℕ) → a < b → least ≤ c → entry least a b c ≡ a ∷ b ∷ c ∷ []
unfolding entry
entry_full least a b c h g = simp (lt-ltb a b h, le-leb least c g)

-- it is the three numbers or nothing
entry_by : (P : List ℕ → Type 0) (least a b c : ℕ) → P (a ∷ b ∷ c ∷ []) → P [] → P (entry least a b c)
unfolding entry
entry_by P least a b c some none = cond_by P (ltb a b && leb least c) some none

pub entry_most : (least a b c : ℕ) → length (entry least a b c) ≤ 3
entry_most least a b c = entry_by (λ l. length l ≤ 3) least a b c (omega arith) (omega arith)

pub entry_none : (least a b c : ℕ) → length (entry least a b c) ≡ 0 → entry least a b c ≡ []
entry_none least a b c = entry_by (λ l. length l ≡ 0 → l ≡ []) least a b c (λ e. absurd (omega arith)) (λ e. refl)

pub entry_some : (least a b c : ℕ) → (length (entry least a b c) ≡ 0 → ⊥) → entry least a b c ≡ a ∷ b ∷ c ∷ []
entry_some least a b c = entry_by (λ l. (length l ≡ 0 → ⊥) → l ≡ a ∷ b ∷ c ∷ []) least a b c (λ d. refl) (λ d. absurd (d refl))

-- ---- one run more
pub numbers_more : (least from to : ℕ) (r : Run) (rs : List Run)
    → as_numbers least (clipped from to (r ∷ rs))
    ≡ as_numbers least (clipped from to rs) ++ entry least (max from (total rs)) (min to (total rs + r.len)) (ones r.set)
unfolding clipped as_numbers entry
numbers_more least from to r rs = go (ltb (max from (total rs)) (min to (total rs + r.len))) refl
  where
    go : (t : Bool) → ltb (max from (total rs)) (min to (total rs + r.len)) ≡ t
        → as_numbers least (cond t (stretch (max from (total rs)) (min to (total rs + r.len)) (ones r.set) ∷ clipped from to rs) (clipped from to rs))
        ≡ as_numbers least (clipped from to rs) ++ cond (t && leb least (ones r.set)) (max from (total rs) ∷ min to (total rs + r.len) ∷ ones r.set ∷ []) []
    go true e = refl
    go false e = sym (append-nil (as_numbers least (clipped from to rs)))

module _ (least from to : ℕ) (lens sets : List ℕ) where
  pub clipped_more : (k : ℕ) → clipped_list least from to lens sets (k + 1)
      ≡ clipped_list least from to lens sets k ++ entry least (max from (total (runs lens sets k))) (min to (total (runs lens sets k) + get_or lens k 0)) (ones (get_or sets k 0))
  unfolding runs
  clipped_more k = rw add-one (numbers_more least from to (run (get_or lens k 0) (get_or sets k 0)) (runs lens sets k))

  pub clipped_length : {start : ℕ} (k : ℕ) → start ≡ total (runs lens sets k) → length (clipped_list least from to lens sets (k + 1))
      ≡ length (clipped_list least from to lens sets k) + length (entry least (max from start) (min to (start + get_or lens k 0)) (ones (get_or sets k 0)))
  clipped_length k e = rw (e, clipped_more k, length-append)

  pub clipped_grows : (k n : ℕ) → k ≤ n → length (clipped_list least from to lens sets k) ≤ length (clipped_list least from to lens sets n)
  clipped_grows k n h = rising (λ i. length (clipped_list least from to lens sets i)) (λ i. rw (← add-one i) (omega (arith, clipped_length i refl))) k n h

  pub clipped_most : (n : ℕ) → length (clipped_list least from to lens sets n) ≤ 3 * n
  unfolding runs clipped as_numbers
  clipped_most zero = omega arith
  clipped_most (suc n) =
      let m = entry_most least (max from (total (runs lens sets n))) (min to (total (runs lens sets n) + get_or lens n 0)) (ones (get_or sets n 0)) in
      omega (arith, clipped_most n, rw (add-one n) at (clipped_length n refl))

-- ---- the front of a buffer, and numbers written behind it
pub front_write : (xs es out : List ℕ) → length xs + length es ≤ length out
    → take (length xs) (in_front xs out) ++ es ++ drop (length xs + length es) (in_front xs out) ≡ in_front (xs ++ es) out
front_write xs es out h =
    let a : take (length xs) (in_front xs out) ≡ xs = take_at xs (drop (length xs) out) (length xs) refl in
    let b : drop (length xs + length es) (in_front xs out) ≡ drop (length xs + length es) out =
    drop-append-add xs (drop (length xs) out) (length es) ∙ drop-drop (length es) (length xs) out
    in
    rw (a, b, length-append, append_assoc)

-- three stores, one behind the other; and none
pub write_three : (l : List ℕ) (at a b c : ℕ) → at + 3 ≤ length l
    → set (set (set l at a) (at + 1) b) (at + 2) c ≡ take at l ++ (a ∷ b ∷ c ∷ []) ++ drop (at + 3) l
write_three l at a b c h =
    let e : at + 1 ≡ suc at = omega arith in
    let g : at + 2 ≡ suc (suc at) = omega arith in
    rw (e, g) (sets-eq (a ∷ b ∷ c ∷ []) l at h)

pub write_none : (l : List ℕ) (at : ℕ) → at ≤ length l → l ≡ take at l ++ [] ++ drop (at + 0) l
write_none l at h = sets-eq [] l at (omega arith)

pub front_length : (xs out : List ℕ) → length xs ≤ length out → length (in_front xs out) ≡ length out
front_length xs out h = omega (arith, length-append xs (drop (length xs) out), length-drop (length xs) out)
