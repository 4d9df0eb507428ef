-- The list of a range grows by whole stretches: where positions first .. end have one set of bits and the one before them another, their stretch is
-- what stands behind the list up to `first`.
use Prim.Native.Nat.{ℕ, zero, suc, ◌+◌, ◌-◌, ◌≤◌, ◌<◌, min, max}
use mathlib.Core.Path.{◌≡◌, refl, sym, ap, ◌∙◌}
use mathlib.Core.Bool.{Bool, true, false, cond}
use mathlib.Core.List.{List, [], ◌∷◌, ◌++◌, append-nil}
use native.Mathlib.Omega.{arith}
use native.Mathlib.Decide.{dec_lt, dec_le}
use native.Mathlib.Numerals.{sub-one}
use borrow.Author.Tests.{lt-ltb, eq-eqb, ne_eqb}
use lib.Count.{ones}
use lib.Dec.{eqb, leb}
use lib.ListN.{length, length-append}
use Rattle.runs.specs.Positions.{Stretch, stretch, extended, stretches_at, as_numbers}
use Rattle.runs.specs.Stretches.{entry}
use Rattle.runs.proofs.ListLaws.{entry_past}
use Rattle.runs.proofs.PositionLaws.{stretch_eq, at_more, at_none, begins, goes_on}
use Rattle.runs.proofs.SumLaws.{rising}
use Rattle.tanks.proofs.ReachLaws.{Level}
use Rattle.tanks.specs.Masked.{bit_list}

-- ---- the stretch of a level
module _ (f : ℕ → ℕ) {first end one : ℕ} (level : Level f first end one) (from : ℕ) where
  abbrev same : ℕ → Bool
  same p = eqb (f p) (f (suc p))

  abbrev marks : ℕ → ℕ
  marks p = ones (f p)

  abbrev up_to : ℕ → List Stretch
  up_to p = stretches_at (λ p. eqb (f p) (f (suc p))) (λ p. ones (f p)) from p

  -- what stands before it does not go on in it
  apart : (q : ℕ) → first ≡ q → first < end → same (q - 1) ≡ true → up_to q ≡ []
  unfolding stretches_at
  apart zero e l h = refl
  apart (suc q) e l h =
      let d = ne_eqb (f q) (f (suc q)) (λ z. level.edge q e (z ∙ level.all (suc q) (omega arith) (omega arith))) in
      let z : true ≡ false = sym (rw sub-one at h) ∙ d in
      let o : ◌≡◌ {A = ℕ} 0 1 = cc in
      absurd (omega arith)

  grown : (j : ℕ) → first + suc j ≤ end → from < first + suc j → up_to (first + suc j) ≡ stretch (max from first) (first + suc j) (ones one) ∷ up_to first
  grown zero h g =
      let e : first + 1 ≡ suc first = omega arith in
      rw e
      (at_more same marks from first (omega arith)
      ∙ begins (same (first - 1)) first (marks first) (up_to first) (apart first refl (omega arith))
      ∙ stretch_eq _ _ _ _ _ _ _ _ (omega arith) refl (ap ones (level.all first (omega arith) (omega arith))) refl)
  grown (suc j) h g =
      let p = first + suc j in
      let e : first + suc (suc j) ≡ suc (first + suc j) = omega arith in
      let i : suc (p - 1) ≡ p = omega arith in
      rw e
      (at_more same marks from p (omega arith)
      ∙ elim (dec_lt from p) [
        | yes k ↦
            ap (extended (same (p - 1)) p (marks p)) (grown j (omega arith) k)
            ∙ goes_on p (marks p) (ones one) (max from first) p (same (p - 1)) (up_to first)
            (eq-eqb (f (p - 1)) (f (suc (p - 1))) (level.all (p - 1) (omega arith) (omega arith) ∙ sym (level.all (suc (p - 1)) (omega arith) (omega arith))))
        | no k ↦
            ap (extended (same (p - 1)) p (marks p)) (at_none same marks from p (omega arith))
            ∙ begins (same (p - 1)) p (marks p) [] (λ _. refl)
            ∙ stretch_eq _ _ _ _ _ _ _ _ (omega arith) refl (ap ones (level.all p (omega arith) (omega arith))) (sym (at_none same marks from first (omega arith)))
      ])

  -- of a range that ends at `to`
  numbers_in : (least to : ℕ) → max from first < to → to ≤ end → bit_list least from to f ≡ bit_list least from first f ++ entry least (max from first) to (ones one)
  unfolding as_numbers entry
  numbers_in least to h g =
      let j = to - first - 1 in
      let e : first + suc j ≡ to = omega arith in
      ap (λ (p : ℕ). as_numbers least (up_to p)) (sym e)
      ∙ ap (as_numbers least) (grown j (omega arith) (omega arith))
      ∙ rw (e, lt-ltb (max from first) to h)

  pub level_list : (least to : ℕ) → first ≤ end → bit_list least from (min to end) f ≡ bit_list least from (min to first) f ++ entry least (max from first) (min to end) (ones one)
  level_list least to h =
      elim (dec_lt (max from first) (min to end)) [
        | yes k ↦
            let e : min to first ≡ first = omega arith in
            numbers_in least (min to end) k (omega arith) ∙ ap (λ (p : ℕ). bit_list least from p f ++ entry least (max from first) (min to end) (ones one)) (sym e)
        | no k ↦
            none k ∙ sym (append-nil (bit_list least from (min to first) f)) ∙ ap (λ (xs : List ℕ). bit_list least from (min to first) f ++ xs) (sym (entry_past least (max from first) (min to end) (ones one) (omega arith)))
      ]
    where
      none : (max from first < min to end → ⊥) → bit_list least from (min to end) f ≡ bit_list least from (min to first) f
      none k =
          elim (dec_lt from (min to end)) [
            | yes l ↦ let e : min to end ≡ min to first = omega arith in ap (λ (p : ℕ). bit_list least from p f) e
            | no l ↦ ap (as_numbers least) (at_none same marks from (min to end) (omega arith) ∙ sym (at_none same marks from (min to first) (omega arith)))
          ]

-- ---- a longer range has no fewer numbers
more_numbers : (least : ℕ) (t : Bool) (p c : ℕ) (xs : List Stretch) → length (as_numbers least xs) ≤ length (as_numbers least (extended t p c xs))
unfolding extended as_numbers
more_numbers least t p c [] = omega arith
more_numbers least false p c (x ∷ xs) = omega (arith, length-append (as_numbers least (x ∷ xs)) (cond (leb least c) (p ∷ suc p ∷ c ∷ []) []))
more_numbers least true p c (x ∷ xs) =
    omega (
      arith,
      length-append (as_numbers least xs) (cond (leb least x.marks) (x.start ∷ x.end ∷ x.marks ∷ []) []),
      length-append (as_numbers least xs) (cond (leb least x.marks) (x.start ∷ suc p ∷ x.marks ∷ []) []),
      go (leb least x.marks),
    )
  where
    go : (b : Bool) → length (cond b (x.start ∷ x.end ∷ x.marks ∷ []) []) ≡ length (cond b (x.start ∷ suc p ∷ x.marks ∷ []) [])
    go true = refl
    go false = refl

module _ (least from : ℕ) (f : ℕ → ℕ) where
  abbrev numbers : ℕ → List ℕ
  numbers p = bit_list least from p f

  one_more : (p : ℕ) → length (numbers p) ≤ length (numbers (suc p))
  unfolding as_numbers
  one_more p =
      let same : ℕ → Bool = λ p. eqb (f p) (f (suc p)) in
      let marks : ℕ → ℕ = λ p. ones (f p) in
      elim (dec_le from p) [
        | yes h ↦ omega (arith, more_numbers least (same (p - 1)) p (marks p) (stretches_at same marks from p), ap (λ (xs : List Stretch). length (as_numbers least xs)) (at_more same marks from p h))
        | no h ↦ omega (arith, ap (λ (xs : List Stretch). length (as_numbers least xs)) (at_none same marks from p (omega arith)))
      ]

  pub list_grows : (p q : ℕ) → p ≤ q → length (numbers p) ≤ length (numbers q)
  list_grows p q h = rising (λ i. length (numbers i)) one_more p q h

  pub list_empty : (to : ℕ) → [] ≡ bit_list least from (min to 0) f
  unfolding stretches_at as_numbers
  list_empty to = let e : min to 0 ≡ 0 = omega arith in rw e
