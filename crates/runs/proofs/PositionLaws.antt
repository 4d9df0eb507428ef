-- The clipped runs of a joined list are the maximal stretches of its positions.
use Prim.Native.Nat.{ℕ, zero, suc, ◌+◌, ◌-◌, ◌≤◌, ◌<◌, min, max}
use mathlib.Core.Path.{◌≡◌, refl, sym, ap, ap₂, ◌∙◌}
use mathlib.Core.Bool.{Bool, true, false}
use mathlib.Core.List.{List, [], ◌∷◌}
use native.Mathlib.Omega.{arith}
use native.Mathlib.Decide.{dec_lt, dec_le}
use native.Mathlib.Numerals.{sub-one}
use borrow.Author.Tests.{lt-ltb, le-ltb, le-leb, lt-leb}
use lib.Count.{ones}
use lib.Dec.{eqb}
use lib.ListN.{length}
use Rattle.runs.specs.Runs.{Run, runs, total, Canon}
use Rattle.runs.specs.Positions.{Stretch, stretch, extended, stretches_at, as_numbers}
use Rattle.runs.specs.Stretches.{alike_in, marks_in, listed, CanList}
use Rattle.runs.proofs.Clipped.{clipped, clipped_list, Fits}
use Rattle.runs.proofs.Laws.{at_in, at_last}
use Rattle.runs.proofs.StretchLaws.{edge, within_alike}

pub stretch_eq : (a a' b b' c c' : ℕ) (xs ys : List Stretch) → a ≡ a' → b ≡ b' → c ≡ c' → xs ≡ ys → stretch a b c ∷ xs ≡ stretch a' b' c' ∷ ys
stretch_eq a a' b b' c c' xs ys e f g h = λ i. stretch (e i) (f i) (g i) ∷ h i

-- ---- the stretches by position, a position more
module _ (alike : ℕ → Bool) (count : ℕ → ℕ) (from : ℕ) where
  pub at_more : (p : ℕ) → from ≤ p → stretches_at alike count from (suc p) ≡ extended (alike (p - 1)) p (count p) (stretches_at alike count from p)
  unfolding stretches_at
  at_more p h = simp (le-leb from p h)

  pub at_none : (to : ℕ) → to ≤ from → stretches_at alike count from to ≡ []
  unfolding stretches_at
  at_none zero h = refl
  at_none (suc p) h = simp (lt-leb from p h)

-- what is told of the range alone
pub at_ext : (alike alike' : ℕ → Bool) (count count' : ℕ → ℕ) (from to : ℕ) → ((p : ℕ) → from ≤ p → suc p < to → alike p ≡ alike' p)
    → ((p : ℕ) → from ≤ p → p < to → count p ≡ count' p) → stretches_at alike count from to ≡ stretches_at alike' count' from to
unfolding stretches_at
at_ext alike alike' count count' from zero h g = refl
at_ext alike alike' count count' from (suc p) h g =
    elim (dec_le from p) [
      | no k ↦ simp (lt-leb from p (omega arith))
      | yes k ↦
          let r = at_ext alike alike' count count' from p (λ q a b. h q a (omega arith)) (λ q a b. g q a (omega arith)) in
          simp (le-leb from p k)
          (elim (dec_lt from p) [
            | yes l ↦ let e = h (p - 1) (omega arith) (omega arith) in let f = g p k (omega arith) in cc
            | no l ↦
                let z = at_none alike count from p (omega arith) in
                let z' = at_none alike' count' from p (omega arith) in
                rw (z, z', g p k (omega arith)) (first (alike (p - 1)) (alike' (p - 1)) p (count' p))
          ])
    ]
  where
    first : (a b : Bool) (p c : ℕ) → extended a p c [] ≡ extended b p c []
    first a b p c = refl

-- ---- the clipped runs
clipped_none : (from to : ℕ) (rs : List Run) → min to (total rs) ≤ from → clipped from to rs ≡ []
unfolding clipped total
clipped_none from to [] h = refl
clipped_none from to (r ∷ rs) h =
    simp (le-ltb (max from (total rs)) (min to (total rs + r.len)) (omega arith)) (clipped_none from to rs (omega arith))

clipped_out : (from to : ℕ) (r : Run) (rs : List Run) → to ≤ total rs → clipped from to (r ∷ rs) ≡ clipped from to rs
unfolding clipped
clipped_out from to r rs h = simp (le-ltb (max from (total rs)) (min to (total rs + r.len)) (omega arith))

clipped_in : (from to : ℕ) (r : Run) (rs : List Run) → from < to → total rs < to → to ≤ total rs + r.len → from < total rs + r.len
    → clipped from to (r ∷ rs) ≡ stretch (max from (total rs)) to (ones r.set) ∷ clipped from to rs
unfolding clipped
clipped_in from to r rs h g k l =
    let e : min to (total rs + r.len) ≡ to = omega arith in
    simp (lt-ltb (max from (total rs)) (min to (total rs + r.len)) (omega arith))
    (stretch_eq _ _ _ _ _ _ _ _ refl e refl refl)

-- runs that end before `to` are clipped by `from` alone
clipped_end : (from to to' : ℕ) (rs : List Run) → total rs ≤ to → total rs ≤ to' → clipped from to rs ≡ clipped from to' rs
unfolding clipped total
clipped_end from to to' [] h g = refl
clipped_end from to to' (r ∷ rs) h g =
    let x : min to (total rs + r.len) ≡ total rs + r.len = omega arith in
    let y : min to' (total rs + r.len) ≡ total rs + r.len = omega arith in
    let i = clipped_end from to to' rs (omega arith) (omega arith) in
    rw (x, y, i)

-- ---- the positions of the last run, one by one
-- a stretch begins where nothing is before it or what is before it is not alike
pub begins : (t : Bool) (p c : ℕ) (xs : List Stretch) → (t ≡ true → xs ≡ []) → extended t p c xs ≡ stretch p (suc p) c ∷ xs
unfolding extended
begins t p c [] h = refl
begins false p c (x ∷ xs) h = refl
begins true p c (x ∷ xs) h = let e = h refl in let z : ◌≡◌ {A = ℕ} 0 1 = cc in absurd (omega arith)

pub goes_on : (p c d a b : ℕ) (t : Bool) (xs : List Stretch) → t ≡ true → extended t p c (stretch a b d ∷ xs) ≡ stretch a (suc p) d ∷ xs
unfolding extended
goes_on p c d a b t xs e = simp e

module _ (from : ℕ) (r : Run) (rs : List Run) (canon : Canon (r ∷ rs))
    (before : clipped from (total rs) rs ≡ stretches_at (alike_in (r ∷ rs)) (marks_in (r ∷ rs)) from (total rs)) where
  counted : (p : ℕ) → total rs ≤ p → p < total rs + r.len → marks_in (r ∷ rs) p ≡ ones r.set
  counted p a b = ap ones (at_last r rs p a b)

  -- what stands before the run does not go on in it
  apart : (n : ℕ) → total rs ≡ n → alike_in (r ∷ rs) (n - 1) ≡ true → clipped from (total rs) rs ≡ []
  apart zero e h = clipped_none from (total rs) rs (omega arith)
  apart (suc n) e h = let i = edge r rs n canon e in let z : true ≡ false = sym (rw sub-one at h) ∙ i in let o : ◌≡◌ {A = ℕ} 0 1 = cc in absurd (omega arith)

  grown : (j : ℕ) → suc j ≤ r.len → from < total rs + suc j
      → stretches_at (alike_in (r ∷ rs)) (marks_in (r ∷ rs)) from (total rs + suc j) ≡ stretch (max from (total rs)) (total rs + suc j) (ones r.set) ∷ clipped from (total rs) rs
  grown zero h g =
      let e : total rs + 1 ≡ suc (total rs) = omega arith in
      rw e
      (at_more (alike_in (r ∷ rs)) (marks_in (r ∷ rs)) from (total rs) (omega arith)
      ∙ ap (extended (alike_in (r ∷ rs) (total rs - 1)) (total rs) (marks_in (r ∷ rs) (total rs))) (sym before)
      ∙ begins (alike_in (r ∷ rs) (total rs - 1)) (total rs) (marks_in (r ∷ rs) (total rs)) (clipped from (total rs) rs) (apart (total rs) refl)
      ∙ stretch_eq _ _ _ _ _ _ _ _ (omega arith) refl (counted (total rs) (omega arith) (omega arith)) refl)
  grown (suc j) h g =
      let p = total rs + suc j in
      let e : total rs + suc (suc j) ≡ suc (total rs + suc j) = omega arith in
      let i : p - 1 ≡ total rs + j = omega arith in
      rw e
      (at_more (alike_in (r ∷ rs)) (marks_in (r ∷ rs)) from p (omega arith)
      ∙ elim (dec_lt from p) [
        | yes k ↦
            ap (extended (alike_in (r ∷ rs) (p - 1)) p (marks_in (r ∷ rs) p)) (grown j (omega arith) k)
            ∙ goes_on p (marks_in (r ∷ rs) p) (ones r.set) (max from (total rs)) p (alike_in (r ∷ rs) (p - 1)) (clipped from (total rs) rs) (ap (alike_in (r ∷ rs)) i ∙ within_alike r rs (total rs + j) (omega arith) (omega arith))
        | no k ↦
            ap (extended (alike_in (r ∷ rs) (p - 1)) p (marks_in (r ∷ rs) p)) (at_none (alike_in (r ∷ rs)) (marks_in (r ∷ rs)) from p (omega arith))
            ∙ begins (alike_in (r ∷ rs) (p - 1)) p (marks_in (r ∷ rs) p) [] (λ _. refl)
            ∙ stretch_eq _ _ _ _ _ _ _ _ (omega arith) refl (counted p (omega arith) (omega arith)) (sym (clipped_none from (total rs) rs (omega arith)))
      ])

pub clipped_is : (rs : List Run) (from to : ℕ) → Canon rs → to ≤ total rs → clipped from to rs ≡ stretches_at (alike_in rs) (marks_in rs) from to
unfolding Canon total
clipped_is [] from to c h = let e : to ≡ 0 = omega arith in rw e (clipped_none from 0 [] (omega arith) ∙ sym (at_none (alike_in []) (marks_in []) from 0 (omega arith)))
clipped_is (r ∷ rs) from to c h =
    let down : (to' : ℕ) → to' ≤ total rs → clipped from to' rs ≡ stretches_at (alike_in (r ∷ rs)) (marks_in (r ∷ rs)) from to' =
    λ to' l. clipped_is rs from to' c.2 l
    ∙ at_ext (alike_in rs) (alike_in (r ∷ rs)) (marks_in rs) (marks_in (r ∷ rs)) from to'
    (λ p a b. ap₂ eqb (sym (at_in r rs p (omega arith))) (sym (at_in r rs (suc p) (omega arith))))
    (λ p a b. ap ones (sym (at_in r rs p (omega arith))))
    in
    elim (dec_le to (total rs)) [
      | yes k ↦ clipped_out from to r rs k ∙ down to k
      | no k ↦
          elim (dec_lt from to) [
            | no l ↦ clipped_none from to (r ∷ rs) (omega arith) ∙ sym (at_none (alike_in (r ∷ rs)) (marks_in (r ∷ rs)) from to (omega arith))
            | yes l ↦
                let j = to - total rs - 1 in
                let e : total rs + suc j ≡ to = omega arith in
                clipped_in from to r rs l (omega arith) h (omega arith)
                ∙ stretch_eq _ _ _ _ _ _ _ _ refl (sym e) refl (clipped_end from to (total rs) rs (omega arith) (omega arith))
                ∙ sym (grown from r rs c (down (total rs) (omega arith)) j (omega arith) (omega arith))
                ∙ ap (stretches_at (alike_in (r ∷ rs)) (marks_in (r ∷ rs)) from) e
          ]
    ]

-- the list by position is the one by runs
pub listed_is : (least from to : ℕ) (lens sets : List ℕ) (n : ℕ) → Canon (runs lens sets n) → to ≤ total (runs lens sets n)
    → listed least from to lens sets n ≡ clipped_list least from to lens sets n
listed_is least from to lens sets n c h = ap (as_numbers least) (sym (clipped_is (runs lens sets n) from to c h))

pub fits_of : {least from to : ℕ} {lens sets : List ℕ} {n : ℕ} {out : List ℕ} → CanList least from to lens sets n out → Fits least from to lens sets n out
fits_of {least} {from} {to} {lens} {sets} {n} can =
    record {
      look = can.scan.look;
      room = omega (arith, can.room, ap length (listed_is least from to lens sets n can.joined can.scan.reach));
    }
