-- The run that is found is the stretch of its position: its first and its last position, and how far the set of a position reaches.
use Prim.Native.Nat.{ℕ, zero, suc, ◌+◌, ◌-◌, ◌≤◌, ◌<◌}
use mathlib.Core.Path.{◌≡◌, refl, sym, ap, ap₂, ◌∙◌}
use mathlib.Core.Bool.{Bool, true, false, not, true≢false}
use mathlib.Core.List.{List}
use native.Mathlib.Omega.{arith}
use native.Mathlib.Decide.{dec_lt, dec_le}
use native.Mathlib.Numerals.{sub-one}
use lib.Dec.{leb, eqb}
use lib.ListN.{get_or}
use borrow.Author.Tests.{le-leb, lt-leb, eq-eqb, eqb-true}
use Rattle.runs.specs.Runs.{run, runs, total, set_at, Canon, sums, Found}
use Rattle.runs.specs.Positions.{stretch_to, first_of, last_of, all_at}
use Rattle.runs.specs.Stretches.{alike_in}
use Rattle.runs.proofs.Laws.{at_in, total_sums, total_mono, total_more, found_set}
use Rattle.runs.proofs.SumLaws.{sum_more, sum_next, sum_up}
use Rattle.runs.proofs.ScanLaws.{at_run, stretch_over, stretch_end, all_yes, all_every}
use Rattle.runs.proofs.SeekLaws.{seek_is}
use Rattle.runs.proofs.StretchLaws.{edge}

module _ (lens sets : List ℕ) where
  -- the first runs of joined runs are joined
  pub canon_front : (k n : ℕ) → k ≤ n → Canon (runs lens sets n) → Canon (runs lens sets k)
  unfolding runs Canon
  canon_front k zero h c = let e : k ≡ 0 = omega arith in rw e c
  canon_front k (suc n) h c =
      elim (dec_le k n) [
        | yes g ↦ canon_front k n g c.2
        | no g ↦ let e : k ≡ suc n = omega arith in rw e c
      ]

  -- and mean what all of them mean
  pub at_front : (k n p : ℕ) → k ≤ n → p < total (runs lens sets k) → set_at (runs lens sets n) p ≡ set_at (runs lens sets k) p
  unfolding runs
  at_front k zero p h l = let e : k ≡ 0 = omega arith in rw e refl
  at_front k (suc n) p h l =
      elim (dec_le k n) [
        | yes g ↦ at_in (run (get_or lens n 0) (get_or sets n 0)) (runs lens sets n) p (omega (arith, total_mono lens sets k n g)) ∙ at_front k n p g l
        | no g ↦ let e : k ≡ suc n = omega arith in rw e refl
      ]

  module _ (n : ℕ) (canon : Canon (runs lens sets n)) where
    abbrev alike : ℕ → Bool
    alike p = alike_in (runs lens sets n) p

    -- no run is empty
    some_in : (k : ℕ) → k < n → 0 < get_or lens k 0
    unfolding runs Canon
    some_in k h = let c = canon_front (suc k) n h canon in c.0

    -- neighbours at the start of run k differ
    pub edge_at : (k q : ℕ) → k < n → sums lens k ≡ suc q → alike q ≡ false
    unfolding runs
    edge_at k q h e =
        let t = total_sums lens sets k in
        let m = total_more lens sets k in
        let z : k + 1 ≡ suc k = omega arith in
        let m' = ap (λ (x : ℕ). total (runs lens sets x)) z in
        let s = some_in k h in
        ap₂ eqb (at_front (suc k) n q h (omega arith)) (at_front (suc k) n (suc q) h (omega arith))
        ∙ edge (run (get_or lens k 0) (get_or sets k 0)) (runs lens sets k) q (canon_front (suc k) n h canon) (t ∙ e)

    -- neighbours within a run are alike
    in_run : (k p : ℕ) → k < n → sums lens k ≤ p → suc p < sums lens k + get_or lens k 0 → alike p ≡ true
    in_run k p h a b =
        let t = total_sums lens sets k in
        eq-eqb _ _ (at_run lens sets n k p h (omega arith) (omega arith) ∙ sym (at_run lens sets n k (suc p) h (omega arith) (omega arith)))

    -- ---- the run that is found
    module _ {pos i start end : ℕ} (f : Found lens n pos i start end) (there : i < n) where
      pub found_first : first_of alike pos ≡ start
      unfolding stretch_to
      found_first =
          let a = f.starts in
          let b = f.reached in
          let c = f.inside there in
          let d = c.0 in
          let e = c.1 in
          stretch_over alike start pos b (λ p g h. in_run i p there (omega arith) (omega arith))
          ∙ go start a
        where
          go : (s : ℕ) → s ≡ sums lens i → stretch_to alike s ≡ s
          go zero g = refl
          go (suc q) g = stretch_end alike (suc q) (omega arith) (rw sub-one (edge_at i q there (sym g)))

      pub found_last : last_of alike (total (runs lens sets n)) pos ≡ end - 1
      found_last =
          let a = f.starts in
          let b = f.reached in
          let c = f.inside there in
          let d = c.0 in
          let e = c.1 in
          let t = total_sums lens sets n in
          let u = sum_next (λ k. get_or lens k 0) i n there in
          let m = sum_more (λ k. get_or lens k 0) i in
          seek_is (λ q. not (alike q)) pos (total (runs lens sets n) - suc pos) (end - 1) (omega arith) (omega arith)
          (λ p g h. ap not (in_run i p there (omega arith) (omega arith)))
          (λ g. ap not (edge_at (i + 1) (end - 1) (below (omega arith)) (omega arith)))
        where
          below : sums lens (i + 1) < sums lens n → i + 1 < n
          below h = elim (dec_lt (i + 1) n) [ yes g ↦ g | no g ↦ absurd (omega (arith, sum_up (λ k. get_or lens k 0) n (i + 1) (omega arith))) ]

      -- p has the set that `pos` has
      abbrev same_as : ℕ → Bool
      same_as p = eqb (set_at (runs lens sets n) p) (set_at (runs lens sets n) pos)

      -- all positions from there on have its set up to its end, and no further
      pub found_same : (to : ℕ) → pos < to → to ≤ total (runs lens sets n)
          → all_at (λ p. eqb (set_at (runs lens sets n) p) (set_at (runs lens sets n) pos)) pos to ≡ leb to end
      found_same to l h =
          let a = f.starts in
          let b = f.reached in
          let c = f.inside there in
          let d = c.0 in
          let e = c.1 in
          let t = total_sums lens sets i in
          let here = found_set lens sets n pos i start end f there in
          elim (dec_le to end) [
            | yes g ↦
                all_yes same_as pos to
                (λ p x y. eq-eqb _ _ (at_run lens sets n i p there (omega arith) (omega arith) ∙ sym here))
                ∙ sym (le-leb to end g)
            | no g ↦ differs (all_at (λ p. eqb (set_at (runs lens sets n) p) (set_at (runs lens sets n) pos)) pos to) refl (omega arith) ∙ sym (lt-leb to end (omega arith))
          ]
        where
          below : sums lens (i + 1) < sums lens n → i + 1 < n
          below h = elim (dec_lt (i + 1) n) [ yes g ↦ g | no g ↦ absurd (omega (arith, sum_up (λ k. get_or lens k 0) n (i + 1) (omega arith))) ]

          differs : (r : Bool) → all_at (λ p. eqb (set_at (runs lens sets n) p) (set_at (runs lens sets n) pos)) pos to ≡ r → end < to → r ≡ false
          differs false g k = refl
          differs true g k =
              let a = f.starts in
              let b = f.reached in
              let c = f.inside there in
              let d = c.0 in
              let e = c.1 in
              let t = total_sums lens sets n in
              let m = sum_more (λ k. get_or lens k 0) i in
              let last = all_every same_as pos to g (end - 1) (omega arith) (omega arith) in
              let next = all_every same_as pos to g (suc (end - 1)) (omega arith) (omega arith) in
              absurd
              (true≢false
              (sym
              (eq-eqb (set_at (runs lens sets n) (end - 1)) (set_at (runs lens sets n) (suc (end - 1)))
              (eqb-true (set_at (runs lens sets n) (end - 1)) (set_at (runs lens sets n) pos) last
              ∙ sym (eqb-true (set_at (runs lens sets n) (suc (end - 1))) (set_at (runs lens sets n) pos) next)))
              ∙ edge_at (i + 1) (end - 1) (below (omega arith)) (omega arith)))
