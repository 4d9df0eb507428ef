use Prim.Native.Nat.{ℕ, ◌+◌, ◌-◌, ◌≤◌, ◌<◌}
use mathlib.Core.Path.{◌≡◌, refl, ap, ◌∙◌}
use mathlib.Core.List.{List}
use native.Mathlib.Omega.{arith}
use native.Mathlib.Decide.{dec_lt}
use lib.ListN.{get_or}
use Rattle.runs.specs.Runs.{sums}
use Rattle.runs.proofs.SumLaws.{sum_last, sum_some, sum_next}
use Rattle.runs.proofs.find_backward.Goals as goal

-- where `pos` is not reached there is a run before, which ends where run k starts
run-before : (lens : List ℕ) (k : ℕ) {start pos : ℕ} → start ≡ sums lens k → pos < start
    → (0 < k) × (start ≡ sums lens (k - 1) + get_or lens (k - 1) 0)
run-before lens k e l =
    let some = sum_some (λ j. get_or lens j 0) k (omega arith) in
    (some, e ∙ sum_last (λ j. get_or lens j 0) k some)

-- where it is reached there is run k
stops-in : (lens : List ℕ) (n k : ℕ) {all pos start : ℕ} → k ≤ n → start ≡ sums lens k → all ≡ sums lens n → pos < all → start ≤ pos → k < n
stops-in lens n k h e a l r =
    elim (dec_lt k n) [ yes g ↦ g | no g ↦ let z : k ≡ n = omega arith in absurd (omega (arith, ap (sums lens) z)) ]

pub loop-start-init : goal.loop-start-init
loop-start-init c = (omega arith, c.requires.1, λ h. absurd (omega arith))

pub overflow_sub-k : goal.overflow_sub-k
overflow_sub-k c = (run-before c.args.lens.now c.loop-start.k c.loop-start.invariant.1 c.loop-start-test.true).0

pub offset_bounds-lens-k : goal.offset_bounds-lens-k
offset_bounds-lens-k c =
    let e = run-before c.args.lens.now c.loop-start.k c.loop-start.invariant.1 c.loop-start-test.true in
    omega (arith, e.0)

pub bounds-lens-k : goal.bounds-lens-k
bounds-lens-k c =
    let e = run-before c.args.lens.now c.loop-start.k c.loop-start.invariant.1 c.loop-start-test.true in
    omega (arith, e.0)

pub overflow_sub-start : goal.overflow_sub-start
overflow_sub-start c =
    let e = run-before c.args.lens.now c.loop-start.k c.loop-start.invariant.1 c.loop-start-test.true in
    omega (arith, e.1)

pub loop-start-smaller : goal.loop-start-smaller
loop-start-smaller c =
    let e = run-before c.args.lens.now c.loop-start.k c.loop-start.invariant.1 c.loop-start-test.true in
    omega (arith, e.0)

pub loop-start-preserved : goal.loop-start-preserved
loop-start-preserved c =
    let g = c.loop-start-test.true in
    let e = run-before c.args.lens.now c.loop-start.k c.loop-start.invariant.1 g in
    (omega (arith, e.0), omega (arith, e.1), λ h. omega (arith, e.1))

pub offset_bounds-lens-k-2 : goal.offset_bounds-lens-k-2
offset_bounds-lens-k-2 c =
    omega (
      arith,
      stops-in c.args.lens.now c.args.n c.loop-start.k c.loop-start.invariant.0 c.loop-start.invariant.1 c.requires.1 c.requires.3 c.loop-start-test.false,
    )

pub bounds-lens-k-2 : goal.bounds-lens-k-2
bounds-lens-k-2 c =
    omega (
      arith,
      stops-in c.args.lens.now c.args.n c.loop-start.k c.loop-start.invariant.0 c.loop-start.invariant.1 c.requires.1 c.requires.3
          c.loop-start-test.false,
    )

pub overflow_add-result : goal.overflow_add-result
overflow_add-result c =
    let there = stops-in c.args.lens.now c.args.n c.loop-start.k c.loop-start.invariant.0 c.loop-start.invariant.1 c.requires.1 c.requires.3
    c.loop-start-test.false in
    omega (arith, sum_next (λ j. get_or c.args.lens.now j 0) c.loop-start.k c.args.n there)

pub returns : goal.returns
returns c =
    let v = c.loop-start.invariant in
    let there = stops-in c.args.lens.now c.args.n c.loop-start.k v.0 v.1 c.requires.1 c.requires.3 c.loop-start-test.false in
    record {
      within = v.0;
      starts = v.1;
      reached = c.loop-start-test.false;
      inside = λ h. (v.2 h, refl);
      past = λ h. absurd (omega arith);
    }
