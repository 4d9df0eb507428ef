use Prim.Native.Nat.{ℕ, ◌≤◌, ◌<◌, min}
use mathlib.Core.Path.{◌≡◌, refl, ap}
use mathlib.Core.List.{List}
use native.Mathlib.Omega.{arith}
use native.Mathlib.Decide.{dec_lt}
use Rattle.runs.specs.Positions.{sum_below}
use lib.ListN.{get_or}
use Rattle.runs.specs.Runs.{sums}
use Rattle.runs.proofs.SumLaws.{sum_more, sum_next}
use Rattle.runs.proofs.first_runs.Goals as goal

-- runs that end before `before` are not all runs, so they are as many as the budget
all-or : (lens : List ℕ) (n before budget i : ℕ) → i ≡ min n budget → before ≤ sums lens n → sums lens i < before → i ≡ budget
all-or lens n before budget i e h l =
    elim (dec_lt i n) [ yes g ↦ omega arith | no g ↦ let z : i ≡ n = omega arith in absurd (omega (arith, ap (sums lens) z)) ]

pub loop-i-init : goal.loop-i-init
unfolding sum_below
loop-i-init c = (refl, λ j h. absurd (omega arith))

pub returns-then-before-end : goal.returns-then-before-end
returns-then-before-end c =
    let l = c.loop-i in
    let m = c.min-most.ensures in
    let e = l.invariant.0 in
    let t = c.if-before-end.true in
    record {
      within = omega arith;
      few = omega arith;
      begins = l.invariant.1;
      full = λ h. absurd (omega arith);
      ends = omega arith;
    }

pub offset_bounds-lens-i : goal.offset_bounds-lens-i
offset_bounds-lens-i c =
    let m = c.min-most.ensures in
    omega arith

pub bounds-lens-i : goal.bounds-lens-i
bounds-lens-i c =
    let m = c.min-most.ensures in
    omega arith

pub overflow_add-end : goal.overflow_add-end
overflow_add-end c =
    let a = c.args in
    let m = c.min-most.ensures in
    omega (arith, sum_next (λ k. get_or a.lens.now k 0) c.loop-i.i a.n (omega arith))

pub loop-i-preserved : goal.loop-i-preserved
loop-i-preserved c =
    let a = c.args in
    let l = c.loop-i in
    let t = c.if-before-end.false in
    let e = l.invariant.0 in (
      omega (arith, sum_more (λ k. get_or a.lens.now k 0) l.i),
      λ j h. let z : j ≡ l.i = omega arith in rw z (omega arith),
    )

pub returns : goal.returns
returns c =
    let a = c.args in
    let l = c.loop-i in
    let m = c.min-most.ensures in
    let last : l.i ≡ c.min-most.result = omega arith in
    let e : l.end ≡ sums a.lens.now c.min-most.result = rw (← last) l.invariant.0 in
    let t = c.loop-i-test.false in
    let g = c.min.ensures in
    record {
      within = omega arith;
      few = omega arith;
      begins = rw (← last) l.invariant.1;
      full = λ h. all-or a.lens.now a.n a.before a.budget c.min-most.result m c.requires.1 h;
      ends = omega arith;
    }
