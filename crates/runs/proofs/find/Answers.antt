-- `runs::find` meets its contract: past the end, or by one walk or the other, whichever is taken.
use Prim.Native.Nat.{ℕ, ◌<◌}
use mathlib.Core.Path.{◌≡◌}
use mathlib.Core.List.{List}
use native.Mathlib.Omega.{arith}
use lib.ListN.{get_or}
use Rattle.runs.specs.Runs.{sums}
use Rattle.runs.proofs.SumLaws.{sum_last, sum_some}
use Rattle.runs.proofs.find.Goals as goal

-- where there is a position there is a run
some-run : (lens : List ℕ) (n : ℕ) {all pos : ℕ} → all ≡ sums lens n → pos < all → 0 < n
some-run lens n e l = sum_some (λ k. get_or lens k 0) n (omega arith)

pub overflow_sub-n : goal.overflow_sub-n
overflow_sub-n c = omega (arith, some-run c.args.lens.now c.args.n c.requires.1 c.if-all-pos.false)

pub bounds-lens-n : goal.bounds-lens-n
bounds-lens-n c = omega (arith, some-run c.args.lens.now c.args.n c.requires.1 c.if-all-pos.false)

pub overflow_sub-all : goal.overflow_sub-all
overflow_sub-all c =
    let some = some-run c.args.lens.now c.args.n c.requires.1 c.if-all-pos.false in
    omega (arith, sum_last (λ k. get_or c.args.lens.now k 0) c.args.n some)
