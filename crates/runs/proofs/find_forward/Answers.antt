use mathlib.Core.Path.{refl}
use native.Mathlib.Omega.{arith}
use lib.ListN.{get_or}
use Rattle.runs.specs.Positions.{sum_below}
use Rattle.runs.proofs.SumLaws.{sum_more, sum_next}
use Rattle.runs.proofs.find_forward.Goals as goal

pub loop-i-init : goal.loop-i-init
unfolding sum_below
loop-i-init c = (refl, omega arith)

pub overflow_add-end : goal.overflow_add-end
overflow_add-end c =
    let a = c.args in
    let i = c.loop-i.i in
    omega (arith, sum_next (λ k. get_or a.lens.now k 0) i a.n (omega arith))

pub loop-i-preserved : goal.loop-i-preserved
loop-i-preserved c = omega (arith, sum_more (λ k. get_or c.args.lens.now k 0) c.loop-i.i)
