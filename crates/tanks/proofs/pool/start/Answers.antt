use borrow.Author.Rules.{rules}
use native.Mathlib.Omega.{arith}
use Prim.Native.Nat.{◌<◌}
use mathlib.Core.Path.{◌≡◌, refl, ap}
use lib.ListN.{length}
use lib.Seq.{get_or-take, length-take-le}
use Rattle.runs.specs.Positions.{sum_below}
use Rattle.runs.proofs.SumLaws.{sum_more, sum_next}
use Rattle.tanks.specs.declared.Head.{Head}
use Rattle.tanks.specs.Pool.{no_head, runs_in}
use Rattle.tanks.proofs.pool.start.Goals as goal

pub loop-h-init : goal.loop-h-init
unfolding sum_below
loop-h-init c = refl

pub overflow_add-at : goal.overflow_add-at
overflow_add-at c =
    let long : length c.args.heads ≡ 8 = search rules in
    let whole = length-take-le c.args.t c.args.heads (omega arith) in
    let within : c.loop-h.h-index < c.args.t = omega arith in
    omega (arith, ap (λ (h : Head). h.runs) (get_or-take c.args.t c.args.heads c.loop-h.h-index no_head within), sum_next (runs_in c.args.heads) c.loop-h.h-index 8 (omega arith))

pub loop-h-preserved : goal.loop-h-preserved
loop-h-preserved c =
    let long : length c.args.heads ≡ 8 = search rules in
    let whole = length-take-le c.args.t c.args.heads (omega arith) in
    let within : c.loop-h.h-index < c.args.t = omega arith in
    omega (arith, ap (λ (h : Head). h.runs) (get_or-take c.args.t c.args.heads c.loop-h.h-index no_head within), sum_more (runs_in c.args.heads) c.loop-h.h-index)
