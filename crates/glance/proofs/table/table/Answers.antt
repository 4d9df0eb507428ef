use native.Mathlib.Omega.{arith}
use Rattle.tanks.specs.Pool.{meaning}
use Rattle.answers.proofs.Laws.{and_then, left_all, left_more, left_none}
use Rattle.glance.specs.Glance.{row_at, table_says}
use Rattle.glance.proofs.Laws.{each_more, each_none}
use Rattle.glance.proofs.table.table.Goals as goal

pub loop-t-preserved : goal.loop-t-preserved
loop-t-preserved c =
    let w = c.loop-t in
    left_more (each_more (row_at (meaning c.args.s)) w.t (omega arith)) c.row_at-at.ensures w.invariant

pub returns : goal.returns
unfolding table_says
returns c =
    let w = c.loop-t in
    and_then c.say-at.ensures (left_none (each_none (row_at (meaning c.args.s)) w.t (omega arith)) w.invariant)
