use mathlib.Core.Path.{◌≡◌}
use native.Mathlib.Omega.{arith}
use Rattle.runs.proofs.MapLaws.{renumber_none, renumber_more}
use Rattle.runs.proofs.sets.close_sets.Goals as goal

pub loop-k-init : goal.loop-k-init
loop-k-init c = renumber_none _ _

pub loop-k-preserved : goal.loop-k-preserved
loop-k-preserved c = renumber_more _ c.loop-k.k _ c.loop-k.invariant (omega arith) c.close_bit.ensures

pub returns : goal.returns
returns c =
    let e : c.loop-k.k ≡ c.args.n = omega arith in
    rw (← e) c.loop-k.invariant
