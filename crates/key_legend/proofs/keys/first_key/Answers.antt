use Rattle.std.proofs.Common.{◌≡◌, arith, min}
use Rattle.std.proofs.lemmas.Grind.{common_steps}
use Rattle.tanks.specs.Pool.{meaning}
use Rattle.tank.specs.State.{view}
use Rattle.key_legend.proofs.Lowest.{tanks_none, tanks_on, tanks_all}
use Rattle.key_legend.proofs.keys.first_key.Goals as goal

pub loop-t-init : goal.loop-t-init
loop-t-init c = let a = c.args in tanks_none a.whose a.least (meaning a.s)

pub loop-t-preserved : goal.loop-t-preserved
loop-t-preserved c =
    let a = c.args in
    let low : c.min-first.result ≡ min c.loop-t.first c.first_in.result = grind (arith, common_steps) in
    tanks_on a.whose a.least (meaning a.s) c.loop-t.t c.loop-t.first _ _ (view c.take.result) c.take.ensures.is c.loop-t.invariant c.first_in.ensures low

pub returns : goal.returns
returns c = let a = c.args in tanks_all a.whose a.least (meaning a.s) c.loop-t.t _ (omega arith) (omega arith) c.loop-t.invariant
