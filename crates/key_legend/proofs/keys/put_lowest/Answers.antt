use Rattle.std.proofs.Common.{arith, length}
use Rattle.tanks.specs.Pool.{meaning}
use Rattle.key_legend.proofs.Lowest.{keys_on, keys_all}
use Rattle.key_legend.proofs.keys.put_lowest.Goals as goal

pub loop-key-preserved : goal.loop-key-preserved
loop-key-preserved c =
    let a = c.args in
    keys_on a.whose (meaning a.s) (length a.keys.now) c.loop-key.keys c.loop-key.least c.loop-key.key-index _ _ c.loop-key.invariant c.loop-key-test.true c.first_key.ensures c.next-least.ensures

pub returns : goal.returns
returns c =
    let a = c.args in
    keys_all a.whose (meaning a.s) (length a.keys.now) c.loop-key.keys c.loop-key.least c.loop-key.key-index c.loop-key.invariant (omega arith)
