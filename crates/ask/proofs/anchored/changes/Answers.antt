-- `changes` meets its contract: the bits on either side are counted.
use mathlib.Core.Path.{ap}
use lib.Count.{ones}
use native.Mathlib.Omega.{arith}
use Rattle.ask.proofs.anchored.changes.Goals as goal

pub returns : goal.returns
returns c = (omega (arith, c.count.ensures.0, ap ones c.lacking.ensures, c.count-2.ensures.0, ap ones c.lacking-2.ensures), omega (arith, c.count.ensures.1, c.count-2.ensures.1))
