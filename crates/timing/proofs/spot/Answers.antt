-- Two remainders, and the second is below the number of marked runs.
use Rattle.std.proofs.Common.{arith}
use Rattle.timing.proofs.spot.Goals as goal

pub returns : goal.returns
returns c = (rw (c.rest-2.ensures.0, c.rest.ensures.0), omega (arith, c.rest-2.ensures.1))
