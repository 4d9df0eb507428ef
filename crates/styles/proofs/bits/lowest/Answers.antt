-- The zeros below the lowest bit are its place.
use Rattle.std.proofs.Common.{refl, arith}
use lib.Count.{trailing_le}
use Rattle.styles.proofs.bits.lowest.Goals as goal

pub overflow_cast-result : goal.overflow_cast-result
overflow_cast-result c = omega (arith, trailing_le 64 c.args.set)

pub returns : goal.returns
returns c = (refl, trailing_le 64 c.args.set)
