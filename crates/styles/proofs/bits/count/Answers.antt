-- The ones of a 64-bit number are at most 64.
use Rattle.std.proofs.Common.{refl, arith}
use lib.Count.{ones-le}
use Rattle.styles.proofs.bits.count.Goals as goal

pub overflow_cast-result : goal.overflow_cast-result
overflow_cast-result c = omega (arith, ones-le 64 c.args.set (omega arith))

pub returns : goal.returns
returns c = (refl, ones-le 64 c.args.set (omega arith))
