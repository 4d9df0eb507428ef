-- A remainder is below its divisor.
use Rattle.std.proofs.Common.{refl, mod-lt, arith}
use Rattle.timing.proofs.rest.Goals as goal

pub returns : goal.returns
returns c = (refl, mod-lt c.args.x (omega arith))
