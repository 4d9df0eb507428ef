-- `lent::lay` meets its contract: the mark is one of 64, so its bit fits.
use native.Mathlib.Omega.{arith}
use Rattle.tank.proofs.LayLaws.{bit_is}
use Rattle.tank.proofs.lent.lay.Goals as goal

pub alter-requires : goal.alter-requires
alter-requires c = rw (bit_is c.args.i (omega (arith, c.requires.0)) c.with_bit-bit.ensures) c.requires.1

pub returns-clause-joined : goal.returns-clause-joined
returns-clause-joined c = rw (bit_is c.args.i (omega (arith, c.requires.0)) c.with_bit-bit.ensures) at c.alter.ensures.joined
