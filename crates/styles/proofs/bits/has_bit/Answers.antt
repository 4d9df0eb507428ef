-- The bit by a shift; a set of 64 bits has none from 64 on.
use Rattle.std.proofs.Common.{sym, arith}
use Rattle.styles.proofs.BitLaws.{has_past}
use Rattle.styles.proofs.bits.has_bit.Goals as goal

pub returns : goal.returns
returns c = let a = c.args in sym (has_past 64 a.i a.set (omega arith) (omega arith))
