-- The bits above i, halved, beside those below it.
use Rattle.std.proofs.Common.{sym, arith}
use lib.Pow.{split}
use Rattle.styles.proofs.BitLaws.{close_is, close_le, close_past, high_fits}
use Rattle.styles.proofs.bits.close_bit.Goals as goal

pub overflow_sub-low : goal.overflow_sub-low
overflow_sub-low c = let a = c.args in omega (arith, high_fits a.set a.i (omega arith), split a.set a.i)

pub overflow_add-result : goal.overflow_add-result
overflow_add-result c = let a = c.args in omega (arith, close_is a.i a.set (omega arith), close_le a.i a.set)

pub returns-then-i-lt64 : goal.returns-then-i-lt64
returns-then-i-lt64 c = let a = c.args in close_is a.i a.set (omega arith)

pub returns : goal.returns
returns c = let a = c.args in sym (close_past a.i a.set (omega arith) (omega arith))
