-- An OR with the bit alone, which fits where it is one of 64.
use Rattle.std.proofs.Common.{sym, ap, ◌∙◌, arith}
use lib.Bits.{bit_or}
use Rattle.styles.specs.Bits.{with_bit}
use Rattle.styles.proofs.BitLaws.{shl_one, with_bit_fits, with_past}
use Rattle.styles.proofs.bits.with_bit.Goals as goal

pub returns-then-i-lt64 : goal.returns-then-i-lt64
unfolding with_bit
returns-then-i-lt64 c =
    let a = c.args in
    ap (bit_or a.set) (shl_one a.i c.if-i-lt64.true) ∙ sym (with_bit_fits a.i a.set c.if-i-lt64.true (omega arith))

pub returns : goal.returns
returns c = let a = c.args in sym (with_past a.i a.set (omega arith) (omega arith))
