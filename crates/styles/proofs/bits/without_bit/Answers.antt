-- An AND with all bits but that one; a set of 64 bits has none from 64 on.
use Rattle.std.proofs.Common.{ℕ, ◌-◌, ◌^◌, sym, ap, ◌∙◌, arith}
use lib.Bits.{bit_and}
use Rattle.styles.proofs.BitLaws.{shl_one, without_is, without_past}
use Rattle.styles.proofs.bits.without_bit.Goals as goal

pub returns-then-i-lt64 : goal.returns-then-i-lt64
returns-then-i-lt64 c =
    let a = c.args in
    ap (λ (x : ℕ). bit_and a.set (2 ^ 64 - 1 - x)) (shl_one a.i c.if-i-lt64.true)
    ∙ sym (without_is 64 a.i a.set c.if-i-lt64.true (omega arith))

pub returns : goal.returns
returns c = let a = c.args in sym (without_past 64 a.i a.set (omega arith) (omega arith))
