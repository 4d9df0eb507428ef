-- The bits from i on, added to the set, double: they move up by one, and the sum drops what goes past bit 63.
use Rattle.std.proofs.Common.{ℕ, ◌+◌, ◌%◌, ◌^◌, sym, ap, ◌∙◌, arith}
use Rattle.styles.proofs.BitLaws.{open_is, open_past, high_fits}
use Rattle.styles.proofs.bits.open_bit.Goals as goal

pub returns-then-i-lt64 : goal.returns-then-i-lt64
returns-then-i-lt64 c =
    let a = c.args in
    c.wrapping_add_u64.ensures.value
    ∙ ap (λ (x : ℕ). (a.set + x) % 2 ^ 64) (high_fits a.set a.i (omega arith))
    ∙ ap (λ (x : ℕ). x % 2 ^ 64) (sym (open_is a.i a.set))

pub returns : goal.returns
returns c = let a = c.args in sym (open_past a.i a.set (omega arith) (omega arith))
