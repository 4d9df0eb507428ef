-- `bits::top_in` meets its contract: the highest bit that the set has of the first mask is where the look from the top ends.
use Rattle.std.proofs.Common.{ℕ, ◌^◌, ◌<◌, sym, ap, ◌∙◌, add-one, arith}
use lib.Bits.{bit_and, and_le_l}
use Rattle.styles.specs.Bits.{top_in}
use Rattle.styles.proofs.MaskLaws.{top_in_none, top_in_top}
use Rattle.styles.proofs.bits.top_in.Goals as goal

pub returns-then-u-eq0 : goal.returns-then-u-eq0
returns-then-u-eq0 c =
    let v = c.args.second in
    sym (ap (λ (x : ℕ). top_in 64 x v) c.if-u-eq0.true ∙ top_in_none 64 v)

pub returns : goal.returns
returns c =
    let a = c.args in
    let u : ℕ = bit_and a.set a.first in
    let small : u < 2 ^ 64 = omega (arith, and_le_l a.set a.first) in
    c.has_bit.ensures
    ∙ sym (top_in_top 64 c.highest-j.result u a.second small c.highest-j.ensures.1 (rw (add-one c.highest-j.result) at c.highest-j.ensures.2))
