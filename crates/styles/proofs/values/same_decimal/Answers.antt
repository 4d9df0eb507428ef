-- Two f64 have one pattern of bits exactly where they are one value; the patterns of a NaN are not asked for.
use Rattle.std.proofs.Common.{T, sym, ◌∙◌, rules}
use lib.Ieee.{binary64, fits}
use Rattle.styles.proofs.Floats.{ne_self, not_nan}
use Rattle.styles.proofs.ValueLaws.{decimal_nan, nan_decimal, decimal_bits}
use Rattle.styles.proofs.values.same_decimal.Goals as goal

pub returns-then-a : goal.returns-then-a
returns-then-a c =
    let x = c.args in
    ne_self x.b ∙ sym (decimal_nan x.a x.b (sym (ne_self x.a) ∙ c.if-a.true))

pub returns-then-b : goal.returns-then-b
returns-then-b c =
    let x = c.args in
    sym (nan_decimal x.a x.b (sym (ne_self x.a) ∙ c.if-a.false) (sym (ne_self x.b) ∙ c.if-b.true))

pub float_to_bits-result : goal.float_to_bits-result
float_to_bits-result c = let x = c.args in not_nan x.a (sym (ne_self x.a) ∙ c.if-a.false)

pub float_to_bits-result-2 : goal.float_to_bits-result-2
float_to_bits-result-2 c = let x = c.args in not_nan x.b (sym (ne_self x.b) ∙ c.if-b.false)

pub returns : goal.returns
returns c =
    let x = c.args in
    let fa : T (fits binary64 x.a) = search rules in
    let fb : T (fits binary64 x.b) = search rules in
    sym (decimal_bits x.a x.b fa fb)
