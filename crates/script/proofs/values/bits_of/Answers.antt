-- By one test, whether the number is a NaN.
use mathlib.Core.Path.{◌≡◌, refl, sym, ap, ◌∙◌}
use lib.Ieee.{nan, binary64, to_bits}
use Rattle.styles.proofs.Floats.{ne_self, nan_of, not_nan}
use Rattle.script.proofs.values.bits_of.Goals as goal

nan-bits : to_bits binary64 nan ≡ 0x7ff8_0000_0000_0000
unfolding to_bits
nan-bits = refl

pub returns-then-x : goal.returns-then-x
returns-then-x c = let x = c.args.x in sym (ap (to_bits binary64) (nan_of x (sym (ne_self x) ∙ c.if-x.true)) ∙ nan-bits)

pub float_to_bits-result : goal.float_to_bits-result
float_to_bits-result c = let x = c.args.x in not_nan x (sym (ne_self x) ∙ c.if-x.false)
