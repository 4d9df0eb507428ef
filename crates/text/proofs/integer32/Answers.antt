-- `integer32` meets its contract: what is read with the bound 2^31 fits 32 bits, so that the cast leaves it as it is.
use Rattle.std.specs.Prelude.{Some}
use mathlib.Core.Path.{◌≡◌, sym, ap, ◌∙◌}
use Prim.Native.Nat.{◌^◌}
use Rattle.text.specs.Signed.{signed_within, narrow_of, signed32_of}
use Rattle.text.proofs.Integers.{narrow_fits, narrowed}
use Rattle.text.proofs.integer32.Goals as goal

pub returns-in_err-z : goal.returns-in_err-z
unfolding signed32_of
returns-in_err-z c = c.from_residual.ensures ∙ sym (ap narrow_of (sym c.integer_within.ensures ∙ c.in_err-z.was))

pub overflow_cast-result : goal.overflow_cast-result
overflow_cast-result c = narrow_fits _ _ ((let h : signed_within (2 ^ 31) c.args.s.now ≡ Some c.in_ok-z.z = sym c.integer_within.ensures ∙ c.in_ok-z.was in h))

pub returns : goal.returns
returns c = narrowed _ _ ((let h : signed_within (2 ^ 31) c.args.s.now ≡ Some c.in_ok-z.z = sym c.integer_within.ensures ∙ c.in_ok-z.was in h))
