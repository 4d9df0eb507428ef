-- 64 bits hold what 32 do, so that the cast leaves the number as it is.
use mathlib.Core.Path.{◌≡◌, sym, ap, subst, ◌∙◌}
use lib.IntN.{ℤ}
use mir.Syntax.{w32, w64}
use mir.Val.{SFits, to_z, of_z}
use mir.Facts.{sfits_widen, to_z-of_z}
use Rattle.text.proofs.widths.wide_signed.Goals as goal

module _ (z : ℤ) (fits : SFits w32 z) where
  wider : SFits w64 z
  wider = sfits_widen {w = w32} {w' = w64} {z = z} tt fits

  widens : SFits w64 (to_z w32 (of_z w32 z))
  widens = subst (SFits w64) (sym (to_z-of_z fits)) wider

  widened : to_z w64 (of_z w64 (to_z w32 (of_z w32 z))) ≡ z
  widened = ap (λ (y : ℤ). to_z w64 (of_z w64 y)) (to_z-of_z fits) ∙ to_z-of_z wider

pub overflow_cast-result : goal.overflow_cast-result
overflow_cast-result c = widens c.args.n c.ranges.n

pub returns : goal.returns
returns c = widened c.args.n c.ranges.n
