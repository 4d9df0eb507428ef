-- `put_integer` meets its contract: a number's text is that of its size, with a minus in front of one below 0.
use mathlib.Core.Path.{ap, ◌∙◌}
use native.Mathlib.Omega.{arith}
use mir.Facts.{to_z-of_z}
use Rattle.std.specs.Prelude.{unsigned_abs}
use Rattle.text.proofs.Integers.{puts_minus, puts_plus}
use Rattle.text.proofs.Negated.{below, above}
use Rattle.text.proofs.put_integer.Goals as goal

pub returns-then-z-lt0 : goal.returns-then-z-lt0
returns-then-z-lt0 c =
    let put = c.put_decimal.ensures in
    let is = below _ c.ranges.z c.if-z-lt0.true in
    puts_minus _ _ _ _ _ _ _ (omega arith) is.1 (c.unsigned_abs.ensures.value ∙ ap unsigned_abs (to_z-of_z c.ranges.z)) put.0 put.1 put.2

pub returns : goal.returns
returns c =
    let put = c.put_decimal-2.ensures in
    let is = above _ c.ranges.z c.if-z-lt0.false in
    puts_plus _ _ _ _ _ _ _ is.1 (c.unsigned_abs-2.ensures.value ∙ ap unsigned_abs (to_z-of_z c.ranges.z)) put.0 put.1 put.2
