-- The digits are made apart, and laid behind the name.
use native.Mathlib.Omega.{arith}
use mathlib.Core.Path.{◌≡◌, ap, ◌∙◌}
use lib.ListN.{length, take}
use Rattle.text.specs.Number.{decimal_text}
use Rattle.text.proofs.Laws.{digits_decimal, length_decimal}
use Rattle.text_lines.specs.Lines.{word_text}
use Rattle.saved.proofs.Laying.{lays_more, lays_as}
use Rattle.saved.proofs.writing.lay_number.Goals as goal

pub lay_word-requires : goal.lay_word-requires
lay_word-requires c =
    let made : take c.decimal-k.result c.decimal-k.new.out ≡ decimal_text c.args.n = c.decimal-k.ensures.digits ∙ digits_decimal _ _ c.ranges.n.fits c.decimal-k.ensures.len in
    let few = length_decimal _ c.ranges.n.fits in
    omega (arith, ap length made)

pub returns : goal.returns
returns c =
    let made : take c.decimal-k.result c.decimal-k.new.out ≡ decimal_text c.args.n = c.decimal-k.ensures.digits ∙ digits_decimal _ _ c.ranges.n.fits c.decimal-k.ensures.len in
    let few = length_decimal _ c.ranges.n.fits in
    lays_as (ap (word_text c.args.name.now) made) (lays_more (omega (arith, ap length made)) c.lay_word.ensures)
