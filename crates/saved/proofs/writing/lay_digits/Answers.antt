-- The digits are made apart, and laid behind the name.
use native.Mathlib.Omega.{arith}
use mathlib.Core.Path.{◌≡◌, ap, ◌∙◌}
use lib.ListN.{length, take}
use Rattle.text.specs.Number.{hex_text}
use Rattle.text.proofs.Laws.{digits_hex, length_hex}
use Rattle.text_lines.specs.Lines.{word_text}
use Rattle.saved.proofs.Laying.{lays_more, lays_as}
use Rattle.saved.proofs.writing.lay_digits.Goals as goal

pub lay_word-requires : goal.lay_word-requires
lay_word-requires c =
    let made : take c.hex-k.result c.hex-k.new.out ≡ hex_text c.args.n = c.hex-k.ensures.digits ∙ digits_hex _ _ c.ranges.n.fits c.hex-k.ensures.len in
    let few = length_hex c.args.n in
    omega (arith, ap length made)

pub returns : goal.returns
returns c =
    let made : take c.hex-k.result c.hex-k.new.out ≡ hex_text c.args.n = c.hex-k.ensures.digits ∙ digits_hex _ _ c.ranges.n.fits c.hex-k.ensures.len in
    let few = length_hex c.args.n in
    lays_as (ap (word_text c.args.name.now) made) (lays_more (omega (arith, ap length made)) c.lay_word.ensures)
