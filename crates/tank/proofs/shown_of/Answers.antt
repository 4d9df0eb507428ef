-- `shown_of` meets its contract: the marks of the bits that are the party's.
use mathlib.Core.Path.{ap, ◌∙◌}
use Rattle.styles.specs.Answers.{styles_of}
use Rattle.tank.proofs.shown_of.Goals as goal

pub returns : goal.returns
returns c = c.styles_of.ensures ∙ ap styles_of c.shown_bits.ensures.1
