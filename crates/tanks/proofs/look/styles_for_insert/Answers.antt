-- `styles_for_insert` meets its contract: the marks of the bits that are shown.
use mathlib.Core.Path.{ap, ◌∙◌}
use Rattle.styles.specs.Answers.{styles_of}
use Rattle.tanks.proofs.LookLaws.{few_in}
use Rattle.tanks.proofs.look.styles_for_insert.Goals as goal

pub styles_of-requires : goal.styles_of-requires
styles_of-requires c = (few_in c.requires.0, c.seen_for_insert.ensures.1)

pub returns : goal.returns
returns c = c.styles_of.ensures ∙ ap styles_of c.seen_for_insert.ensures.0
