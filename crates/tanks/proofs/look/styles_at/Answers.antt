-- `styles_at` meets its contract: the marks that are shown.
use mathlib.Core.Path.{ap, ◌∙◌}
use Rattle.styles.specs.Answers.{styles_of}
use Rattle.tanks.proofs.LookLaws.{few_in}
use Rattle.tanks.proofs.look.styles_at.Goals as goal

pub styles_of-requires : goal.styles_of-requires
styles_of-requires c = (few_in c.requires, c.seen_at.ensures.1)

pub returns : goal.returns
returns c = c.styles_of.ensures ∙ ap styles_of c.seen_at.ensures.0
