-- A hatched part, or none.
use Rattle.answers.proofs.Laws.{and_then}
use Rattle.picture.specs.Bands.{hatch_says}
use Rattle.picture.proofs.Choices.{chosen, not_chosen}
use Rattle.picture.proofs.bands.hatch_if.Goals as goal

pub returns-then-yes : goal.returns-then-yes
unfolding hatch_says
returns-then-yes c = chosen c.args.yes c.if-yes.true (and_then c.part-a.ensures c.say.ensures)

pub returns : goal.returns
returns c = not_chosen _ _ _ c.args.yes c.if-yes.false
