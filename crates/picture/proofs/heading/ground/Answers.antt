-- One behind the other.
use Rattle.answers.proofs.Laws.{and_then}
use Rattle.picture.specs.Heading.{ground_says}
use Rattle.picture.proofs.heading.ground.Goals as goal

pub returns : goal.returns
unfolding ground_says
returns c = and_then c.say-a.ensures (and_then c.say-b.ensures c.say.ensures)
