-- One behind the other.
use Rattle.answers.proofs.Laws.{and_then}
use Rattle.picture.specs.Heading.{title_says}
use Rattle.picture.proofs.heading.title.Goals as goal

pub returns : goal.returns
unfolding title_says
returns c = and_then c.say-a.ensures (and_then c.say-b.ensures c.say.ensures)
