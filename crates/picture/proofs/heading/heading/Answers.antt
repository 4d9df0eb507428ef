-- One behind the other.
use Rattle.answers.proofs.Laws.{and_then}
use Rattle.picture.specs.Heading.{heading_says}
use Rattle.picture.proofs.heading.heading.Goals as goal

pub returns : goal.returns
unfolding heading_says
returns c = and_then c.say-a.ensures (and_then c.style-b.ensures (and_then c.ground-c.ensures c.title.ensures))
