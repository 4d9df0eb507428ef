-- One behind the other.
use Rattle.answers.proofs.Laws.{and_then}
use Rattle.picture.specs.Heading.{shapes_say}
use Rattle.picture.proofs.heading.shapes.Goals as goal

pub returns : goal.returns
unfolding shapes_say
returns c = and_then c.say-a.ensures c.say.ensures
