-- One behind the other.
use Rattle.answers.proofs.Laws.{and_then}
use Rattle.picture.specs.Heading.{colours_say}
use Rattle.picture.proofs.heading.colours.Goals as goal

pub returns : goal.returns
unfolding colours_say
returns c = and_then c.say-a.ensures (and_then c.say-b.ensures (and_then c.say-c.ensures c.say.ensures))
