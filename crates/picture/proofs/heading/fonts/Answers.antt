-- One behind the other.
use Rattle.answers.proofs.Laws.{and_then}
use Rattle.picture.specs.Heading.{fonts_say}
use Rattle.picture.proofs.heading.fonts.Goals as goal

pub returns : goal.returns
unfolding fonts_say
returns c = and_then c.say-a.ensures (and_then c.say-b.ensures c.say.ensures)
