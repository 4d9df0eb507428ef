-- One behind the other.
use Rattle.answers.proofs.Laws.{and_then}
use Rattle.picture.specs.Heading.{style_says}
use Rattle.picture.proofs.heading.style.Goals as goal

pub returns : goal.returns
unfolding style_says
returns c = and_then c.say-a.ensures (and_then c.colours-b.ensures (and_then c.shapes-c.ensures (and_then c.fonts-d.ensures c.say.ensures)))
