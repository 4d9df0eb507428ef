-- One behind the other.
use Rattle.answers.proofs.Laws.{and_then}
use Rattle.picture.specs.Elements.{text_says}
use Rattle.picture.proofs.elements.text_at.Goals as goal

pub returns : goal.returns
unfolding text_says
returns c = and_then c.say-a.ensures (and_then c.say-b.ensures (and_then c.between-c.ensures c.number.ensures))
