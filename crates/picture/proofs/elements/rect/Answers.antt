-- One behind the other.
use Rattle.answers.proofs.Laws.{and_then}
use Rattle.picture.specs.Elements.{rect_says}
use Rattle.picture.proofs.elements.rect.Goals as goal

pub returns : goal.returns
unfolding rect_says
returns c = and_then c.between-a.ensures (and_then c.number-b.ensures (and_then c.number-c.ensures c.number.ensures))
