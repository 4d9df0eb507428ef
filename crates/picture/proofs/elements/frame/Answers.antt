-- One behind the other.
use Rattle.answers.proofs.Laws.{and_then}
use Rattle.picture.specs.Elements.{frame_says}
use Rattle.picture.proofs.elements.frame.Goals as goal

pub returns : goal.returns
unfolding frame_says
returns c = and_then c.rect-a.ensures c.say.ensures
