-- One behind the other.
use Rattle.answers.proofs.Laws.{and_then}
use Rattle.picture.specs.Elements.{number_says}
use Rattle.picture.proofs.elements.number.Goals as goal

pub returns : goal.returns
unfolding number_says
returns c = and_then c.say_number-a.ensures c.say.ensures
