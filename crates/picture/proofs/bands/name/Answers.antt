-- One behind the other.
use Rattle.answers.proofs.Laws.{and_then}
use Rattle.picture.specs.Bands.{name_says}
use Rattle.picture.proofs.bands.name.Goals as goal

pub returns : goal.returns
unfolding name_says
returns c = and_then c.text_at-a.ensures c.between.ensures
