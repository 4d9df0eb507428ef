-- One behind the other.
use Rattle.answers.proofs.Laws.{and_then}
use Rattle.picture.specs.Lanes.{bar_says}
use Rattle.picture.proofs.lanes.bar.Goals as goal

pub returns : goal.returns
unfolding bar_says
returns c = and_then c.part-a.ensures c.colour.ensures
