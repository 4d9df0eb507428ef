-- One behind the other.
use Rattle.answers.proofs.Laws.{and_then}
use Rattle.picture.specs.Bands.{tick_says}
use Rattle.picture.proofs.bands.tick.Goals as goal

pub returns : goal.returns
unfolding tick_says
returns c = and_then c.between-a.ensures c.number.ensures
