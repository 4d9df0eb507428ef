-- One behind the other.
use Rattle.answers.proofs.Laws.{and_then}
use Rattle.picture.specs.Bands.{break_says}
use Rattle.picture.proofs.bands.broken.Goals as goal

pub returns : goal.returns
unfolding break_says
returns c = and_then c.rect-a.ensures (and_then c.between-b.ensures (and_then c.between-c.ensures c.between.ensures))
