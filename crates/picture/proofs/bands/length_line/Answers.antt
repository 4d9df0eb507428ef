-- One behind the other.
use Rattle.answers.proofs.Laws.{and_then}
use Rattle.picture.specs.Bands.{length_says}
use Rattle.picture.proofs.bands.length_line.Goals as goal

pub returns : goal.returns
unfolding length_says
returns c = and_then c.text_at-a.ensures c.between.ensures
