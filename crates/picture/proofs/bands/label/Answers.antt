-- One behind the other.
use Rattle.answers.proofs.Laws.{and_then}
use Rattle.picture.specs.Bands.{label_says}
use Rattle.picture.proofs.bands.label.Goals as goal

pub returns : goal.returns
unfolding label_says
returns c = and_then c.text_at-a.ensures c.number.ensures
