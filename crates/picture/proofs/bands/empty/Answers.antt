-- One behind the other.
use Rattle.answers.proofs.Laws.{and_then}
use Rattle.picture.specs.Bands.{empty_says}
use Rattle.picture.proofs.bands.empty.Goals as goal

pub returns : goal.returns
unfolding empty_says
returns c = and_then c.frame-a.ensures (and_then c.text_at-b.ensures (and_then c.say-c.ensures c.broken.ensures))
