-- One behind the other.
use Rattle.answers.proofs.Laws.{and_then}
use Rattle.picture.specs.Bands.{runs_say}
use Rattle.picture.proofs.bands.runs_line.Goals as goal

pub returns : goal.returns
unfolding runs_say
returns c = and_then c.text_at-a.ensures (and_then c.between-b.ensures (and_then c.number-c.ensures c.number.ensures))
