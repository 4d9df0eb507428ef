-- One behind the other.
use Rattle.answers.proofs.Laws.{and_then}
use Rattle.picture.specs.Bands.{edges_say}
use Rattle.picture.proofs.bands.edges.Goals as goal

pub returns : goal.returns
unfolding edges_say
returns c = and_then c.edges_of-a.ensures (and_then c.label-b.ensures c.label.ensures)
