-- Two edges to a turn; what is left to say stays the same.
use Rattle.std.proofs.Common.{◌≤◌, length}
use Rattle.answers.proofs.Laws.{Left}
use Rattle.picture.specs.Bands.{edges_from}
use Rattle.picture.proofs.bands.edges_of.Given as goal

abbrev pub invariant-loop-left : goal.invariant-loop-left
invariant-loop-left l = (l.last ≤ 900) × Left l.initial.out l.initial.k (edges_from l.end l.y 0 l.list) l.k l.out (edges_from l.end l.y l.last l.left)

abbrev pub decreases-loop-left : goal.decreases-loop-left
decreases-loop-left l = length l.left
