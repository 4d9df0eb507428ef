-- `put_anchors` meets its contract. The loop's invariant: the anchors of the boundaries that the runs passed begin at are written.
use Rattle.ask.proofs.Borders.{borders_to, Trail}
use Rattle.answers.specs.Waiting.{Adds}
use Rattle.answers.specs.Replies.{anchors_say}
use Rattle.clerk.proofs.borders.put_anchors.Given as goal

abbrev pub invariant-loop-i : goal.invariant-loop-i
invariant-loop-i l = Trail l.pool l.from l.n l.own l.i l.end l.last × Adds l.initial.out l.initial.k (anchors_say (borders_to l.table.marks l.pool l.from l.own l.i)) l.k l.out
