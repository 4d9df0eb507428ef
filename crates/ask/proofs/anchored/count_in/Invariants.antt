-- `count_in` meets its contract. The loop's invariant: `count` is the number of anchors of the boundaries that the runs passed begin at.
use Rattle.ask.proofs.Borders.{Tally}
use Rattle.ask.proofs.anchored.count_in.Given as goal

abbrev pub invariant-loop-i : goal.invariant-loop-i
invariant-loop-i l = Tally l.pool l.at l.n l.own l.i l.last l.count
