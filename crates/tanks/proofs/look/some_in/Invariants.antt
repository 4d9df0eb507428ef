-- `some_in` meets its contract. The loop's invariant: the runs that were passed end at `end`, and no position of theirs from `from` on passes.
use Rattle.runs.specs.Scan.{passes}
use Rattle.tanks.proofs.LookLaws.{Walked}
use Rattle.tanks.proofs.RangeLaws.{Missed}
use Rattle.tanks.proofs.look.some_in.Given as goal

abbrev pub invariant-loop-i : goal.invariant-loop-i
invariant-loop-i l = (Walked l.pool l.at l.n l.i l.end) × Missed (passes l.test) l.pool l.at l.n l.from l.end
