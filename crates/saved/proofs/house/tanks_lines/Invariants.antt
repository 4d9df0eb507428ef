-- Tank after tank: t of them are put in, and the rest is fresh.
use Rattle.saved.proofs.Restoring.{Filling}
use Rattle.saved.proofs.house.tanks_lines.Given as goal

abbrev pub invariant-loop-t : goal.invariant-loop-t
invariant-loop-t l = Filling l.version l.initial.tanks.settings l.bytes l.from l.tanks l.at l.lines l.t
