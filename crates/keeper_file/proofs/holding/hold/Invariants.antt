-- `holding::hold` meets its contract. The invariant: i bytes have been moved.
use Rattle.keeper_file.proofs.Holds.{Moved}
use Rattle.keeper_file.proofs.holding.hold.Given as goal

abbrev pub invariant-loop-i : goal.invariant-loop-i
invariant-loop-i l = Moved l.at l.n l.initial.bytes l.bytes l.i
