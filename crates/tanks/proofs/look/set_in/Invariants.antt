-- `set_in` meets its contract. The loop's invariant: the runs that were passed end at `end`, which `pos` has reached.
use Prim.Native.Nat.{◌≤◌}
use Rattle.tanks.proofs.LookLaws.{Walked}
use Rattle.tanks.proofs.look.set_in.Given as goal

abbrev pub invariant-loop-i : goal.invariant-loop-i
invariant-loop-i l = (Walked l.pool l.at l.n l.i l.end) × (l.end ≤ l.pos)
