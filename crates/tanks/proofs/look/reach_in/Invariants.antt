-- `reach_in` meets its contract. The loop's invariant: the runs that were passed end at `end`, and from `first`, which `pos` has reached, to there they have the bits `one`.
use Prim.Native.Nat.{◌≤◌}
use Rattle.tanks.proofs.LookLaws.{Walked}
use Rattle.tanks.proofs.ReachLaws.{Level, bits_from}
use Rattle.tanks.proofs.look.reach_in.Given as goal

abbrev pub invariant-loop-i : goal.invariant-loop-i
invariant-loop-i l = (Walked l.pool l.at l.n l.i l.end) × (l.first ≤ l.pos) × (l.first ≤ l.end) × Level (bits_from l.pool l.at l.n l.own) l.first l.end l.one
