-- `common_in` meets its contract. The loop's invariant: the runs that were passed end at `end`, which `pos` has reached, and the last has the set `last`.
use Prim.Native.Nat.{◌≤◌}
use mathlib.Core.Path.{◌≡◌}
use Rattle.tanks.proofs.LookLaws.{Walked, set_before}
use Rattle.tanks.proofs.look.common_in.Given as goal

abbrev pub invariant-loop-i : goal.invariant-loop-i
invariant-loop-i l = (Walked l.pool l.at l.n l.i l.end) × (l.end ≤ l.pos) × (l.last ≡ set_before l.pool l.at l.i)
