-- `count_in` meets its contract. The loop's invariant: `count` is the length of the list up to where the stretch begins that the walk is in.
use Prim.Native.Nat.{◌*◌, ◌≤◌}
use mathlib.Core.Path.{◌≡◌}
use lib.ListN.{length}
use Rattle.tanks.proofs.Closing.{In, told_to}
use Rattle.tanks.proofs.stretches.count_in.Given as goal

abbrev pub invariant-loop-i : goal.invariant-loop-i
invariant-loop-i l = (In l.pool l.at l.n l.own l.i l.end l.first l.one) × (l.count ≡ length (told_to l.least l.from l.to l.pool l.at l.n l.own l.first)) × (l.count ≤ 3 * l.i)
