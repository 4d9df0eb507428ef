-- `runs::find_backward` meets its contract. The invariant: run k starts at `start`, and `pos` is before its end.
use Prim.Native.Nat.{◌+◌, ◌≤◌, ◌<◌}
use mathlib.Core.Path.{◌≡◌}
use lib.ListN.{get_or}
use Rattle.runs.specs.Runs.{sums}
use Rattle.runs.proofs.find_backward.Given as goal

abbrev pub invariant-loop-start : goal.invariant-loop-start
invariant-loop-start l = (l.k ≤ l.n) × (l.start ≡ sums l.lens l.k) × (l.k < l.n → l.pos < l.start + get_or l.lens l.k 0)

abbrev pub decreases-loop-start : goal.decreases-loop-start
decreases-loop-start l = l.k
