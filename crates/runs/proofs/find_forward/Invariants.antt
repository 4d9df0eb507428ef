-- `runs::find_forward` meets its contract. The invariant: run i starts at `start`, which `pos` has reached.
use Prim.Native.Nat.{◌≤◌}
use mathlib.Core.Path.{◌≡◌}
use Rattle.runs.specs.Runs.{sums}
use Rattle.runs.proofs.find_forward.Given as goal

abbrev pub invariant-loop-i : goal.invariant-loop-i
invariant-loop-i l = (l.start ≡ sums l.lens l.i) × (l.start ≤ l.pos)
