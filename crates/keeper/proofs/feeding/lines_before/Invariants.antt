-- `feeding::lines_before` is safe and ends: the place that it looks at moves on up to the one that is asked for.
use Prim.Native.Nat.{◌-◌, ◌≤◌}
use Rattle.keeper.proofs.feeding.lines_before.Given as goal

abbrev pub invariant-loop-at : goal.invariant-loop-at
invariant-loop-at l = l.initial.at ≤ l.at

abbrev pub decreases-loop-at : goal.decreases-loop-at
decreases-loop-at l = l.place - l.at
