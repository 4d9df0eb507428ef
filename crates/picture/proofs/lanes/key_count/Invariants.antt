-- One more where the key occurs.
use Rattle.std.proofs.Common.{◌≡◌, ◌≤◌}
use Rattle.tank.specs.State.{view}
use Rattle.picture.specs.Lanes.{lanes_below}
use Rattle.picture.proofs.lanes.key_count.Given as goal

abbrev pub invariant-loop-key : goal.invariant-loop-key
invariant-loop-key l = (l.n ≡ lanes_below (view l.t) l.key-items l.key-index) × (l.n ≤ l.key-index)
