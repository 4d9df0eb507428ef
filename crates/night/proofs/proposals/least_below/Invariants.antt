-- `proposals::least_below` meets its contract. The invariant: the least position is behind `refused` and no later than `accepted`.
use Prim.Native.Nat.{◌-◌}
use Rattle.tanks.specs.House.{tank_at}
use Rattle.tanks.specs.Pool.{meaning}
use Rattle.night.proofs.ProposeLaws.{Between}
use Rattle.night.proofs.proposals.least_below.Given as goal

abbrev pub invariant-loop-accepted : goal.invariant-loop-accepted
invariant-loop-accepted l = Between l.hold (tank_at (meaning l.s) l.tank) l.most l.refused l.accepted

abbrev pub decreases-loop-accepted : goal.decreases-loop-accepted
decreases-loop-accepted l = l.accepted - l.refused
