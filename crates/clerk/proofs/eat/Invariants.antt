-- Each turn passes at least one byte: the measure is what is left of them. What is left leads to the same as all of them did, and where nothing that it says is too long, nothing that all of them say is.
use Prim.Native.Nat.{◌-◌, ◌≤◌}
use Rattle.clerk.proofs.Bytes.{standing, Left}
use Rattle.clerk.specs.Desk.{Settled}
use Rattle.script.specs.Bodies.{Fits}
use Rattle.tanks.specs.Pool.{Sound}
use lib.ListN.{length, drop}
use mathlib.Core.Path.{◌≡◌}
use Rattle.clerk.proofs.eat.Given as goal

abbrev pub invariant-loop-from : goal.invariant-loop-from
invariant-loop-from l =
    (l.from ≤ length l.bytes)
    × (length l.body ≡ length l.initial.body)
    × (length l.out ≡ length l.initial.out)
    × Sound l.tanks
    × Settled l.side
    × Fits l.inlet l.body
    × Left (standing l.tanks l.side l.inlet l.body l.at l.out) (drop l.from l.bytes) (standing l.initial.tanks l.initial.side l.initial.inlet l.initial.body l.initial.at l.initial.out) l.bytes

abbrev pub decreases-loop-from : goal.decreases-loop-from
decreases-loop-from l = length l.bytes - l.from
