-- As many reads as turns were made, each of a line, a body or less, lead from the beginning to where the run is.
use Prim.Native.Nat.{◌≤◌}
use lib.ListN.{length}
use Rattle.tanks.specs.Pool.{Sound}
use Rattle.script.specs.Bodies.{Fits}
use Rattle.clerk.specs.Desk.{Settled}
use Rattle.clerk.specs.Course.{Leads, going}
use Rattle.explain.proofs.all.Given as goal

abbrev pub invariant-loop : goal.invariant-loop
invariant-loop l =
    Sound l.tanks
    × Settled l.side
    × Fits l.inlet l.body
    × (l.to ≤ length l.buf)
    × Leads l.counter (going l.initial.tanks l.initial.inlet l.initial.side l.initial.body l.initial.out) (going l.tanks l.inlet l.side l.body l.out)
