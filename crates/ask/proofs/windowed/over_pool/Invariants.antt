-- `over_pool` meets its contract. The loop's invariant: w windows are written, and the walk stands at a run that does not begin behind the next.
use Prim.Native.Nat.{◌+◌, ◌-◌}
use lib.ListN.{length}
use Rattle.ask.proofs.WindowLaws.{Fills}
use Rattle.ask.proofs.windowed.over_pool.Given as goal

abbrev pub invariant-loop-w : goal.invariant-loop-w
invariant-loop-w l = Fills l.pool l.at l.n l.own l.keyed l.nulls l.first l.k l.initial.out l.out l.i l.begun l.from l.best l.w

abbrev pub decreases-loop-w : goal.decreases-loop-w
decreases-loop-w l = (l.n - l.i) + (length l.initial.out - l.w)
