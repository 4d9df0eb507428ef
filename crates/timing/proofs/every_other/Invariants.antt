-- After j turns so many steps are made.
use Rattle.std.proofs.Common.{◌/◌, ◌<◌, ◌≤◌}
use Rattle.tanks.specs.Pool.{meaning}
use Rattle.timing.specs.Promises.{Sized}
use Rattle.timing.specs.Work.{other_run}
use Rattle.timing.proofs.Laws.{Stepped}
use Rattle.timing.proofs.every_other.Given as goal

abbrev pub invariant-loop-j : goal.invariant-loop-j
invariant-loop-j l = (l.base < 32768) × Sized l.runs × (l.b ≤ 63) × Stepped (other_run l.tank l.base l.runs l.b) (meaning l.initial.u) l.j (l.runs / 2) l.u
