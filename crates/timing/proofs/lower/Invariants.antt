-- After b turns so many steps are made.
use Rattle.std.proofs.Common.{◌/◌, ◌<◌, ◌≤◌}
use Rattle.tanks.specs.Pool.{meaning}
use Rattle.timing.specs.Promises.{Sized}
use Rattle.timing.specs.Work.{on_all}
use Rattle.timing.proofs.Laws.{Stepped}
use Rattle.timing.proofs.lower.Given as goal

abbrev pub invariant-loop-b : goal.invariant-loop-b
invariant-loop-b l = (l.base < 32768) × Sized l.runs × (l.marks ≤ 63) × Stepped (on_all l.tank l.base l.runs) (meaning l.initial.u) l.b (l.marks / 2) l.u
