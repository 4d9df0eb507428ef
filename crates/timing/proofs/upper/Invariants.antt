-- After j turns so many steps are made.
use Rattle.std.proofs.Common.{◌-◌, ◌/◌, ◌<◌, ◌≤◌}
use Rattle.tanks.specs.Pool.{meaning}
use Rattle.timing.specs.Promises.{Sized}
use Rattle.timing.specs.Work.{upper_mark}
use Rattle.timing.proofs.Laws.{Stepped}
use Rattle.timing.proofs.upper.Given as goal

abbrev pub invariant-loop-j : goal.invariant-loop-j
invariant-loop-j l = (l.base < 32768) × Sized l.runs × (l.marks ≤ 63) × Stepped (upper_mark l.tank l.base l.runs l.marks) (meaning l.initial.u) l.j (l.marks - l.marks / 2) l.u
