-- After k turns so many are added up.
use Rattle.std.proofs.Common.{◌<◌, ◌≤◌}
use Rattle.tanks.specs.Pool.{meaning, Sound}
use Rattle.timing.specs.Promises.{Sized}
use Rattle.timing.specs.Work.{value_score}
use Rattle.timing.proofs.Laws.{Summed}
use Rattle.timing.proofs.values.Given as goal

abbrev pub invariant-loop-k : goal.invariant-loop-k
invariant-loop-k l = (l.base < 32768) × Sized l.runs × (l.marks ≤ 63) × Sound l.s × Summed (value_score l.tank l.base l.runs l.marks (meaning l.s)) l.k l.turns l.sum
