-- After k turns so many are added up.
use Rattle.std.proofs.Common.{◌<◌}
use Rattle.tanks.specs.Pool.{meaning, Sound}
use Rattle.timing.specs.Promises.{Sized}
use Rattle.timing.specs.Work.{key_score}
use Rattle.timing.proofs.Laws.{Summed}
use Rattle.timing.proofs.keys.Given as goal

abbrev pub invariant-loop-k : goal.invariant-loop-k
invariant-loop-k l = (l.base < 32768) × Sized l.runs × Sound l.s × Summed (key_score l.work l.tank l.base l.runs (meaning l.s)) l.k l.turns l.sum
