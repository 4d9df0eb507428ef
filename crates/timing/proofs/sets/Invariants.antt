-- After k turns so many are added up.
use Rattle.tanks.specs.Pool.{meaning, Sound}
use Rattle.timing.specs.Promises.{Sized}
use Rattle.timing.specs.Work.{set_score}
use Rattle.timing.proofs.Laws.{Summed}
use Rattle.timing.proofs.sets.Given as goal

abbrev pub invariant-loop-k : goal.invariant-loop-k
invariant-loop-k l = Sized l.runs × Sound l.s × Summed (set_score l.tank l.runs (meaning l.s)) l.k l.turns l.sum
