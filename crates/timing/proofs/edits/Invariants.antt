-- After k turns so many are added up, and the last state means the house that the last of them left.
use Rattle.std.proofs.Common.{◌≡◌, ◌<◌}
use Rattle.tanks.specs.Pool.{meaning, Sound}
use Rattle.timing.specs.Promises.{Sized}
use Rattle.timing.specs.Work as rules
use Rattle.timing.proofs.Laws.{Summed}
use Rattle.timing.proofs.edits.Given as goal

abbrev pub invariant-loop-k : goal.invariant-loop-k
invariant-loop-k l =
    (l.tank < 8) × (l.base < 32768) × Sized l.runs × Sound l.s × Sound l.u
    × (meaning l.u ≡ rules.left (rules.edit_at l.work l.base l.runs) l.tank l.k (meaning l.s))
    × Summed (rules.edit_score l.work l.tank l.base l.runs (meaning l.s)) l.k l.turns l.sum
