-- `runs` meets its contract: runs in joined form are those counted from the positions.
use Rattle.tank.proofs.Unique.{runs_held_lem}
use mathlib.Core.Path.{sym}
use Rattle.questions.proofs.runs.Goals as goal

pub returns : goal.returns
returns c = sym (runs_held_lem c.requires.laid)
