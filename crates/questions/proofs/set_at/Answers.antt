-- `set_at` meets its contract: the runs' own look, and no set has bits past the table.
use Rattle.questions.proofs.QuestionLaws.{set_inside}
use Rattle.tank.proofs.Shape.{can_find}
use native.Mathlib.Omega.{arith}
use Rattle.questions.proofs.set_at.Goals as goal

pub set_at-requires : goal.set_at-requires
set_at-requires c = can_find c.requires.laid

pub returns : goal.returns
returns c = (c.set_at.ensures, omega (arith, c.set_at.ensures, set_inside c.requires c.args.pos))
