-- `set_for_insert` meets its contract: nothing in an untouched tank, else what the neighbours have in common.
use Rattle.styles.specs.Bits.{pick}
use Rattle.questions.proofs.QuestionLaws.{none_for_insert}
use Rattle.tank.proofs.GrowLaws.{common_small, common_for_insert}
use Rattle.tank.specs.State.{table_of}
use borrow.Author.Tests.{not-true, not-false}
use lib.Pow.{pow_pos}
use mathlib.Core.Path.{ap, ◌∙◌}
use native.Mathlib.Omega.{arith}
use Rattle.questions.proofs.set_for_insert.Goals as goal

pub returns-then-not-t : goal.returns-then-not-t
returns-then-not-t c = (none_for_insert c.requires.0 c.args.pos (not-true _ c.if-not-t.true), pow_pos c.args.t.marks)

pub returns : goal.returns
returns c = (
  ap (pick (table_of c.args.t)) c.common_at.ensures
      ∙ common_for_insert c.requires.0.laid c.args.pos c.requires.1 (not-false _ c.if-not-t.false),
  omega (arith, c.common_at.ensures, common_small c.requires.0.laid c.args.pos),
)
