-- `held_after` meets its contract: the definition has the same two cases.
use borrow.Author.Tests.{eq-eqb, ne_eqb}
use Rattle.tanks.proofs.settings.held_after.Goals as goal

pub returns-then-u-t : goal.returns-then-u-t
returns-then-u-t c = simp (eq-eqb _ _ c.if-u-t.true)

pub returns-else-u-t : goal.returns-else-u-t
returns-else-u-t c = simp (ne_eqb _ _ c.if-u-t.false)
