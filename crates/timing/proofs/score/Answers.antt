-- By the test.
use Rattle.std.proofs.Common.{eq-eqb, ne_eqb}
use Rattle.timing.proofs.score.Goals as goal

pub returns-then-work-eq1 : goal.returns-then-work-eq1
returns-then-work-eq1 c = rw (eq-eqb _ _ c.if-work-eq1.true)

pub returns-else-work-eq1 : goal.returns-else-work-eq1
returns-else-work-eq1 c = rw (ne_eqb _ _ c.if-work-eq1.false)
