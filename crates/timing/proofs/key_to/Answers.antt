-- By the number of the work.
use Rattle.std.proofs.Common.{eq-eqb, ne_eqb}
use Rattle.timing.proofs.key_to.Goals as goal

pub returns-then-work-eq0 : goal.returns-then-work-eq0
returns-then-work-eq0 c = rw (eq-eqb _ _ c.if-work-eq0.true, c.spot.ensures.0)

pub returns-else-work-eq0 : goal.returns-else-work-eq0
returns-else-work-eq0 c = rw (ne_eqb _ _ c.if-work-eq0.false)
