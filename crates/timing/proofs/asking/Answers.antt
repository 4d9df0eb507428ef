-- By the number of the work.
use Rattle.std.proofs.Common.{le-ltb, lt-ltb, eq-eqb, ne_eqb}
use Rattle.timing.proofs.asking.Goals as goal

pub returns-then-work-lt2 : goal.returns-then-work-lt2
returns-then-work-lt2 c = rw (lt-ltb _ _ c.if-work-lt2.true, c.keys.ensures)

pub returns-then-work-eq2 : goal.returns-then-work-eq2
returns-then-work-eq2 c = rw (le-ltb _ _ c.if-work-lt2.false, eq-eqb _ _ c.if-work-eq2.true, c.values.ensures)

pub returns : goal.returns
returns c = rw (le-ltb _ _ c.if-work-lt2.false, ne_eqb _ _ c.if-work-eq2.false, c.sets.ensures)
