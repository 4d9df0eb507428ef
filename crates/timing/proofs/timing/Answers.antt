-- By the number of the work; each sum is that of the tank built.
use Rattle.std.proofs.Common.{le-ltb, lt-ltb}
use Rattle.timing.proofs.timing.Goals as goal

pub returns-then-work-lt8 : goal.returns-then-work-lt8
returns-then-work-lt8 c = rw (c.edits.ensures, c.carrying.ensures.is) (rw (c.built-s.ensures.is, c.marked-m.ensures, c.sized-n.ensures, c.rest-b.ensures.0, c.rest-t.ensures.0, lt-ltb _ _ c.if-work-lt8.true))

pub returns-then-work-lt16 : goal.returns-then-work-lt16
returns-then-work-lt16 c = rw (c.asking.ensures, c.parted.ensures.is) (rw (c.built-s.ensures.is, c.marked-m.ensures, c.sized-n.ensures, c.rest-b.ensures.0, c.rest-t.ensures.0) (rw (le-ltb _ _ c.if-work-lt8.false, lt-ltb _ _ c.if-work-lt16.true)))

pub returns : goal.returns
returns c = rw (le-ltb _ _ c.if-work-lt8.false, le-ltb _ _ c.if-work-lt16.false)
