-- By the number of the work.
use Rattle.std.proofs.Common.{rules, le-ltb, lt-ltb}
use Rattle.timing.proofs.parted.Goals as goal

pub returns-then-work-lt12 : goal.returns-then-work-lt12
returns-then-work-lt12 c = record { is = rw (lt-ltb _ _ c.if-work-lt12.true); sound = search rules }

pub returns : goal.returns
returns c =
    let m = c.annotated.ensures in
    record { is = rw (le-ltb _ _ c.if-work-lt12.false, m.is, c.others.ensures, c.middle-at.ensures.0); sound = m.sound }
