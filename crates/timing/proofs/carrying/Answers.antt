-- By the number of the work.
use Rattle.std.proofs.Common.{rules, ne_eqb}
use Rattle.timing.proofs.carrying.Goals as goal

pub returns-then-work-eq6 : goal.returns-then-work-eq6
returns-then-work-eq6 c =
    let m = c.annotated.ensures in
    record { is = rw (c.if-work-eq6.true, m.is, c.extra.ensures, c.middle-at.ensures.0); sound = m.sound }

pub returns-then-work-eq7 : goal.returns-then-work-eq7
returns-then-work-eq7 c = let m = c.annotated-then-work-eq7.ensures in record { is = rw (c.if-work-eq7.true, m.is, c.extra-then-work-eq7.ensures); sound = m.sound }

pub returns : goal.returns
returns c = record { is = rw (ne_eqb _ _ c.if-work-eq6.false, ne_eqb _ _ c.if-work-eq7.false); sound = search rules }
