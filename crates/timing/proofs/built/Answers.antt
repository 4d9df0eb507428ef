-- Opening, and two halves of the marks.
use Rattle.timing.proofs.built.Goals as goal

pub returns : goal.returns
returns c = record { is = rw (c.upper.ensures.is, c.lower.ensures.is, c.open-o.ensures.is); sound = c.upper.ensures.sound }
