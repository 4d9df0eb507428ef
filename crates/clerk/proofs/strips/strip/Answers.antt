-- By the room.
use Rattle.clerk.proofs.strips.strip.Goals as goal

pub returns-then-n-lt96 : goal.returns-then-n-lt96
returns-then-n-lt96 c = c.unpainted.ensures

pub returns : goal.returns
returns c = c.painted.ensures
