-- Blanks and zeros beside the line.
use Rattle.saved.proofs.one_tank.wrong_head.Goals as goal

pub returns : goal.returns
returns c = rw c.blank.ensures
