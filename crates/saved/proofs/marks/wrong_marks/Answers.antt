-- Blanks and zeros beside the line.
use Rattle.saved.proofs.marks.wrong_marks.Goals as goal

pub returns : goal.returns
returns c = rw c.blank.ensures
