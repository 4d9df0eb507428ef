-- The line is empty.
use Rattle.script.proofs.lines.at_line.Goals as goal

pub returns : goal.returns
returns c = rw c.empty_line.ensures
