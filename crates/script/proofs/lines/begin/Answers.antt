-- No line was read.
use Rattle.script.proofs.lines.begin.Goals as goal

pub returns : goal.returns
returns c = rw (c.at_line.ensures, c.idle.ensures)
