-- One of the first 64 is read; one more is wrong.
use Rattle.key_names.proofs.Lines.{next_here, next_over}
use Rattle.key_names.proofs.next_line.Goals as goal

pub returns-then-count-lt64 : goal.returns-then-count-lt64
returns-then-count-lt64 c = rw c.line_at.ensures (next_here _ _ _ c.requires.1 c.if-count-lt64.true)

pub returns : goal.returns
returns c = next_over _ _ _ c.requires.1 c.requires.0 c.if-count-lt64.false
