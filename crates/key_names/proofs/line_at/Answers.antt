-- The line ends where the newline stands; where there is none, it is wrong.
use mathlib.Core.Path.{◌∙◌}
use Rattle.key_names.proofs.Lines.{line_here, line_none}
use Rattle.key_names.proofs.line_at.Goals as goal

pub returns-then-newline-bytes : goal.returns-then-newline-bytes
returns-then-newline-bytes c = let a = c.args in c.line_said.ensures ∙ line_here a.bytes.now a.from _ c.find-newline.ensures c.if-newline-bytes.true

pub returns : goal.returns
returns c = let a = c.args in line_none a.bytes.now a.from _ c.find-newline.ensures c.if-newline-bytes.false
