-- The name ends where `=` stands first, and behind it the number begins.
use mathlib.Core.Path.{◌∙◌}
use Rattle.key_names.proofs.Lines.{said_here, said_none}
use Rattle.key_names.proofs.line_said.Goals as goal

pub returns-then-equals-line : goal.returns-then-equals-line
returns-then-equals-line c = let a = c.args in c.line_of.ensures ∙ said_here a.line.now a.next _ c.find-equals.ensures c.if-equals-line.true

pub returns : goal.returns
returns c = let a = c.args in said_none a.line.now a.next _ c.find-equals.ensures c.if-equals-line.false
