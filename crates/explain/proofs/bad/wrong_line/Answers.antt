-- What stands behind the name is wrong; a line that does not begin with it is another.
use mathlib.Core.Path.{sym, ◌∙◌}
use Rattle.script.specs.Cells.{field_of}
use Rattle.script.proofs.LineLaws.{name_here, name_none}
use Rattle.explain.specs.declared.Came.{Came}
use Rattle.explain.specs.Told.{wrong_text}
use Rattle.explain.proofs.bad.wrong_line.Goals as goal

pub returns-in_default : goal.returns-in_default
returns-in_default c = sym (name_none (field_of c.args.f) c.args.line.now Came.Other (wrong_text c.args.h) c.in_default.ensures)

pub returns : goal.returns
returns c = c.wrong_text.ensures ∙ sym (name_here (field_of c.args.f) c.args.line.now Came.Other (wrong_text c.args.h) _ c.in-Some.ensures)
