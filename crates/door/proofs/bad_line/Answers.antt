-- A run that is over, or how its script ends.
use mathlib.Core.Path.{sym, ◌∙◌}
use Rattle.door.proofs.Laws.{bad_over, bad_clean, bad_cut}
use Rattle.door.proofs.bad_line.Goals as goal

pub returns-then-over : goal.returns-then-over
returns-then-over c = bad_over _ c.if-over.true c.line_number.ensures

pub returns-in-Clean : goal.returns-in-Clean
returns-in-Clean c = bad_clean _ c.if-over.false (sym c.inlet_ended-e.ensures ∙ c.in-Clean.is)

pub returns-in-Cut : goal.returns-in-Cut
returns-in-Cut c = bad_cut c.if-over.false (sym c.inlet_ended-e.ensures ∙ c.in-Cut.is) c.line_number-in-Cut.ensures
