-- By where the log stands.
use mathlib.Core.Path.{sym, ap, ◌∙◌}
use Rattle.day_log.specs.declared.Stop.{Stop}
use Rattle.door.specs.Door.{stop_number, stop_line}
use Rattle.door.proofs.Laws.{counted_fed}
use Rattle.door.proofs.fed.Goals as goal

pub returns-in-Going : goal.returns-in-Going
returns-in-Going c = let a = c.args in c.stopped.ensures ∙ ap (λ (q : Stop). counted_fed a.text a.taken a.edits (stop_number q) (stop_line q)) (sym c.in-Going.is)

pub returns-in-Refused : goal.returns-in-Refused
returns-in-Refused c = let a = c.args in c.stopped-in-Refused.ensures ∙ ap (λ (q : Stop). counted_fed a.text a.taken a.edits (stop_number q) (stop_line q)) (sym c.in-Refused.is)
