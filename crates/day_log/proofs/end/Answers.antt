-- By where the log stands.
use mathlib.Core.Path.{sym, ap, ◌∙◌}
use Rattle.day_log.specs.Log.{going}
use Rattle.day_log.proofs.Ends.{end_stopped, end_clean, end_cut}
use Rattle.day_log.proofs.end.Goals as goal

pub returns-in_default : goal.returns-in_default
returns-in_default c = end_stopped c.args.log c.requires (ap going c.in_default.is)

pub returns-in-Clean : goal.returns-in-Clean
returns-in-Clean c = end_clean c.args.log c.requires c.in-Going.is (sym c.ended-e.ensures ∙ c.in-Clean.is)

pub returns-in-Cut : goal.returns-in-Cut
returns-in-Cut c = end_cut c.args.log c.requires c.in-Going.is c.line_number.result (sym c.ended-e.ensures ∙ c.in-Cut.is) c.line_number.ensures c.stopped_log.ensures
