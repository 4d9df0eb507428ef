-- By where the log stands.
use mathlib.Core.Path.{sym, ap}
use Rattle.day_log.specs.declared.Stop.{Stop}
use Rattle.answers.proofs.Laws.{and_then, adds_as}
use Rattle.answers.specs.Replies.{stop_says}
use Rattle.answers.proofs.reports.put_stop.Goals as goal

pub returns-in-Going : goal.returns-in-Going
unfolding stop_says
returns-in-Going c =
    let a = c.args in
    adds_as (sym (ap (λ (q : Stop). stop_says q a.lines) c.in-Going.is)) c.say.ensures

pub returns-in-Refused : goal.returns-in-Refused
unfolding stop_says
returns-in-Refused c =
    let a = c.args in
    adds_as (sym (ap (λ (q : Stop). stop_says q a.lines) c.in-Refused.is)) (and_then c.refuse-k.ensures c.say-in-Refused.ensures)
