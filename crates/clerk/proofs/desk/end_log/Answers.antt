-- The log that ended is answered, and another is kept.
use Rattle.answers.proofs.Laws.{adds_as}
use Rattle.answers.specs.Replies.{report_says}
use Rattle.clerk.specs.Desk.{Settled, with_log}
use mathlib.Core.Path.{sym, ap, subst, ◌∙◌}
use Rattle.clerk.proofs.desk.end_log.Goals as goal

pub returns : goal.returns
returns c =
    let n = c.begin.ensures in
    record {
      settled = subst Settled (sym c.with_log-next.ensures) (record { sets = c.requires.settled.sets; log = n.1 });
      is = c.with_log-next.ensures ∙ ap (with_log c.args.side) n.0;
      answer = adds_as (ap report_says c.end.ensures.0) c.put_report-k.ensures;
    }
