-- Tanks and log are where the read leads.
use Rattle.answers.proofs.Laws.{adds_as}
use Rattle.answers.specs.Replies.{report_says}
use Rattle.clerk.specs.Desk.{Settled, with_log}
use mathlib.Core.Path.{sym, ap, subst, ◌∙◌}
use Rattle.clerk.proofs.desk.read_log.Goals as goal

pub returns : goal.returns
returns c =
    let t = c.take-t.ensures in
    record {
      sound = t.tanks_sound;
      settled = subst Settled (sym c.with_log-next.ensures) (record { sets = c.requires.sound.1.sets; log = t.log_sound });
      is = t.house;
      keeps = c.with_log-next.ensures ∙ ap (with_log c.args.side) t.log;
      answer = adds_as (ap report_says t.log) c.put_report-k.ensures;
    }
