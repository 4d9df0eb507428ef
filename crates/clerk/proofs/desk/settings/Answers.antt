-- The sets are those that taking the text hands back.
use Rattle.answers.proofs.Laws.{adds_as}
use Rattle.answers.specs.Replies.{taken_says}
use Rattle.clerk.specs.Desk.{Settled, with_sets}
use Rattle.settings_text.specs.declared.Taken.{Taken}
use mathlib.Core.Path.{sym, ap, subst, ◌∙◌}
use Rattle.clerk.proofs.desk.settings.Goals as goal

pub returns : goal.returns
returns c =
    let t = c.take-t.ensures in
    record {
      settled = subst Settled (sym c.with_sets-next.ensures) (record { sets = t.1; log = c.requires.settled.log });
      is = c.with_sets-next.ensures ∙ ap (λ (x : Taken). with_sets c.args.side x.kept) t.0;
      answer = adds_as (ap taken_says t.0) c.put_taken-k.ensures;
    }
