-- The ranges are those that were pending, and one more.
use Rattle.answers.proofs.Laws.{adds_as}
use Rattle.answers.specs.Replies.{range_count_says}
use Rattle.clerk.specs.Desk.{Settled, with_pending, desk_side, desk_says}
use Rattle.night.specs.declared.Plan.{Plan}
use mathlib.Core.Path.{sym, ap, subst, ◌∙◌}
use Rattle.clerk.proofs.desk.range.Goals as goal

pub returns : goal.returns
unfolding desk_side desk_says
returns c =
    record {
      settled = subst Settled (sym c.with_pending-next.ensures) (record { sets = c.requires.settled.sets; log = c.requires.settled.log });
      is = c.with_pending-next.ensures ∙ ap (λ (p : Plan). with_pending c.args.side p) c.one_more-more.ensures;
      answer = adds_as (ap range_count_says (c.wide.ensures ∙ ap (λ (p : Plan). p.count) c.one_more-more.ensures)) c.say-k.ensures;
    }
