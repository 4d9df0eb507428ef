-- The pending ranges are the plan; the hold key is the number that was read.
use Prim.Native.Nat.{ℕ}
use Rattle.answers.proofs.Laws.{adds_as}
use Rattle.answers.specs.Replies.{accepted_says}
use Rattle.clerk.specs.Desk.{Settled, with_pending, both_house, both_side, both_says}
use Rattle.night.specs.declared.Plan.{Plan}
use Rattle.night.specs.Planning.{plan_number_by, house_after_plan_by}
use Rattle.script.specs.Args.{number_at}
use Rattle.tanks.specs.Pool.{meaning}
use mathlib.Core.Path.{sym, ap, subst, ◌∙◌}
use Rattle.clerk.proofs.desk.plan.Goals as goal

pub returns : goal.returns
unfolding both_house both_side both_says
returns c =
    let a = c.args in
    let p = c.apply_plan-e.ensures in
    let key = c.key_of.ensures in
    record {
      sound = p.sound;
      settled = subst Settled (sym c.with_pending-next.ensures) (record { sets = c.requires.sound.1.sets; log = c.requires.sound.1.log });
      is = p.is ∙ ap (λ (h : ℕ). house_after_plan_by (meaning a.s) (number_at a.call 0) a.side.party h (number_at a.call 2) a.side.pending) key;
      keeps = c.with_pending-next.ensures ∙ ap (λ (q : Plan). with_pending a.side q) c.empty_plan.ensures;
      answer =
          adds_as (ap accepted_says (p.number_is ∙ ap (λ (h : ℕ). plan_number_by (meaning a.s) (number_at a.call 0) a.side.party h (number_at a.call 2) a.side.pending) key))
          c.accept-k.ensures;
    }
