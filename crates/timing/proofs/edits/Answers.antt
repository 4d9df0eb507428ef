use Rattle.std.proofs.Common.{◌≡◌, arith, rules}
use Rattle.timing.specs.Work as rules
use Rattle.timing.proofs.Laws.{summed_none, summed_next, left_none, left_next, answered}
use Rattle.timing.proofs.edits.Goals as goal

pub loop-k-init : goal.loop-k-init
loop-k-init c = search (rules, left_none, summed_none)

pub loop-k-preserved : goal.loop-k-preserved
loop-k-preserved c =
    let r = answered c.edit-answer.new.self c.edit-answer.result c.edit-answer.ensures in
    let e = c.edit_at.ensures in (
      search rules,
      search rules,
      search rules,
      search rules,
      r.0.sound,
      rw (r.0.is, e) (left_next (rules.edit_at c.args.work c.args.base c.args.runs) _ _ _),
      summed_next c.loop-k.invariant.6 (search rules) (rw (c.scored.ensures, r.0.number_is, r.1, e)) c.wrapping_add_u64-sum.ensures.value,
    )

pub returns : goal.returns
returns c =
    let e : c.loop-k.k ≡ c.args.turns = omega (arith, c.loop-k.invariant.6.most) in
    rw (← e, c.wrapping_add_u64-2.ensures.value, c.wrapping_add_u64.ensures.value, c.has_extra.ensures, c.length.ensures) (rw (c.loop-k.invariant.5, c.loop-k.invariant.6.is))
