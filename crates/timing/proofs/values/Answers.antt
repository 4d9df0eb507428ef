use Rattle.std.proofs.Common.{rules}
use Rattle.timing.proofs.Laws.{summed_none, summed_next, summed_all}
use Rattle.timing.proofs.values.Goals as goal

pub loop-k-init : goal.loop-k-init
loop-k-init c = search (rules, summed_none)

pub loop-k-preserved : goal.loop-k-preserved
loop-k-preserved c = (
  search rules,
  search rules,
  search rules,
  search rules,
  summed_next c.loop-k.invariant.4 (search rules) (rw (c.if_shown.ensures, c.value_at-v.ensures, c.spot-at.ensures.0)) c.wrapping_add_u64-sum.ensures.value,
)

pub returns : goal.returns
returns c = summed_all c.loop-k.invariant.4 (search rules)
