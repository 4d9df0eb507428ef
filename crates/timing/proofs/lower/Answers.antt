use Rattle.std.proofs.Common.{rules}
use Rattle.timing.proofs.Laws.{stepped_none, stepped_next, stepped_all}
use Rattle.timing.proofs.lower.Goals as goal

pub loop-b-init : goal.loop-b-init
loop-b-init c = search (rules, stepped_none)

pub loop-b-preserved : goal.loop-b-preserved
loop-b-preserved c = (
  search rules,
  search rules,
  search rules,
  stepped_next c.loop-b.invariant.3 (search rules) (rw c.mark.ensures at c.annotated-u.ensures),
)

pub returns : goal.returns
returns c = stepped_all c.loop-b.invariant.3 (search rules)
