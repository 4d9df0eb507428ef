use Rattle.std.proofs.Common.{rules}
use Rattle.timing.proofs.Laws.{stepped_none, stepped_next, stepped_all}
use Rattle.timing.proofs.upper.Goals as goal

pub loop-j-init : goal.loop-j-init
loop-j-init c = search (rules, stepped_none)

pub loop-j-preserved : goal.loop-j-preserved
loop-j-preserved c = (search rules, search rules, search rules, stepped_next c.loop-j.invariant.3 (search rules) c.every_other-u.ensures)

pub returns : goal.returns
returns c = stepped_all c.loop-j.invariant.3 (search rules)
