-- `runs::set_at` meets its contract: the run that `find` finds has the position's set.
use mathlib.Core.Path.{sym}
use Rattle.runs.proofs.Laws.{found_set, found_none}
use Rattle.runs.proofs.ScanLaws.{can_find}
use Rattle.runs.proofs.set_at.Goals as goal

pub find-f-requires : goal.find-f-requires
find-f-requires c = can_find c.requires

pub returns-then-i-n : goal.returns-then-i-n
returns-then-i-n c = sym (found_set _ _ _ _ _ _ _ c.find-f.ensures c.if-i-n.true)

pub returns-else-i-n : goal.returns-else-i-n
returns-else-i-n c = sym (found_none _ _ _ _ _ _ _ c.find-f.ensures c.if-i-n.false)
