-- By the op: a strip is not painted here.
use Rattle.clerk.proofs.Performing.{as_both, no_strip}
use Rattle.clerk.proofs.on_both.Goals as goal

pub returns-in-OpenSet : goal.returns-in-OpenSet
returns-in-OpenSet c = as_both _ _ _ c.in-OpenSet.is c.open_set.ensures

pub returns-in-Plan : goal.returns-in-Plan
returns-in-Plan c = as_both _ _ _ c.in-Plan.is c.plan.ensures

pub returns-in-Strip : goal.returns-in-Strip
returns-in-Strip c = no_strip c.in-Strip.is c.requires.sound.2
