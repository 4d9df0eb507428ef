-- By how the log ended.
use mathlib.Core.Path.{ap}
use Rattle.day_log.specs.Log.{going}
use Rattle.keeper_file.proofs.Merged.{over_stopped, over_well}
use Rattle.keeper_file.proofs.merging.next_log.Goals as goal

pub end-last-requires : goal.end-last-requires
end-last-requires c = c.requires.log

pub returns-in_default : goal.returns-in_default
returns-in_default c = over_stopped c.args.m c.requires c.end-last.result c.end-last.ensures (ap going c.in_default.is)

pub returns : goal.returns
returns c = over_well c.args.m c.requires c.end-last.result c.end-last.ensures c.begin-fresh.result c.counted.result c.sum.result c.in-Going.is c.begin-fresh.ensures c.counted.ensures c.sum.ensures
