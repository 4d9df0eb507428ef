-- The first log begins.
use Rattle.keeper_file.proofs.Merged.{begun_stands}
use Rattle.keeper_file.proofs.merging.begin_merge.Goals as goal

pub returns : goal.returns
returns c = begun_stands c.args.s c.begin-log.result c.requires c.begin-log.ensures
