-- The bytes are taken by the log that is being read.
use Rattle.keeper_file.proofs.Merged.{poured_stands}
use Rattle.keeper_file.proofs.merging.pour.Goals as goal

pub take-t-requires : goal.take-t-requires
take-t-requires c = (c.requires.tanks, c.requires.log)

pub returns : goal.returns
returns c =
    let a = c.args in
    poured_stands a.m a.bytes.now c.take-t.result c.take-t.ensures
