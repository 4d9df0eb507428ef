-- Restored over fresh tanks.
use Rattle.door.proofs.Laws.{reads_text}
use Rattle.door.proofs.tanks_of.Goals as goal

pub restore-requires : goal.restore-requires
restore-requires c = c.open-o.ensures.sound

pub returns : goal.returns
returns c = reads_text c.open-o.ensures.is c.restore.ensures
