-- The op is that of the row.
use Rattle.script.proofs.reading.fresh.Goals as goal

pub returns : goal.returns
returns c = rw c.op_at-op.ensures
