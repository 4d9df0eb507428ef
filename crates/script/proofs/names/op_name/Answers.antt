-- The name stands in the cell of its row.
use mathlib.Core.Path.{refl}
use Rattle.text.specs.Bytes.{up_to}
use Rattle.script.proofs.Tables.{op_name_at}
use Rattle.script.proofs.names.op_name.Goals as goal

pub returns : goal.returns
unfolding up_to
returns c = op_name_at _ _ c.op_name_at.ensures c.least.ensures (record { wide = refl; right = refl })
