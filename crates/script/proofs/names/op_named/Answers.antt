-- The text is that of all names.
use mathlib.Core.Path.{refl}
use Rattle.text.specs.Bytes.{up_to}
use Rattle.script.proofs.names.op_named.Goals as goal

pub row_in-requires : goal.row_in-requires
unfolding up_to
row_in-requires c = record { wide = refl; right = refl }
