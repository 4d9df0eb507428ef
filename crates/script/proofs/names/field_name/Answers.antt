-- The name stands in the cell of its letter.
use mathlib.Core.Path.{refl}
use Rattle.text.specs.Bytes.{up_to}
use Rattle.script.proofs.Tables.{field_name_at}
use Rattle.script.proofs.names.field_name.Goals as goal

pub returns : goal.returns
unfolding up_to
returns c = field_name_at _ _ c.field_name_at.ensures c.field_spot.ensures refl
