-- The words stand in the cell of their number.
use mathlib.Core.Path.{refl}
use Rattle.text.specs.Bytes.{up_to}
use Rattle.refusals.proofs.Cells.{words_at}
use Rattle.refusals.proofs.put_words.Goals as goal

pub returns : goal.returns
unfolding up_to
returns c = words_at _ _ c.put_cell.ensures c.cell.ensures refl
