-- The letter stands at its place of the row's cell.
use mathlib.Core.Path.{refl}
use Rattle.script.proofs.Tables.{letter_at}
use Rattle.script.proofs.fields.letter_in.Goals as goal

pub returns : goal.returns
returns c = letter_at c.args.all.now c.args.row c.args.place refl c.least.ensures c.requires.1 c.requires.0
