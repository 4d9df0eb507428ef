-- The letter stands in the row's cell; past sixteen there is none.
use mathlib.Core.Path.{refl, sym}
use borrow.Author.Rules.{rules}
use Rattle.script.proofs.Tables.{past_fields}
use Rattle.script.proofs.fields.field_at.Goals as goal

pub letter_in-requires : goal.letter_in-requires
letter_in-requires c = (record { wide = refl; right = refl }, search rules)

pub returns : goal.returns
returns c = sym (past_fields c.args.row c.args.place c.if-place-lt16.false)
