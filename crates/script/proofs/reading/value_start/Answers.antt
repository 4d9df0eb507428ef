-- The line begins with the name, and what stands behind it is as far in as the name is long.
use Rattle.std.specs.Prelude.{Some}
use mathlib.Core.Path.{sym, ap, ◌∙◌}
use mathlib.Core.Bool.{true, false}
use Rattle.text.specs.Bytes.{starts_of}
use Rattle.script.specs.Reading.{start_of}
use Rattle.script.proofs.Tables.{by_name}
use Rattle.script.proofs.LineLaws.{name_spells, name_length, name_fits}
use Rattle.script.proofs.reading.value_start.Goals as goal

pub begins-requires : goal.begins-requires
begins-requires c = name_fits _ c.field_name-n.ensures

pub returns-then-begins : goal.returns-then-begins
unfolding start_of
returns-then-begins c =
    let name = c.field_name-n.ensures in
    ap Some (name_length _ name) ∙ by_name (starts_of _) _ _ _ _ true (name_spells _ name) (sym c.if-begins.true ∙ c.begins.ensures)

pub returns : goal.returns
unfolding start_of
returns c = by_name (starts_of _) _ _ _ _ false (name_spells _ c.field_name-n.ensures) (sym c.if-begins.false ∙ c.begins.ensures)
