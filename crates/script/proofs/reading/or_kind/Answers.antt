-- The text is the name, or it is not.
use mathlib.Core.Path.{sym, ◌∙◌}
use mathlib.Core.Bool.{true, false}
use Rattle.text.specs.Bytes.{same_of}
use Rattle.script.proofs.Tables.{by_name}
use Rattle.script.proofs.LineLaws.{name_spells, name_fits}
use Rattle.script.proofs.reading.or_kind.Goals as goal

pub is_name-requires : goal.is_name-requires
is_name-requires c = name_fits _ c.kind_name-n.ensures

pub returns-then-is_name : goal.returns-then-is_name
returns-then-is_name c = by_name (same_of _) _ _ _ _ true (name_spells _ c.kind_name-n.ensures) (sym c.if-is_name.true ∙ c.is_name.ensures)

pub returns : goal.returns
returns c = by_name (same_of _) _ _ _ _ false (name_spells _ c.kind_name-n.ensures) (sym c.if-is_name.false ∙ c.is_name.ensures)
