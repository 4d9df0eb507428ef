-- By the name of the op's first field.
use mathlib.Core.Path.{sym, ap, ◌∙◌}
use native.Mathlib.Omega.{arith}
use Rattle.script.specs.Grammar.{Field}
use Rattle.script.proofs.LineLaws.{name_spells, name_fits}
use Rattle.script.proofs.PutLaws.{puts_then, puts_all, puts_few, puts_more}
use Rattle.explain.proofs.Choices.{tank_here, tank_none}
use Rattle.explain.proofs.refused.put_tank.Goals as goal

pub is_name-requires : goal.is_name-requires
is_name-requires c = name_fits _ c.field_name-first.ensures

pub returns-then-is_name : goal.returns-then-is_name
returns-then-is_name c =
    tank_here c.args.call _ (name_spells _ c.field_name-first.ensures ∙ ap (λ (f : Field). f.name) c.field_at.ensures) (sym c.is_name.ensures ∙ c.if-is_name.true)
    (puts_more (omega arith) (puts_then (omega arith) (puts_all c.put-a.ensures) (puts_few c.put_decimal.ensures)))

pub returns : goal.returns
returns c =
    tank_none c.args.call _ (name_spells _ c.field_name-first.ensures ∙ ap (λ (f : Field). f.name) c.field_at.ensures) (sym c.is_name.ensures ∙ c.if-is_name.false)
    (puts_more (omega arith) (puts_all c.put.ensures))
