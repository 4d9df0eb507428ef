-- What it holds stands at its letter, and behind the last stands nothing.
use mathlib.Core.Path.{ap, ◌∙◌}
use mathlib.Core.List.{[], ◌∷◌, ◌++◌, map}
use Prim.Native.Nat.{ℕ, ◌-◌}
use lib.ListN.{get_or}
use Rattle.script.specs.declared.Holds.{Holds}
use Rattle.script.specs.Grammar.{Field, no_field}
use Rattle.script.specs.Cells.{letters}
use Rattle.script.proofs.Tables.{in_column}
use Rattle.script.proofs.fields.field_holds.Goals as goal

pub returns : goal.returns
returns c = ap (λ (k : ℕ). get_or (map (λ (f : Field). f.holds) (letters ++ no_field ∷ [])) k Holds.Nothing) c.field_spot.ensures ∙ in_column (λ (f : Field). f.holds) no_field letters (c.args.f - 47)
