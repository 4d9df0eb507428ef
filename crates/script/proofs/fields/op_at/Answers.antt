-- The op stands at its row's number, and behind the last stands none.
use mathlib.Core.Path.{ap, ◌∙◌}
use mathlib.Core.List.{[], ◌∷◌, ◌++◌, map}
use Prim.Native.Nat.{ℕ}
use lib.ListN.{get_or}
use Rattle.script.specs.declared.Op.{Op}
use Rattle.script.specs.Grammar.{OpRow, no_row, op_rows}
use Rattle.script.proofs.Tables.{in_column}
use Rattle.script.proofs.fields.op_at.Goals as goal

pub returns : goal.returns
returns c = ap (λ (k : ℕ). get_or (map (λ (r : OpRow). r.op) (op_rows ++ no_row ∷ [])) k Op.Nothing) c.least.ensures ∙ in_column (λ (r : OpRow). r.op) no_row op_rows c.args.row
