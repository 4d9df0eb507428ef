-- Two columns, one behind the other.
use mathlib.Core.Path.{ap}
use mathlib.Core.List.{[], ◌∷◌}
use Prim.Native.Nat.{ℕ}
use Rattle.answers.proofs.Laws.{and_then, adds_as}
use Rattle.glance.specs.Glance.{column}
use Rattle.glance.proofs.table.row_marks.Goals as goal

pub returns : goal.returns
returns c =
    and_then
    (adds_as (ap (λ (n : ℕ). column 14 n ∷ []) c.marks_of.ensures) c.say_right-a.ensures)
    (adds_as (ap (λ (n : ℕ). column 12 n ∷ []) c.marks_of-2.ensures) c.say_right.ensures)
