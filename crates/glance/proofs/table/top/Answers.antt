-- Five pieces, one behind the other.
use mathlib.Core.Path.{ap}
use mathlib.Core.List.{[], ◌∷◌}
use Prim.Native.Nat.{ℕ}
use Rattle.text.specs.Number.{decimal_text}
use Rattle.answers.proofs.Laws.{and_then, adds_as}
use Rattle.glance.specs.Glance.{top_says}
use Rattle.glance.proofs.table.top.Goals as goal

pub returns : goal.returns
unfolding top_says
returns c = and_then c.between-a.ensures (and_then (adds_as (ap (λ (n : ℕ). decimal_text n ∷ []) c.left.ensures) c.say_number-b.ensures) c.say.ensures)
