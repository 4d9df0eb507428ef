-- Three lines; the runs that a tank stores are those that it holds.
use Prim.Native.Nat.{ℕ, ◌+◌}
use mathlib.Core.Path.{sym, ap, ◌∙◌}
use Rattle.answers.proofs.Laws.{and_then, adds_as}
use Rattle.tank.specs.State.{view}
use Rattle.tank.proofs.Unique.{runs_held_lem}
use Rattle.picture.specs.Bands.{runs_say, beside_says}
use Rattle.picture.proofs.bands.beside.Goals as goal

pub returns : goal.returns
unfolding beside_says view
returns c =
    let a = c.args in
    and_then c.name-a.ensures (and_then (adds_as (ap (λ (n : ℕ). runs_say (a.top + 28) n a.x) (c.wide.ensures ∙ sym (runs_held_lem c.requires.1.formed.laid))) c.runs_line-b.ensures) c.length_line.ensures)
