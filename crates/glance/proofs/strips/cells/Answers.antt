-- 96 cells between their borders, and the number behind them.
use mathlib.Core.Path.{refl, ap}
use mathlib.Core.List.{List, [], ◌∷◌}
use Prim.Native.Nat.{ℕ}
use lib.ListN.{replicate}
use Rattle.styles.specs.declared.Party.TheVariants.{Plant}
use Rattle.tanks.specs.House.{shown_at}
use Rattle.tanks.specs.Pool.{meaning}
use Rattle.answers.proofs.Laws.{and_then, adds_as}
use Rattle.glance.proofs.Laws.{painted_is}
use Rattle.glance.proofs.strips.cells.Goals as goal

pub returns : goal.returns
returns c =
    let a = c.args in
    let painted = painted_is a.tank a.k 0 (shown_at (meaning a.s) Plant a.tank) a.keys a.letters (replicate 96 46) c.requires.1 c.requires.2 refl c.paint.ensures.out_after in
    and_then (and_then c.say-a.ensures (adds_as (ap (λ (l : List ℕ). l ∷ []) painted) c.say-b.ensures)) c.between.ensures
