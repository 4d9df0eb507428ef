-- The tank that is taken out is the tank that it is.
use mathlib.Core.Path.{ap₂}
use Prim.Native.Nat.{ℕ}
use lib.ListN.{get_or}
use Rattle.tank.specs.Rules.{View}
use Rattle.tanks.specs.Settings.{no_setting}
use Rattle.tanks.specs.Pool.{meaning}
use Rattle.answers.proofs.Laws.{adds_as}
use Rattle.glance.specs.Glance.{row_says}
use Rattle.glance.proofs.table.row_at.Goals as goal

pub returns : goal.returns
unfolding meaning
returns c =
    let a = c.args in
    adds_as (ap₂ (λ (n : ℕ) (v : View). row_says n (get_or a.s.settings a.t no_setting) v) c.wide.ensures c.take.ensures.is) c.row.ensures
