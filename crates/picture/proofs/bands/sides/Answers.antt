-- What each party is shown.
use Prim.Native.Nat.{◌+◌}
use mathlib.Core.Path.{ap}
use Rattle.answers.proofs.Laws.{and_then, adds_as}
use Rattle.tank.specs.Rules.{View}
use Rattle.picture.specs.Lanes.{side_says, lab_says}
use Rattle.picture.specs.Bands.{band, sides_say}
use Rattle.picture.proofs.bands.sides.Goals as goal

pub returns : goal.returns
unfolding sides_say
returns c =
    let a = c.args in
    and_then (adds_as (ap (λ (v : View). side_says v a.keys (band a.end a.top 40)) c.shown-plant.ensures.is) c.side-a.ensures) (adds_as (ap (λ (v : View). lab_says v a.keys (band a.end (a.top + 42) 10)) c.shown-lab.ensures.is) c.lab_side.ensures)
