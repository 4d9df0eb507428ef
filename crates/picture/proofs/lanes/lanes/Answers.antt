-- Those of the keys, then that of the higher ones.
use Prim.Native.Nat.{ℕ}
use mathlib.Core.Path.{ap, ap₂}
use Rattle.answers.proofs.Laws.{and_then, adds_as}
use Rattle.tank.specs.State.{view}
use Rattle.picture.specs.declared.lanes.Rows.{Rows}
use Rattle.picture.specs.Lanes.{lanes_say, higher_says}
use Rattle.picture.proofs.lanes.lanes.Goals as goal

pub returns : goal.returns
returns c =
    let a = c.args in
    let v = view a.t in
    let list = a.list.now in
    let e = c.rows_of-rows.ensures.0 in
    and_then (adds_as (ap (λ (r : Rows). lanes_say v r a.keys list) e) c.key_lanes-a.ensures) (adds_as (ap₂ (λ (r : Rows) (l : ℕ). higher_says v r l list) e c.behind_last-least.ensures) c.higher_lane.ensures)
