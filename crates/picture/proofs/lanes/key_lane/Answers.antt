-- Its bars, or nothing.
use mathlib.Core.Path.{sym, ap, ◌∙◌}
use Rattle.answers.proofs.Laws.{adds_as}
use Rattle.tank.specs.State.{view}
use Rattle.picture.specs.declared.scale.Band.{Band}
use Rattle.picture.specs.Lanes.{occurs, key_bars, lane_says}
use Rattle.picture.proofs.Choices.{chosen, not_chosen}
use Rattle.picture.proofs.lanes.key_lane.Goals as goal

pub returns-then-has : goal.returns-then-has
unfolding lane_says
returns-then-has c =
    let a = c.args in
    let v = view a.t in
    chosen (occurs v a.key) (sym c.has.ensures ∙ c.if-has.true) (adds_as (ap (λ (b : Band). key_bars v (record { place = a.place; key = a.key; row = b }) a.list.now) c.lane_in.ensures) c.key_bars.ensures)

pub returns : goal.returns
unfolding lane_says
returns c =
    let a = c.args in
    not_chosen _ _ _ (occurs (view a.t) a.key) (sym c.has.ensures ∙ c.if-has.false)
