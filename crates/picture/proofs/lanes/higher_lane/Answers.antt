-- Its bars, or nothing.
use Prim.Native.Nat.{ℕ}
use mathlib.Core.Path.{sym, ap, ◌∙◌}
use Rattle.answers.proofs.Laws.{adds_as}
use Rattle.tank.specs.State.{view}
use Rattle.picture.specs.declared.scale.Band.{Band}
use Rattle.picture.specs.Lanes.{higher_in, lane_in, higher_bars, higher_says}
use Rattle.picture.proofs.Choices.{chosen, not_chosen}
use Rattle.picture.proofs.lanes.higher_lane.Goals as goal

pub returns-then-has_higher : goal.returns-then-has_higher
unfolding higher_says
returns-then-has_higher c =
    let a = c.args in
    let v = view a.t in
    let band = a.rows.band in
    chosen (higher_in v a.least) (sym c.has_higher.ensures ∙ c.if-has_higher.true) (adds_as (ap (λ (b : Band). higher_bars v (record { place = 12; key = a.least; row = b }) a.list.now) (c.lane_in.ensures ∙ ap (λ (r : ℕ). lane_in band r a.rows.count) c.saturating_sub.ensures)) c.higher_bars.ensures)

pub returns : goal.returns
unfolding higher_says
returns c =
    let a = c.args in
    not_chosen _ _ _ (higher_in (view a.t) a.least) (sym c.has_higher.ensures ∙ c.if-has_higher.false)
