-- A tick, and a label where there is room.
use Prim.Native.Nat.{ℕ, ◌+◌}
use mathlib.Core.Path.{sym, ap, ◌∙◌}
use Rattle.answers.proofs.Laws.{and_then, adds_as}
use Rattle.picture.specs.Scale.{place_of}
use Rattle.picture.specs.Bands.{label_says, tick_says, labelled, edge_says}
use Rattle.picture.proofs.Choices.{chosen, not_chosen}
use Rattle.picture.proofs.BandLaws.{labelled_at}
use Rattle.picture.proofs.bands.edge.Goals as goal

pub returns-then-labelled : goal.returns-then-labelled
unfolding edge_says
returns-then-labelled c =
    let a = c.args in
    and_then (adds_as (ap (λ (x : ℕ). tick_says x a.y) c.place-x.ensures.0) c.tick-a.ensures) (chosen (labelled a.end a.last (place_of a.end a.pos)) (sym (labelled_at a.end a.last a.pos c.place-x.result c.place-x.ensures.0 c.labelled.result c.labelled.ensures) ∙ c.if-labelled.true) (adds_as (ap (λ (x : ℕ). label_says x (a.y + 17) a.pos) c.place-x.ensures.0) c.label.ensures))

pub returns : goal.returns
unfolding edge_says
returns c =
    let a = c.args in
    and_then (adds_as (ap (λ (x : ℕ). tick_says x a.y) c.place-x.ensures.0) c.tick-a.ensures) (not_chosen _ _ _ (labelled a.end a.last (place_of a.end a.pos)) (sym (labelled_at a.end a.last a.pos c.place-x.result c.place-x.ensures.0 c.labelled.result c.labelled.ensures) ∙ c.if-labelled.false))
