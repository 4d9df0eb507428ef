-- A rectangle, at the place and as wide as the scale says.
use Prim.Native.Nat.{ℕ, ◌+◌}
use mathlib.Core.Path.{ap₂}
use Rattle.answers.proofs.Laws.{adds_as}
use Rattle.picture.specs.Elements.{rect_says, part_says}
use Rattle.picture.proofs.elements.part.Goals as goal

pub returns : goal.returns
unfolding part_says
returns c =
    let b = c.args.band in
    adds_as (ap₂ (λ (x y : ℕ). rect_says (225 + x) b.top y b.height) c.place-x.ensures.0 c.width-wide.ensures) c.rect.ensures
