-- The units of the band are no more than 2^40, so the product fits.
use Prim.Native.Nat.{ℕ, ◌*◌, ◌/◌}
use mathlib.Core.Path.{ap, ◌∙◌}
use Rattle.picture.specs.Scale.{whole_of, place_of}
use Rattle.picture.proofs.scale.place.Goals as goal

pub returns : goal.returns
unfolding place_of
returns c =
    let end = c.args.end in
    (c.share.ensures.0 ∙ ap (λ (x : ℕ). x * 900 / whole_of end) c.min.ensures, c.share.ensures.1)
