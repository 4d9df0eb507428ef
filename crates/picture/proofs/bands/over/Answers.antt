-- What is held, the edges, and the sign.
use Prim.Native.Nat.{ℕ, ◌+◌}
use mathlib.Core.Path.{ap}
use Rattle.answers.proofs.Laws.{and_then, adds_as}
use Rattle.tank.specs.State.{view}
use Rattle.picture.specs.Bands.{band, holds_say, edges_say, over_says}
use Rattle.picture.proofs.bands.over.Goals as goal

pub returns : goal.returns
unfolding over_says view
returns c =
    let a = c.args in
    let v = view a.t in
    let list = a.list.now in
    let e = c.depth-deep.ensures.0 in
    and_then (adds_as (ap (λ (d : ℕ). holds_say v (band a.end a.top d) a.hold list) e) c.holds-a.ensures) (and_then (adds_as (ap (λ (d : ℕ). edges_say a.end (a.top + d + 1) list) e) c.edges-b.ensures) c.broken_if.ensures)
