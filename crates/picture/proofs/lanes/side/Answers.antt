-- The list has room, so its front is the list of all stretches.
use Prim.Native.Nat.{ℕ}
use mathlib.Core.List.{List, ◌++◌}
use mathlib.Core.Path.{ap}
use lib.ListN.{replicate, length-replicate}
use Rattle.answers.proofs.Laws.{and_then, adds_as}
use Rattle.tank.specs.State.{view}
use Rattle.picture.specs.Lanes.{lanes_say, higher_says, behind_last, rows_of, side_says}
use Rattle.picture.proofs.Listing.{listed_is}
use Rattle.picture.proofs.lanes.side.Goals as goal

pub returns : goal.returns
unfolding side_says
returns c =
    let a = c.args in
    let v = view a.t in
    let rows = rows_of v a.keys a.band in
    let e = c.list_whole-listed.ensures in
    and_then c.frame-a.ensures (adds_as (ap (λ (l : List ℕ). lanes_say v rows a.keys l ++ higher_says v rows (behind_last a.keys) l) (listed_is c.requires.1 (replicate 1536 0) _ c.list_whole-listed.result (length-replicate {A = ℕ} 1536 0) e.value e.out_after)) c.lanes_over.ensures)
