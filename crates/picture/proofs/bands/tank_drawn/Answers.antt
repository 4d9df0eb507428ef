-- The list has room, so its front is the list of all stretches.
use Prim.Native.Nat.{ℕ, ◌+◌, ◌*◌}
use mathlib.Core.List.{List}
use mathlib.Core.Path.{ap, ap₂, ◌∙◌}
use lib.ListN.{get_or, replicate, length-replicate}
use Rattle.answers.proofs.Laws.{and_then, adds_as}
use Rattle.tank.specs.Rules.{View}
use Rattle.lists.specs.Lists.{whole_list}
use Rattle.tanks.specs.Pool.{meaning}
use Rattle.picture.specs.Bands.{beside_says, drawn_says, tank_says}
use Rattle.picture.proofs.Listing.{listed_is}
use Rattle.tanks.specs.Settings.{no_setting}
use Rattle.picture.proofs.bands.tank_drawn.Goals as goal

pub returns : goal.returns
unfolding tank_says meaning
returns c =
    let a = c.args in
    let h = meaning a.s in
    let e = c.wide-number.ensures in
    let k = c.take-t.ensures in
    let l = c.list_whole-listed.ensures in
    let x = get_or a.s.settings a.tank no_setting in
    and_then (adds_as (ap₂ (λ (v : View) (n : ℕ). beside_says v n x (96 + n * 92)) k.is e) c.beside-a.ensures) (adds_as (ap₂ (λ (n : ℕ) (q : List ℕ). drawn_says h a.keys a.hold n (96 + n * 92) q) e (listed_is k.sound (replicate 1536 0) _ c.list_whole-listed.result (length-replicate {A = ℕ} 1536 0) l.value l.out_after ∙ ap (λ (v : View). whole_list v) k.is)) c.drawn_over.ensures)
