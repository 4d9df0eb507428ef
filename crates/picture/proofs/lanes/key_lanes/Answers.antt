use Prim.Native.Nat.{ℕ, ◌<◌}
use mathlib.Core.Bool.{Bool, cond}
use mathlib.Core.Path.{refl, ap, ◌∙◌}
use native.Mathlib.Omega.{arith}
use lib.ListN.{get_or}
use Rattle.answers.proofs.Laws.{adds_as, left_all, left_more, left_none}
use Rattle.tank.specs.State.{view}
use Rattle.picture.specs.Lanes.{occurs, lanes_below, lane_says, lanes_say}
use Rattle.picture.proofs.Turns.{each_more, each_none}
use Rattle.picture.proofs.LaneLaws.{lane_room, lane_next, one_is, one_most}
use Rattle.runs.specs.Positions.{sum_below}
use borrow.Author.Rules.{rules}
use Rattle.picture.proofs.lanes.key_lanes.Goals as goal

pub loop-j-init : goal.loop-j-init
unfolding sum_below
loop-j-init c = (refl, omega arith, left_all _ _ _)

pub key_lane-k-requires : goal.key_lane-k-requires
key_lane-k-requires c =
    let t = c.args.t in
    let v = view t in
    let keys = c.args.keys in
    let rows = c.args.rows in
    let list = c.args.list.now in
    let w = c.loop-j in
    (search rules, c.requires.1, c.requires.2, c.requires.3, c.requires.4, c.requires.5, lane_room (λ (i : ℕ). cond (occurs (view t) (get_or keys i 0)) 1 0) w.r w.j 12 rows.count w.invariant.0 (omega arith) c.requires.6)

pub loop-j-preserved : goal.loop-j-preserved
loop-j-preserved c =
    let t = c.args.t in
    let v = view t in
    let keys = c.args.keys in
    let rows = c.args.rows in
    let list = c.args.list.now in
    let w = c.loop-j in
    let more : w.j < 12 = omega arith in
    let one = one_most c.has.result in
    (lane_next (λ (i : ℕ). cond (occurs (view t) (get_or keys i 0)) 1 0) w.r c.from-r.result w.j w.invariant.0 (c.from-r.ensures ∙ one_is c.has.result ∙ ap (λ (b : Bool). cond {A = ℕ} b 1 0) c.has.ensures), omega (arith, one, c.from-r.ensures), left_more (each_more (λ (j : ℕ). lane_says v rows list (get_or keys j 0) j (lanes_below v keys j)) 12 w.j more) (adds_as (ap (lane_says v rows list (get_or keys w.j 0) w.j) w.invariant.0) c.key_lane-k.ensures) w.invariant.2)

pub returns : goal.returns
unfolding lanes_say
returns c =
    let t = c.args.t in
    let v = view t in
    let keys = c.args.keys in
    let rows = c.args.rows in
    let list = c.args.list.now in
    let w = c.loop-j in
    left_none (each_none (λ (j : ℕ). lane_says v rows list (get_or keys j 0) j (lanes_below v keys j)) 12 w.j (omega arith)) w.invariant.2
