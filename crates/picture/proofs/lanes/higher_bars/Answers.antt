use Prim.Native.Nat.{ℕ}
use mathlib.Core.Bool.{Bool, cond}
use mathlib.Core.List.{[]}
use mathlib.Core.Path.{ap}
use lib.ListN.{get_or}
use Rattle.answers.proofs.Laws.{adds_as, left_more, left_none}
use Rattle.tank.specs.State.{view}
use Rattle.picture.specs.Lanes.{bar_says, higher_bars, higher_at}
use Rattle.picture.proofs.Turns.{stretch_more, stretch_none}
use Rattle.picture.proofs.lanes.higher_bars.Goals as goal

pub loop-left-preserved : goal.loop-left-preserved
loop-left-preserved c =
    let lane = c.args.lane in
    let v = view c.args.t in
    let w = c.loop-left in
    let l = w.left.now in
    left_more (stretch_more (λ (from to marks : ℕ). cond (higher_at v lane.key from marks) (bar_says lane from to) []) l c.in-len3-up.len_at_least) (adds_as (ap (λ (b : Bool). cond b (bar_says lane (get_or l 0 0) (get_or l 1 0)) []) c.higher-some.ensures) c.bar_if-k.ensures) w.invariant

pub returns : goal.returns
unfolding higher_bars
returns c =
    let lane = c.args.lane in
    let v = view c.args.t in
    left_none (stretch_none (λ (from to marks : ℕ). cond (higher_at v lane.key from marks) (bar_says lane from to) []) c.loop-left.left.now c.in_default.len_below) c.loop-left.invariant
