use Prim.Native.Nat.{ℕ}
use mathlib.Core.Bool.{Bool, cond}
use mathlib.Core.Path.{refl, ap, ◌∙◌}
use native.Mathlib.Omega.{arith}
use lib.ListN.{get_or}
use Rattle.tank.specs.State.{view}
use Rattle.picture.specs.Lanes.{occurs}
use Rattle.picture.proofs.LaneLaws.{lane_next, one_is, one_most}
use Rattle.runs.specs.Positions.{sum_below}
use Rattle.picture.proofs.lanes.key_count.Goals as goal

pub loop-key-init : goal.loop-key-init
unfolding sum_below
loop-key-init c = (refl, omega arith)

pub loop-key-preserved : goal.loop-key-preserved
loop-key-preserved c =
    let w = c.loop-key in
    let e = lane_next (λ (i : ℕ). cond (occurs (view c.args.t) (get_or c.args.keys i 0)) 1 0) w.n c.from-n.result w.key-index w.invariant.0 (c.from-n.ensures ∙ one_is c.has.result ∙ ap (λ (b : Bool). cond {A = ℕ} b 1 0) c.has.ensures) in
    (e, omega (arith, one_most c.has.result, c.from-n.ensures))
