use Prim.Native.Nat.{ℕ}
use mathlib.Core.Bool.{cond}
use mathlib.Core.Path.{refl, ◌∙◌}
use native.Mathlib.Omega.{arith}
use lib.ListN.{get_or}
use lib.Dec.{ltb}
use Rattle.picture.proofs.LaneLaws.{lane_next, one_is, one_most}
use Rattle.runs.specs.Positions.{sum_below}
use Rattle.picture.proofs.entries.key_count.Goals as goal

pub loop-key-init : goal.loop-key-init
unfolding sum_below
loop-key-init c = (refl, omega arith)

pub loop-key-preserved : goal.loop-key-preserved
loop-key-preserved c =
    let w = c.loop-key in
    let e = lane_next (λ (i : ℕ). cond (ltb (get_or c.args.keys i 0) 65536) 1 0) w.n c.from-n.result w.key-index w.invariant.0 (c.from-n.ensures ∙ one_is (ltb (get_or c.args.keys w.key-index 0) 65536)) in
    (e, omega (arith, one_most (ltb (get_or c.args.keys w.key-index 0) 65536), c.from-n.ensures))
