use Prim.Native.Nat.{ℕ}
use mathlib.Core.Path.{◌≡◌, ap, ◌∙◌}
use native.Mathlib.Omega.{arith}
use Rattle.night.proofs.UnheldLaws.{none_yet, without_is, with_is, gathered_all, gathered_last, gathered_more}
use Rattle.night.proofs.proposals.unheld_below.Goals as goal

-- src/plans.rt:92:9
pub key_bits-mask-requires : goal.key_bits-mask-requires
key_bits-mask-requires c = c.requires.0.laid.few

-- src/plans.rt:96:5
pub loop-k-init : goal.loop-k-init
loop-k-init c = none_yet _ _ _

-- src/plans.rt:97:13
pub next_range-x-requires : goal.next_range-x-requires
next_range-x-requires c = (c.requires.0, c.loop-k.invariant.within, c.requires.1)

-- src/plans.rt:99:13
pub returns-then-below-x : goal.returns-then-below-x
returns-then-below-x c =
    let m = c.key_bits-mask.ensures in
    let l = c.loop-k in
    let x = c.next_range-x in
    gathered_last c.requires.0 c.args.hold m c.args.below l.invariant c.loop-k-test.true x.result.start (without_is c.requires.0 c.args.hold m c.args.below l.at x.result.start x.ensures.0) c.if-below-x.true

-- src/plans.rt:96:5
pub loop-k-preserved : goal.loop-k-preserved
loop-k-preserved c =
    let m = c.key_bits-mask.ensures in
    let l = c.loop-k in
    let x = c.next_range-x in
    gathered_more c.requires.0 c.args.hold m c.args.below l.invariant c.loop-k-test.true x.result.start x.result.end
    (without_is c.requires.0 c.args.hold m c.args.below l.at x.result.start x.ensures.0)
    (with_is c.requires.0 c.args.hold m c.args.below x.result.start x.result.end x.ensures.1)
    c.if-below-x.false

-- src/plans.rt:87:1
pub returns : goal.returns
returns c =
    let m = c.key_bits-mask.ensures in
    let e : 32 ≡ c.loop-k.k = omega arith in
    ap (λ (k : ℕ). record { count = k; ranges = c.loop-k.ranges }) e
    ∙ gathered_all c.requires.0 c.args.hold m c.args.below c.loop-k.invariant c.loop-k-test.false
