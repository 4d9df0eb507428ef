use mathlib.Core.Path.{◌≡◌, ap, ◌∙◌}
use mathlib.Core.Bool.{Bool}
use native.Mathlib.Omega.{arith}
use lib.ListN.{length, get_or}
use lib.Seq.{get_or-take, length-take-le}
use Prim.Native.Nat.{◌<◌}
use borrow.Author.Rules.{rules}
use borrow.Author.Tests.{not-true, not-false}
use Rattle.runs.specs.Positions.{any_at}
use Rattle.night.specs.Plans.{no_range, held_at}
use Rattle.tank.specs.State.{view}
use Rattle.night.proofs.FitLaws.{clears, any_held, begun, turn_off, turn_on, at_end_lem, fits_many, fits_untouched, fits_touched}
use Rattle.night.proofs.plans.may_go.Goals as goal

-- src/plans.rt:51:9
pub returns-then-plan-gt32 : goal.returns-then-plan-gt32
returns-then-plan-gt32 c =
    let a = c.args in
    fits_many a.t a.hold a.plan c.if-plan-gt32.true

-- src/plans.rt:54:9
pub returns-then-not-t : goal.returns-then-not-t
returns-then-not-t c =
    let a = c.args in
    fits_untouched a.t a.hold a.plan c.if-plan-gt32.false (not-true _ c.if-not-t.true)

-- src/plans.rt:57:9
pub key_bits-mask-requires : goal.key_bits-mask-requires
key_bits-mask-requires c = c.requires.laid.few

-- src/plans.rt:60:5
pub loop-x-init : goal.loop-x-init
loop-x-init c = begun _ _ _

-- src/plans.rt:62:13
pub clear-requires : goal.clear-requires
clear-requires c = c.requires

-- src/plans.rt:63:13
pub returns-then-not-clear : goal.returns-then-not-clear
unfolding view
returns-then-not-clear c =
    let a = c.args in
    let l = c.loop-x in
    let long : length a.plan.ranges ≡ 32 = search rules in
    let whole = length-take-le a.plan.count a.plan.ranges (omega arith) in
    let within : l.x-index < a.plan.count = omega arith in
    let x = get_or a.plan.ranges l.x-index no_range in
    let e = get_or-take a.plan.count a.plan.ranges l.x-index no_range within in
    let is : c.clear.result ≡ clears l.from (view a.t).length (any_at (held_at a.hold (view a.t)) x.start x.end) x =
    (rw e at c.clear.ensures)
    ∙ ap (λ (b : Bool). clears l.from a.t.length b x) (any_held c.requires a.hold c.key_bits-mask.ensures x.start x.end) in
    fits_touched a.t a.hold a.plan c.if-plan-gt32.false (not-false _ c.if-not-t.false)
    (turn_off l.invariant within c.clear.result is c.if-not-clear.true)

-- src/plans.rt:60:5
pub loop-x-preserved : goal.loop-x-preserved
unfolding view
loop-x-preserved c =
    let a = c.args in
    let l = c.loop-x in
    let long : length a.plan.ranges ≡ 32 = search rules in
    let whole = length-take-le a.plan.count a.plan.ranges (omega arith) in
    let within : l.x-index < a.plan.count = omega arith in
    let x = get_or a.plan.ranges l.x-index no_range in
    let e = get_or-take a.plan.count a.plan.ranges l.x-index no_range within in
    let is : c.clear.result ≡ clears l.from (view a.t).length (any_at (held_at a.hold (view a.t)) x.start x.end) x =
    (rw e at c.clear.ensures)
    ∙ ap (λ (b : Bool). clears l.from a.t.length b x) (any_held c.requires a.hold c.key_bits-mask.ensures x.start x.end) in
    rw e (turn_on l.invariant within c.clear.result is c.if-not-clear.false)

-- src/plans.rt:46:1
pub returns : goal.returns
returns c =
    let a = c.args in
    let long : length a.plan.ranges ≡ 32 = search rules in
    let whole = length-take-le a.plan.count a.plan.ranges (omega arith) in
    fits_touched a.t a.hold a.plan c.if-plan-gt32.false (not-false _ c.if-not-t.false) (at_end_lem c.loop-x.invariant (omega arith))
