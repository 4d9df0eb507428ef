use native.Mathlib.Omega.{arith}
use Rattle.night.proofs.ProposalLaws.{wide, narrow_end, narrow_high, narrow_low}
use Rattle.night.proofs.proposals.least_below.Goals as goal

pub loop-accepted-init : goal.loop-accepted-init
loop-accepted-init c = wide c.args.s c.args.tank c.args.hold c.args.most c.requires

pub overflow_sub-accepted : goal.overflow_sub-accepted
overflow_sub-accepted c = let s = c.loop-accepted.invariant.some in omega arith

pub overflow_sub-half : goal.overflow_sub-half
overflow_sub-half c = let s = c.loop-accepted.invariant.some in omega arith

pub overflow_add-half : goal.overflow_add-half
overflow_add-half c =
    let s = c.loop-accepted.invariant.some in
    let m = c.loop-accepted-test.true in
    omega arith

pub works_below-requires : goal.works_below-requires
works_below-requires c =
    let b = c.loop-accepted.invariant in
    let some = b.some in
    let fits = b.fits in
    let p = c.requires in
    record { sound = p.sound; tank = p.tank; fits = omega arith }

pub loop-accepted-smaller-then-works_below : goal.loop-accepted-smaller-then-works_below
loop-accepted-smaller-then-works_below c =
    let some = c.loop-accepted.invariant.some in
    let more = c.loop-accepted-test.true in
    omega arith

pub loop-accepted-preserved-then-works_below : goal.loop-accepted-preserved-then-works_below
loop-accepted-preserved-then-works_below c =
    let l = c.loop-accepted in
    let a = c.args in
    narrow_high a.s a.tank a.hold a.most c.requires l.invariant c.works_below.result c.works_below.ensures c.if-works_below.true c.loop-accepted-test.true

pub loop-accepted-smaller : goal.loop-accepted-smaller
loop-accepted-smaller c =
    let some = c.loop-accepted.invariant.some in
    let more = c.loop-accepted-test.true in
    omega arith

pub loop-accepted-preserved : goal.loop-accepted-preserved
loop-accepted-preserved c =
    let l = c.loop-accepted in
    let a = c.args in
    narrow_low a.s a.tank a.hold a.most c.requires l.invariant c.works_below.result c.works_below.ensures c.if-works_below.false c.loop-accepted-test.true

pub returns : goal.returns
returns c =
    let a = c.args in
    let g = c.loop-accepted-test.false in
    narrow_end a.s a.tank a.hold a.most c.requires c.loop-accepted.invariant (omega arith)
