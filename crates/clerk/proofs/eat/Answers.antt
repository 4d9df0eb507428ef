use Rattle.clerk.proofs.Bytes.{standing, left_all, left_then, turn_nothing, turn_call, turn_bad}
use Rattle.clerk.proofs.Edited.{performs}
use Rattle.clerk.proofs.Ends.{all_taken, eats_as}
use Rattle.clerk.proofs.Looked.{looked}
use Rattle.clerk.proofs.Performing.{told}
use Rattle.ask.proofs.Standing.{can_ask}
use Rattle.clerk.specs.Calls.{tank_for}
use borrow.Author.Rules.{rules}
use lib.Seq.{length-take-le}
use mathlib.Core.Path.{sym, ◌∙◌}
use native.Mathlib.Omega.{arith}
use Rattle.clerk.proofs.eat.Goals as goal

pub loop-from-init : goal.loop-from-init
loop-from-init c = (search rules, search rules, search rules, search rules, search rules, search rules, left_all _ _)

pub loop-from-smaller-in-Nothing : goal.loop-from-smaller-in-Nothing
loop-from-smaller-in-Nothing c = let p = c.take-t.ensures in omega (arith, p.further, p.inside)

pub loop-from-preserved-in-Nothing : goal.loop-from-preserved-in-Nothing
loop-from-preserved-in-Nothing c =
    let w = c.loop-from in
    let p = c.take-t.ensures in
    (p.inside, search rules, search rules, w.invariant.3, w.invariant.4, p.fits, left_then (turn_nothing w.tanks w.side w.at w.out c.loop-from-test.true p c.in-Nothing.is) w.invariant.6)

pub put_bad-k-requires : goal.put_bad-k-requires
put_bad-k-requires c = omega (arith, c.requires.most_body_in_bounds.1, c.loop-from.invariant.2)

pub shape_of-body-in-Bad : goal.shape_of-body-in-Bad
shape_of-body-in-Bad c = search rules

pub shape_of-out-in-Bad : goal.shape_of-out-in-Bad
shape_of-out-in-Bad c = c.put_bad-k.auto.out ∙ c.loop-from.invariant.2

pub returns-in-Bad : goal.returns-in-Bad
returns-in-Bad c =
    let w = c.loop-from in
    let p = c.take-t.ensures in
    eats_as _ _ _ _ _ c.requires.sound.3 w.invariant.3 w.invariant.4 p.fits c.standing.ensures (left_then (turn_bad w.tanks w.side w.at w.out c.loop-from-test.true p c.in-Bad.is c.put_bad-k.ensures) w.invariant.6)

-- ---- A call that only asks
pub told-at-requires : goal.told-at-requires
told-at-requires c = let w = c.loop-from in record { sound = (w.invariant.3, sym c.kind_of-kind.ensures ∙ c.in-Asks.is); piece_room_in_bounds = omega (arith, c.requires.most_body_in_bounds.1, c.loop-from.invariant.2) }

pub loop-from-smaller-in-Asks : goal.loop-from-smaller-in-Asks
loop-from-smaller-in-Asks c = let p = c.take-t.ensures in omega (arith, p.further, p.inside)

pub loop-from-preserved-in-Asks : goal.loop-from-preserved-in-Asks
loop-from-preserved-in-Asks c =
    let w = c.loop-from in
    let p = c.take-t.ensures in
    (p.inside, search rules, search rules, w.invariant.3, w.invariant.4, p.fits, left_then (turn_call w.tanks w.side w.at w.out c.loop-from-test.true p c.in-Call.is (told w.tanks w.side _ _ (sym c.kind_of-kind.ensures ∙ c.in-Asks.is) w.invariant.3 w.invariant.4 c.told-at.ensures)) w.invariant.6)

-- ---- A question, a list or a strip of one tank
pub at_tank-at-requires : goal.at_tank-at-requires
at_tank-at-requires c =
    let w = c.loop-from in
    record { can_ask = can_ask w.tanks (tank_for c.take-t.result.call) c.place-u.result c.place-u.ensures.0 w.invariant.3; piece_room_in_bounds = omega (arith, c.requires.most_body_in_bounds.1, c.loop-from.invariant.2) }

pub loop-from-smaller-in-Looks : goal.loop-from-smaller-in-Looks
loop-from-smaller-in-Looks c = let p = c.take-t.ensures in omega (arith, p.further, p.inside)

pub loop-from-preserved-in-Looks : goal.loop-from-preserved-in-Looks
loop-from-preserved-in-Looks c =
    let w = c.loop-from in
    let p = c.take-t.ensures in
    let r = looked w.tanks c.place-u.result w.side c.take-t.result.call _ _ _ _ c.place-u.ensures.0 w.invariant.3 w.invariant.4 (sym c.kind_of-kind.ensures ∙ c.in-Looks.is) _ c.at_tank-at.ensures in
    (p.inside, search rules, search rules, w.invariant.3, w.invariant.4, p.fits, left_then (turn_call w.tanks w.side w.at w.out c.loop-from-test.true p c.in-Call.is r) w.invariant.6)

-- ---- An edit
pub edited-at-requires : goal.edited-at-requires
edited-at-requires c = record { sound = c.loop-from.invariant.3; piece_room_in_bounds = omega (arith, c.requires.most_body_in_bounds.1, c.loop-from.invariant.2) }

pub loop-from-smaller-in-Edits : goal.loop-from-smaller-in-Edits
loop-from-smaller-in-Edits c = let p = c.take-t.ensures in omega (arith, p.further, p.inside)

pub loop-from-preserved-in-Edits : goal.loop-from-preserved-in-Edits
loop-from-preserved-in-Edits c =
    let w = c.loop-from in
    let p = c.take-t.ensures in
    let r = performs w.tanks w.side _ _ (sym c.kind_of-kind.ensures ∙ c.in-Edits.is) w.invariant.4 _ _ c.edited-at.ensures in
    (p.inside, search rules, search rules, r.sound, r.settled, p.fits, left_then (turn_call w.tanks w.side w.at w.out c.loop-from-test.true p c.in-Call.is r) w.invariant.6)

pub slice_bounds-perform-end-in-Other : goal.slice_bounds-perform-end-in-Other
slice_bounds-perform-end-in-Other c = sym (length-take-le _ _ c.take-t.ensures.sized)

pub perform-d-requires : goal.perform-d-requires
perform-d-requires c =
    let w = c.loop-from in
    record { sound = (w.invariant.3, w.invariant.4, sym c.kind_of-kind.ensures ∙ c.in-Other.is); piece_room_in_bounds = omega (arith, c.requires.most_body_in_bounds.1, c.loop-from.invariant.2) }

pub loop-from-smaller : goal.loop-from-smaller
loop-from-smaller c = let p = c.take-t.ensures in omega (arith, p.further, p.inside)

pub loop-from-preserved : goal.loop-from-preserved
loop-from-preserved c =
    let w = c.loop-from in
    let p = c.take-t.ensures in
    let d = c.perform-d.ensures in
    (p.inside, search rules, search rules, d.sound, d.settled, p.fits, left_then (turn_call w.tanks w.side w.at w.out c.loop-from-test.true p c.in-Call.is d) w.invariant.6)

pub returns : goal.returns
returns c =
    let w = c.loop-from in
    eats_as _ _ _ _ _ c.requires.sound.3 w.invariant.3 w.invariant.4 w.invariant.5 c.standing-2.ensures (all_taken (standing w.tanks w.side w.inlet w.body w.at w.out) w.from c.args.bytes.now (omega arith) w.invariant.6)
