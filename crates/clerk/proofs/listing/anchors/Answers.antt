-- No such tank, too little room, or all of them.
use borrow.Author.Rules.{rules}
use borrow.Author.Tests.{lt-ltb, le-ltb}
use mathlib.Core.Bool.{true, false}
use native.Mathlib.Omega.{arith}
use Rattle.answers.proofs.Laws.{adds_as}
use Rattle.clerk.proofs.Lists.{anchors_1, counted, anchors_by}
use Rattle.clerk.specs.Calls.{tank_for, list_look_says}
use Rattle.script.specs.Args.{number_at}
use Rattle.clerk.proofs.listing.anchors.Goals as goal

pub returns-then-tank-ge8 : goal.returns-then-tank-ge8
unfolding list_look_says
returns-then-tank-ge8 c =
    let a = c.args in
    adds_as (anchors_1 a.heads a.pool a.table a.who (tank_for a.call) (number_at a.call 1) c.if-tank-ge8.true) c.refuse.ensures

pub anchors_needed-l-requires : goal.anchors_needed-l-requires
anchors_needed-l-requires c = c.requires.can_ask

pub returns-then-room-wide : goal.returns-then-room-wide
unfolding list_look_says
returns-then-room-wide c =
    let a = c.args in
    adds_as
    (anchors_by a.heads a.pool a.table a.who (tank_for a.call) _ c.if-tank-ge8.false c.anchors_needed-l.ensures (number_at a.call 1) true
    (lt-ltb (number_at a.call 1) c.anchors_needed-l.result.count (omega (arith, c.wide.ensures, c.if-room-wide.true))))
    c.refuse-then-room-wide.ensures

-- the count that was answered is that of the tank
pub all_anchors-requires : goal.all_anchors-requires
all_anchors-requires c =
    let a = c.args in
    record { stands = (c.requires.can_ask c.if-tank-ge8.false, counted a.heads a.pool a.table a.who (tank_for a.call) _ c.if-tank-ge8.false c.anchors_needed-l.ensures); piece_room_in_bounds = search rules }

pub returns : goal.returns
unfolding list_look_says
returns c =
    let a = c.args in
    adds_as
    (anchors_by a.heads a.pool a.table a.who (tank_for a.call) _ c.if-tank-ge8.false c.anchors_needed-l.ensures (number_at a.call 1) false
    (le-ltb (number_at a.call 1) c.anchors_needed-l.result.count (omega (arith, c.wide.ensures, c.if-room-wide.false))))
    c.all_anchors.ensures
