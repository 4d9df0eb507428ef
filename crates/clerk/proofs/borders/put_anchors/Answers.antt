use mathlib.Core.Path.{ap}
use native.Mathlib.Omega.{arith}
use Rattle.tanks.proofs.LookLaws.{few_in, walk_fits}
use Rattle.lists.specs.Anchors.{between}
use Rattle.ask.proofs.Borders.{borders_to, bits_at, trail_begins, trail_new, trail_same, borders_none, borders_more, borders_same, borders_all, table_full}
use Rattle.answers.specs.Replies.{anchors_say}
use Rattle.answers.proofs.Laws.{no_piece, adds_as}
use Rattle.clerk.proofs.Lists.{anchors_none, anchors_then}
use Rattle.clerk.proofs.borders.put_anchors.Goals as goal
use Rattle.clerk.proofs.borders.put_anchors.Goals.{then-next-last, else-next-last}

pub own_bits-own-requires : goal.own_bits-own-requires
own_bits-own-requires c = let p = c.requires.stands in (p.inside, few_in p)

pub start-from-requires : goal.start-from-requires
start-from-requires c = let p = c.requires.stands in (omega (arith, p.inside), p.room)

pub loop-i-init : goal.loop-i-init
loop-i-init c =
    let a = c.args in (
      trail_begins c.requires.stands c.start-from.ensures c.own_bits-own.result,
      adds_as (anchors_none _ (borders_none a.table.marks a.pool c.start-from.result c.own_bits-own.result)) (no_piece _ _),
    )

pub overflow_add-r : goal.overflow_add-r
overflow_add-r c = let w = c.loop-i.invariant.0.walked in omega (arith, w.inside, c.loop-i-test.true)

pub overflow_add-end : goal.overflow_add-end
overflow_add-end c = omega (arith, walk_fits c.loop-i.invariant.0.walked c.loop-i-test.true)

pub put_border-k-requires : goal.put_border-k-requires
put_border-k-requires c = (table_full c.requires.stands, omega (arith, c.requires.piece_room_in_bounds))

pub loop-i-preserved : goal.loop-i-preserved
loop-i-preserved c =
    let a = c.args in
    let v = c.loop-i.invariant in
    elim c.if-next-last.branch [
      | then-next-last w ↦
          rw (w.out-is, w.last-is, w.k-is) (
            trail_new v.0 c.loop-i-test.true,
            anchors_then (borders_to a.table.marks a.pool c.start-from.result c.own_bits-own.result c.loop-i.i)
                (between a.table.marks c.loop-i.end c.loop-i.last (bits_at a.pool c.start-from.result c.own_bits-own.result c.loop-i.i))
                (borders_more a.table.marks v.0) v.1 w.put_border-k.ensures,
          )
      | else-next-last w ↦
          rw (w.out-is, w.last-is, w.k-is)
          (trail_same v.0 c.loop-i-test.true w.if-next-last.false, adds_as (ap anchors_say (borders_same a.table.marks v.0 w.if-next-last.false)) v.1)
    ]

pub put_border-requires : goal.put_border-requires
put_border-requires c = (table_full c.requires.stands, omega (arith, c.requires.piece_room_in_bounds))

pub returns : goal.returns
returns c =
    let a = c.args in
    let v = c.loop-i.invariant in
    anchors_then (borders_to a.table.marks a.pool c.start-from.result c.own_bits-own.result c.loop-i.i) (between a.table.marks c.loop-i.end c.loop-i.last 0)
    (borders_all c.requires.stands a.who c.own_bits-own.ensures c.start-from.ensures v.0 c.loop-i-test.false) v.1 c.put_border.ensures
