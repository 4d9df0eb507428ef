use native.Mathlib.Omega.{arith}
use Rattle.lists.proofs.CursorLaws.{tallied_first, tallied_next, tallied_end}
use Rattle.lists.proofs.anchors.anchors_needed.Goals as goal

pub left_at-count-requires : goal.left_at-count-requires
left_at-count-requires c = (c.requires, c.first_anchor-c.ensures.0)

pub loop-c-init : goal.loop-c-init
loop-c-init c = tallied_first _ _ c.first_anchor-c.ensures c.left_at-count.ensures.0 c.left_at-count.ensures.1

pub following-c-requires : goal.following-c-requires
following-c-requires c = (c.requires, c.loop-c.invariant.stands, omega arith)

pub left_at-count-requires-in-loop-c : goal.left_at-count-requires-in-loop-c
left_at-count-requires-in-loop-c c = (c.requires, c.following-c.ensures.stands)

pub overflow_add-count : goal.overflow_add-count
overflow_add-count c =
    let l = c.loop-c in
    record { fits = omega (arith, l.invariant.few, c.left_at-count-in-loop-c.ensures.1, c.requires.within, l.invariant.stands.within) }

pub loop-c-smaller : goal.loop-c-smaller
loop-c-smaller c = omega (arith, c.following-c.ensures.next)

pub loop-c-preserved : goal.loop-c-preserved
loop-c-preserved c = tallied_next _ _ _ _ c.loop-c.invariant c.following-c.ensures c.left_at-count-in-loop-c.ensures.0 c.left_at-count-in-loop-c.ensures.1

pub returns : goal.returns
returns c = tallied_end c.requires.formed.laid c.loop-c.c c.loop-c.count c.loop-c.invariant (omega arith)
