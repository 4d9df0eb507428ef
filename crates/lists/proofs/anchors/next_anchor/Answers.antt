-- `anchors::next_anchor` meets its contract: the lowest bit left is the mark that comes next, ends before starts.
use native.Mathlib.Omega.{arith}
use Rattle.lists.proofs.CursorLaws.{mark_64, end_place, takes_end, takes_start, takes_none}
use Rattle.lists.proofs.anchors.next_anchor.Goals as goal

pub overflow_sub-d : goal.overflow_sub-d
overflow_sub-d c = omega (arith, end_place c.requires.0.formed.laid c.args.c _ c.settled-d.ensures (omega arith))

pub anchor_of-a-requires : goal.anchor_of-a-requires
anchor_of-a-requires c = mark_64 c.requires.0.formed.laid _ c.settled-d.ensures.stands.ends_in (omega arith) c.lowest-i.result c.lowest-i.ensures.0

pub returns-then-d-gt0 : goal.returns-then-d-gt0
returns-then-d-gt0 c =
    takes_end c.requires.0.formed.laid c.args.c _ c.settled-d.ensures _ _ _ (omega arith) c.lowest-i.ensures.0 c.anchor_of-a.ensures
    c.without_bit.ensures

pub anchor_of-a-requires-then-d-gt0-2 : goal.anchor_of-a-requires-then-d-gt0-2
anchor_of-a-requires-then-d-gt0-2 c =
    mark_64 c.requires.0.formed.laid _ c.settled-d.ensures.stands.starts_in (omega arith) c.lowest-i-then-d-gt0-2.result
    c.lowest-i-then-d-gt0-2.ensures.0

pub returns-then-d-gt0-2 : goal.returns-then-d-gt0-2
returns-then-d-gt0-2 c =
    takes_start c.requires.0.formed.laid c.args.c _ c.settled-d.ensures _ _ _ (omega arith) (omega arith) c.lowest-i-then-d-gt0-2.ensures.0
    c.anchor_of-a-then-d-gt0-2.ensures c.without_bit-then-d-gt0-2.ensures

pub returns : goal.returns
returns c = takes_none c.requires.0.formed.laid c.args.c _ c.settled-d.ensures (omega arith) (omega arith)
