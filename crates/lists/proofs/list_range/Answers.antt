-- `lists::list_range` meets its contract: nothing needed, too short a buffer, or the list in front.
use native.Mathlib.Omega.{arith}
use Rattle.tank.specs.State.{view}
use Rattle.lists.specs.Lists.{range_list, range_refusal}
use Rattle.lists.proofs.ListLaws.{needed_some, handed_none, handed_short, handed_full, list_is, can_list}
use Rattle.lists.proofs.list_range.Goals as goal

pub returns-then-asked-eq0 : goal.returns-then-asked-eq0
returns-then-asked-eq0 c =
    let v = view c.args.t in
    let h =
    handed_none (range_refusal c.args.start c.args.end v) (range_list c.args.start c.args.end v) c.args.out.now _ c.stretches_needed-asked.ensures
    c.if-asked-eq0.true in
    record { value = h.0; out_after = h.1 }

pub returns-then-out-asked : goal.returns-then-out-asked
returns-then-out-asked c =
    let a = c.stretches_needed-asked in
    let v = view c.args.t in
    let n = needed_some c.args.start c.args.end v a.result a.ensures c.if-asked-eq0.false in
    let h = handed_short (range_refusal c.args.start c.args.end v) (range_list c.args.start c.args.end v) c.args.out.now n.0 (omega (arith, n.2)) in
    record { value = h.0; out_after = h.1 }

pub list_range-count-requires : goal.list_range-count-requires
unfolding view
list_range-count-requires c =
    let a = c.stretches_needed-asked in
    let n = needed_some c.args.start c.args.end (view c.args.t) a.result a.ensures c.if-asked-eq0.false in
    can_list c.requires.formed.laid 0 c.args.start c.args.end c.args.out.now n.1 (omega (arith, n.2))

pub returns : goal.returns
unfolding view
returns c =
    let w = c.list_range-count in
    let a = c.stretches_needed-asked in
    let v = view c.args.t in
    let n = needed_some c.args.start c.args.end v a.result a.ensures c.if-asked-eq0.false in
    let h =
    handed_full (range_refusal c.args.start c.args.end v) (range_list c.args.start c.args.end v) _ c.args.out.now _ _ n.0
    (list_is c.requires.formed.laid 0 c.args.start c.args.end) (omega (arith, n.2, c.if-out-asked.false)) w.ensures.out_after w.ensures.value in
    record { value = h.0; out_after = h.1 }
