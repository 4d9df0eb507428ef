-- `list_range` meets its contract: no such tank, or the stretches of the one that is there.
use mathlib.Core.Path.{refl}
use lib.ListN.{length}
use Rattle.lists.specs.Lists.{range_list, range_number}
use Rattle.ask.proofs.Standing.{list_none_there, list_one_there}
use Rattle.ask.proofs.listed.list_range.Goals as goal

pub returns-then-tank-ge8 : goal.returns-then-tank-ge8
returns-then-tank-ge8 c =
    let a = c.args in
    let h =
    list_none_there a.heads a.pool a.table a.tank a.who (range_number a.start a.end (length a.out.now)) (range_list a.start a.end) a.out.now
    c.if-tank-ge8.true c.no_list.ensures refl in
    record { value = h.0; out_after = h.1 }

pub range_in-requires : goal.range_in-requires
range_in-requires c = c.requires c.if-tank-ge8.false

pub returns : goal.returns
returns c =
    let a = c.args in
    let e = c.range_in.ensures in
    let h =
    list_one_there a.heads a.pool a.table a.tank a.who (range_number a.start a.end (length a.out.now)) (range_list a.start a.end) a.out.now
    c.if-tank-ge8.false (e.value, e.out_after) in
    record { value = h.0; out_after = h.1 }
