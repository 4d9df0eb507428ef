-- `list_range` meets its contract: the parts of the state that the tank stands in are listed for it.
use lib.ListN.{length}
use Rattle.lists.specs.Lists.{range_list, range_number}
use Rattle.ask.proofs.Standing.{can_ask, listed_there}
use Rattle.ask.proofs.list_range.Goals as goal

pub list_range-requires : goal.list_range-requires
list_range-requires c = can_ask c.args.s c.args.tank c.place.result c.place.ensures.0 c.requires

pub returns : goal.returns
returns c =
    let a = c.args in
    let e = c.list_range.ensures in
    let h =
    listed_there a.s a.tank c.place.result c.place.ensures.0 a.who (range_number a.start a.end (length a.out.now)) (range_list a.start a.end)
    a.out.now (e.value, e.out_after) in
    record { value = h.0; out_after = h.1 }
