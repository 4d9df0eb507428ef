-- `list_whole` meets its contract: the parts of the state that the tank stands in are listed for it.
use lib.ListN.{length}
use Rattle.lists.specs.Lists.{whole_list, whole_number}
use Rattle.ask.proofs.Standing.{can_ask, listed_there}
use Rattle.ask.proofs.list_whole.Goals as goal

pub list_whole-requires : goal.list_whole-requires
list_whole-requires c = can_ask c.args.s c.args.tank c.place.result c.place.ensures.0 c.requires

pub returns : goal.returns
returns c =
    let a = c.args in
    let e = c.list_whole.ensures in
    let h =
    listed_there a.s a.tank c.place.result c.place.ensures.0 a.who (whole_number (length a.out.now)) whole_list a.out.now
    (e.value, e.out_after) in
    record { value = h.0; out_after = h.1 }
