-- `stretches_needed` meets its contract: no such tank, or what the tank that is there takes.
use Rattle.lists.specs.Lists.{range_needed}
use Rattle.ask.specs.Asks.{no_list}
use Rattle.ask.proofs.Standing.{none_there, one_there}
use Rattle.ask.proofs.listed.stretches_needed.Goals as goal

pub returns-then-tank-ge8 : goal.returns-then-tank-ge8
returns-then-tank-ge8 c =
    let a = c.args in
    none_there a.heads a.pool a.table a.tank a.who no_list (range_needed a.start a.end) c.if-tank-ge8.true c.no_list.ensures

pub range_needed-requires : goal.range_needed-requires
range_needed-requires c = c.requires c.if-tank-ge8.false

pub returns : goal.returns
returns c =
    let a = c.args in
    one_there a.heads a.pool a.table a.tank a.who no_list (range_needed a.start a.end) c.if-tank-ge8.false c.range_needed.ensures
