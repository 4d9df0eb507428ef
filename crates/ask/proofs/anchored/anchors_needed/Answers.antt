-- `anchors_needed` meets its contract: no such tank, or the anchors of the one that is there counted.
use mathlib.Core.Path.{◌∙◌}
use Rattle.lists.specs.Anchors.{anchors_needed}
use Rattle.ask.specs.Asks.{no_list}
use Rattle.ask.proofs.AskLaws.{listed_eq}
use Rattle.ask.proofs.Standing.{none_there, one_there}
use Rattle.ask.proofs.anchored.anchors_needed.Goals as goal

pub returns-then-tank-ge8 : goal.returns-then-tank-ge8
returns-then-tank-ge8 c =
    let a = c.args in
    none_there a.heads a.pool a.table a.tank a.who no_list anchors_needed c.if-tank-ge8.true c.no_list.ensures

pub count_in-requires : goal.count_in-requires
count_in-requires c = c.requires c.if-tank-ge8.false

pub returns : goal.returns
returns c =
    let a = c.args in
    one_there a.heads a.pool a.table a.tank a.who no_list anchors_needed c.if-tank-ge8.false
    (listed_eq _ _ _ c.counted.ensures.0 (c.counted.ensures.1 ∙ c.count_in.ensures))
