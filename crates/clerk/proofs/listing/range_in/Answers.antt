-- As much room as is lent is as good as what the call names.
use borrow.Author.Rules.{rules}
use lib.ListN.{length}
use mathlib.Core.Path.{refl}
use Rattle.answers.proofs.Laws.{adds_as}
use Rattle.clerk.proofs.Lists.{range_room, list_said, list_inside}
use Rattle.clerk.specs.Calls.{tank_for, start_in, end_in, list_look_says}
use Rattle.lists.specs.Lists.{range_number, range_list}
use Rattle.script.specs.Args.{number_at}
use Rattle.clerk.proofs.listing.range_in.Goals as goal

pub put_list-requires : goal.put_list-requires
put_list-requires c =
    let a = c.args in
    let lent = range_number (start_in a.call) (end_in a.call) (length a.part.now) in
    (search rules, list_inside a.heads a.pool a.table (tank_for a.call) a.who lent lent (range_list (start_in a.call) (end_in a.call)) (λ k. refl) a.part.now _ _ (c.list_range-l.ensures.value, c.list_range-l.ensures.out_after))

pub returns : goal.returns
unfolding list_look_says
returns c =
    let a = c.args in
    let lent = range_number (start_in a.call) (end_in a.call) (length a.part.now) in
    let named = range_number (start_in a.call) (end_in a.call) (number_at a.call 3) in
    adds_as
    (list_said a.heads a.pool a.table (tank_for a.call) a.who lent named (range_list (start_in a.call) (end_in a.call)) (λ k. range_room (c.requires.can_ask k) a.who (number_at a.call 3) (length a.part.now) c.requires.part_len.0 (start_in a.call) (end_in a.call)) a.part.now _ _ (c.list_range-l.ensures.value, c.list_range-l.ensures.out_after))
    c.put_list.ensures
