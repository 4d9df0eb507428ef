-- As much room as is lent is as good as what the call names.
use borrow.Author.Rules.{rules}
use lib.ListN.{length}
use mathlib.Core.Path.{refl}
use Rattle.answers.proofs.Laws.{adds_as}
use Rattle.clerk.proofs.Lists.{whole_room, list_said, list_inside}
use Rattle.clerk.specs.Calls.{whole_look}
use Rattle.lists.specs.Lists.{whole_number, whole_list}
use Rattle.clerk.proofs.listing.whole_in.Goals as goal

pub put_list-requires : goal.put_list-requires
put_list-requires c =
    let a = c.args in
    let lent = whole_number (length a.part.now) in
    (search rules, list_inside a.heads a.pool a.table a.tank a.who lent lent whole_list (λ k. refl) a.part.now _ _ (c.list_whole-l.ensures.value, c.list_whole-l.ensures.out_after))

pub returns : goal.returns
unfolding whole_look
returns c =
    let a = c.args in
    adds_as
    (list_said a.heads a.pool a.table a.tank a.who (whole_number (length a.part.now)) (whole_number a.room) whole_list (λ k. whole_room (c.requires.can_ask k) a.who a.room (length a.part.now) c.requires.part_len.0) a.part.now _ _ (c.list_whole-l.ensures.value, c.list_whole-l.ensures.out_after))
    c.put_list.ensures
