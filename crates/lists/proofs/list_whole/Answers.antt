-- `lists::list_whole` meets its contract: too short a buffer, or the list in front.
use mathlib.Core.Path.{refl}
use native.Mathlib.Omega.{arith}
use Rattle.tank.specs.State.{view}
use Rattle.lists.specs.Lists.{whole_list}
use Rattle.lists.proofs.ListLaws.{handed_short, handed_full, list_is, can_list}
use Rattle.lists.proofs.list_whole.Goals as goal

pub returns-then-out-needed : goal.returns-then-out-needed
returns-then-out-needed c =
    let h = handed_short 0 (whole_list (view c.args.t)) c.args.out.now refl (omega arith) in
    record { value = h.0; out_after = h.1 }

pub list_marked-count-requires : goal.list_marked-count-requires
unfolding view
list_marked-count-requires c = can_list c.requires.formed.laid 1 0 c.args.t.length c.args.out.now (omega arith) (omega arith)

pub returns : goal.returns
unfolding view
returns c =
    let w = c.list_marked-count in
    let h =
    handed_full 0 (whole_list (view c.args.t)) _ c.args.out.now _ _ refl (list_is c.requires.formed.laid 1 0 c.args.t.length) (omega arith)
    w.ensures.out_after w.ensures.value in
    record { value = h.0; out_after = h.1 }
