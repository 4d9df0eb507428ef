-- `anchors::turns` meets its contract: the count of the answer, which is never over the room.
use mathlib.Core.Path.{ap, sym, subst}
use Prim.Native.Nat.{ℕ, ◌≤◌}
use Rattle.lists.specs.declared.Listed.{Listed}
use Rattle.tank.specs.State.{view}
use Rattle.lists.specs.Anchors.{anchors}
use Rattle.lists.proofs.AnchorListLaws.{count_room}
use Rattle.lists.proofs.anchors.turns.Goals as goal

pub returns : goal.returns
returns c =
    let is = ap (λ (r : Listed). r.count) c.judged-listed.ensures in
    (is, subst (λ (n : ℕ). n ≤ c.args.room) (sym is) (count_room (anchors (view c.args.t)) c.args.lower c.args.room))
