-- `turns` meets its contract: as many as the list counts, and never more than the room.
use Prim.Native.Nat.{ℕ, ◌≤◌}
use mathlib.Core.Path.{sym, ap, subst}
use Rattle.lists.specs.declared.Listed.{Listed}
use Rattle.ask.specs.Records.{records_of}
use Rattle.lists.proofs.AnchorListLaws.{count_room}
use Rattle.ask.proofs.records.turns.Goals as goal

pub returns : goal.returns
returns c =
    let is = ap (λ (r : Listed). r.count) c.judged-listed.ensures in
    (is, subst (λ (n : ℕ). n ≤ c.args.room) (sym is) (count_room (records_of c.args.p) c.args.lower c.args.room))
