-- `anchors::judged` meets its contract: a lower number, and 11 where the count is over the room.
use Rattle.tank.specs.State.{view}
use Rattle.lists.specs.Anchors.{anchors}
use Rattle.lists.proofs.AnchorListLaws.{judged_lower, judged_short, judged_full}
use Rattle.lists.proofs.anchors.judged.Goals as goal

pub returns-then-lower-gt0 : goal.returns-then-lower-gt0
returns-then-lower-gt0 c = judged_lower (anchors (view c.args.t)) c.args.lower c.args.room c.if-lower-gt0.true

pub returns-then-room-n : goal.returns-then-room-n
returns-then-room-n c = judged_short (anchors (view c.args.t)) c.args.lower c.args.room _ c.if-lower-gt0.false c.anchors_needed-n.ensures c.if-room-n.true

pub returns : goal.returns
returns c = judged_full (anchors (view c.args.t)) c.args.lower c.args.room _ c.if-lower-gt0.false c.anchors_needed-n.ensures c.if-room-n.false
