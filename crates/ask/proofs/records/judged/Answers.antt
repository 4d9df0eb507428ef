-- `judged` meets its contract: the lower number, or too few records, or all of them.
use Rattle.ask.specs.Records.{records_of}
use Rattle.lists.proofs.AnchorListLaws.{judged_lower, judged_short, judged_full}
use Rattle.ask.proofs.records.judged.Goals as goal

pub returns-then-lower-gt0 : goal.returns-then-lower-gt0
returns-then-lower-gt0 c = judged_lower (records_of c.args.p) c.args.lower c.args.room c.if-lower-gt0.true

pub returns-then-room-n : goal.returns-then-room-n
returns-then-room-n c = judged_short (records_of c.args.p) c.args.lower c.args.room _ c.if-lower-gt0.false c.count-n.ensures c.if-room-n.true

pub returns : goal.returns
returns c = judged_full (records_of c.args.p) c.args.lower c.args.room _ c.if-lower-gt0.false c.count-n.ensures c.if-room-n.false
