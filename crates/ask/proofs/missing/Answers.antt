-- `missing` meets its contract: 1 from tank 8 on.
use borrow.Author.Tests.{le-leb, lt-leb}
use Rattle.ask.proofs.missing.Goals as goal

pub returns-then-spot-ge8 : goal.returns-then-spot-ge8
returns-then-spot-ge8 c = rw (le-leb 8 c.args.spot.tank c.if-spot-ge8.true)

pub returns : goal.returns
returns c = rw (lt-leb 8 c.args.spot.tank c.if-spot-ge8.false)
