-- The end of the input, or some bytes.
use Rattle.clerk.proofs.Ends.{reads_none, reads_some}
use Rattle.explain.proofs.taken.Goals as goal

pub returns-then-bytes-eq0 : goal.returns-then-bytes-eq0
returns-then-bytes-eq0 c = reads_none c.closed.ensures

pub returns : goal.returns
returns c = reads_some c.if-bytes-eq0.false c.eat.ensures
