-- By whether the byte is a newline.
use borrow.Author.Tests.{eq-eqb, ne_eqb}
use Rattle.script.proofs.bodies.counted_byte.Goals as goal

pub returns-then-byte-eq10 : goal.returns-then-byte-eq10
returns-then-byte-eq10 c = rw (eq-eqb _ _ c.if-byte-eq10.true) c.counted.ensures

pub returns : goal.returns
returns c = rw (ne_eqb _ _ c.if-byte-eq10.false)
