-- `hex` meets its contract: sixteen bytes are what `number` reads to the base 16, and any other count of them is bad.
use borrow.Author.Tests.{eq-eqb, ne_eqb}
use Rattle.text.specs.Number.{hex_of}
use Rattle.text.proofs.hex.Goals as goal

pub returns-then-s-eq16 : goal.returns-then-s-eq16
unfolding hex_of
returns-then-s-eq16 c = simp (eq-eqb _ _ c.if-s-eq16.true) c.number.ensures

pub returns : goal.returns
unfolding hex_of
returns c = simp (ne_eqb _ _ c.if-s-eq16.false)
