-- A null has no text.
use borrow.Author.Tests.{eq-eqb, ne_eqb}
use Rattle.script.specs.Reading.{value_of}
use Rattle.script.proofs.reading.null_of.Goals as goal

pub returns-then-t-eq0 : goal.returns-then-t-eq0
unfolding value_of
returns-then-t-eq0 c = rw (eq-eqb _ _ c.if-t-eq0.true)

pub returns : goal.returns
unfolding value_of
returns c = rw (ne_eqb _ _ c.if-t-eq0.false)
