-- One byte, or none.
use Rattle.std.specs.Prelude.{Some}
use mathlib.Core.Path.{ap}
use borrow.Author.Tests.{eq-eqb, ne_eqb}
use Rattle.script.specs.Reading.{byte_of}
use Rattle.script.proofs.reading.byte_of.Goals as goal

pub returns-then-t-eq1 : goal.returns-then-t-eq1
unfolding byte_of
returns-then-t-eq1 c = rw (eq-eqb _ _ c.if-t-eq1.true) (ap Some c.from.ensures)

pub returns : goal.returns
unfolding byte_of
returns c = rw (ne_eqb _ _ c.if-t-eq1.false)
