-- `decimal` meets its contract: its tests are the definition's, and what passes them is what `number` reads to the base 10.
use borrow.Author.Tests.{lt-ltb, le-ltb, eq-eqb, ne_eqb}
use Rattle.text.specs.Number.{decimal_of}
use Rattle.text.proofs.decimal.Goals as goal

pub returns-then-s-lt1 : goal.returns-then-s-lt1
unfolding decimal_of
returns-then-s-lt1 c = simp (lt-ltb _ _ c.if-s-lt1.true)

pub returns-then-s-eq48 : goal.returns-then-s-eq48
unfolding decimal_of
returns-then-s-eq48 c = simp (le-ltb _ _ c.if-s-lt1.false, lt-ltb _ _ c.if-s-gt1.true, eq-eqb _ _ c.if-s-eq48.true)

pub returns-then-s-gt1 : goal.returns-then-s-gt1
unfolding decimal_of
returns-then-s-gt1 c = simp (le-ltb _ _ c.if-s-lt1.false, lt-ltb _ _ c.if-s-gt1.true, ne_eqb _ _ c.if-s-eq48.false) c.number.ensures

pub returns : goal.returns
unfolding decimal_of
returns c = simp (le-ltb _ _ c.if-s-lt1.false, le-ltb _ _ c.if-s-gt1.false) c.number-2.ensures
