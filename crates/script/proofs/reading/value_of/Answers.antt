-- By the kind.
use Rattle.script.specs.Reading.{value_of}
use Rattle.script.proofs.reading.value_of.Goals as goal

pub returns-in-Null : goal.returns-in-Null
unfolding value_of
returns-in-Null c = rw c.in-Null.is c.null_of.ensures

pub returns-in-Bool : goal.returns-in-Bool
unfolding value_of
returns-in-Bool c = rw c.in-Bool.is c.flag_of.ensures

pub returns-in-Whole : goal.returns-in-Whole
unfolding value_of
returns-in-Whole c = rw (c.in-Whole.is, c.whole_of.ensures, c.integer.ensures)

pub returns-in-Decimal : goal.returns-in-Decimal
unfolding value_of
returns-in-Decimal c = rw (c.in-Decimal.is, c.decimal_of.ensures, c.hex.ensures)
