-- `lent::table_left` meets its contract, case by case.
use mathlib.Core.Path.{ap}
use Rattle.styles.specs.declared.Styles.{Styles}
use Rattle.tank.proofs.lent.table_left.Goals as goal

pub styles_of-kept-requires : goal.styles_of-kept-requires
styles_of-kept-requires c = (c.requires.0, rw c.in-Carried.is at c.requires.1)

pub returns-in-Entered : goal.returns-in-Entered
returns-in-Entered c = rw c.in-Entered.is c.insert_mark.ensures

pub returns-in-Carried : goal.returns-in-Carried
returns-in-Carried c = rw c.in-Carried.is (ap (λ (k : Styles). k.marks) c.styles_of-kept.ensures)
