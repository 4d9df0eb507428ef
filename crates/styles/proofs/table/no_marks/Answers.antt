-- `table::no_marks` meets its contract: 64 blanks.
use Rattle.std.proofs.Common.{replicate, ap}
use Rattle.styles.specs.declared.Mark.{Mark}
use Rattle.styles.specs.declared.Styles.{Styles}
use Rattle.styles.proofs.table.no_marks.Goals as goal

pub returns : goal.returns
returns c = ap (λ (b : Mark). let r : Styles = record { count = 0; marks = replicate 64 b } in r) c.blank-b.ensures
