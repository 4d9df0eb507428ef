-- The line as it came, with its number.
use Rattle.script.proofs.PutLaws.{puts_as}
use Rattle.explain.proofs.Telling.{bad_told_lem}
use Rattle.explain.proofs.told.bad.Goals as goal

pub returns : goal.returns
returns c = puts_as (bad_told_lem c.args.before c.args.bytes.now c.line_number-number.ensures c.cut_line-cut.ensures c.are_some.ensures) c.bad_line.ensures
