-- The line as it came makes the call whole.
use Rattle.script.proofs.PutLaws.{puts_as}
use Rattle.explain.proofs.Telling.{refusal_told_lem}
use Rattle.explain.proofs.told.refused.Goals as goal

pub returns : goal.returns
returns c = puts_as (refusal_told_lem c.args.before c.args.bytes.now c.args.answer.now c.line_number-number.ensures c.cut_line-cut.ensures c.kept_read-read.ensures c.told_number.ensures) c.refused_as.ensures
