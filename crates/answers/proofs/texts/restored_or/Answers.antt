-- Accepted, or the refusal and the line.
use Rattle.answers.proofs.Laws.{and_then, as_refused}
use Rattle.answers.proofs.texts.restored_or.Goals as goal

pub returns : goal.returns
returns c = as_refused _ _ _ c.if-number-eq0.false (and_then c.refuse-k.ensures c.say.ensures)
