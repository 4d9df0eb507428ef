-- Two lines, or a refusal.
use Rattle.answers.proofs.Laws.{given, and_then}
use Rattle.answers.proofs.replies.aged_or.Goals as goal

pub returns-then-number-eq0 : goal.returns-then-number-eq0
returns-then-number-eq0 c = given _ _ c.if-number-eq0.true (and_then c.say-k.ensures c.say.ensures)
