-- Two lines, or a refusal.
use Rattle.answers.proofs.Laws.{given, and_then}
use Rattle.answers.proofs.replies.put_extent.Goals as goal

pub returns-then-e-eq0 : goal.returns-then-e-eq0
returns-then-e-eq0 c = given _ _ c.if-e-eq0.true (and_then c.say-k.ensures c.say.ensures)
