-- One line, then the other.
use Rattle.answers.proofs.Laws.{and_then}
use Rattle.answers.proofs.plans.put_range.Goals as goal

pub returns : goal.returns
returns c = and_then c.say-k.ensures c.say.ensures
