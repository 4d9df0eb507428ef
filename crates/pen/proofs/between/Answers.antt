-- Three pieces, one behind the other.
use Rattle.answers.proofs.Laws.{and_then}
use Rattle.pen.proofs.between.Goals as goal

pub returns : goal.returns
returns c = and_then (and_then c.say-a.ensures c.say_number-b.ensures) c.say.ensures
