-- Four columns, one behind the other.
use Rattle.answers.proofs.Laws.{and_then}
use Rattle.glance.proofs.table.row_front.Goals as goal

pub returns : goal.returns
returns c = and_then (and_then (and_then c.say_right-a.ensures c.say_right-b.ensures) c.say_right-c.ensures) c.say_right.ensures
