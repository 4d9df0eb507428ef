-- One piece, at the free place.
use native.Mathlib.Omega.{arith}
use Rattle.script.proofs.PutLaws.{puts_few}
use Rattle.answers.proofs.Laws.{one_piece}
use Rattle.pen.proofs.say_number.Goals as goal

pub returns : goal.returns
returns c = one_piece c.args.at c.free-k.ensures.0 (omega arith) (puts_few c.put_decimal.ensures)
