-- One piece, at the free place.
use native.Mathlib.Omega.{arith}
use Rattle.answers.proofs.Laws.{one_piece}
use Rattle.answers.proofs.pieces.put_mark.Goals as goal

pub returns : goal.returns
returns c = one_piece c.args.at c.free-k.ensures.0 (omega arith) c.put_mark.ensures
