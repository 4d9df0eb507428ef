-- One piece, at the free place.
use Rattle.script.proofs.PutLaws.{puts_all}
use Rattle.answers.proofs.Laws.{one_piece}
use Rattle.answers.proofs.texts.put_piece.Goals as goal

pub returns : goal.returns
returns c = one_piece c.args.at c.free-k.ensures.0 c.requires.1 (puts_all c.put.ensures)
