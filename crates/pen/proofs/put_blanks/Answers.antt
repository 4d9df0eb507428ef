-- The front of 32 blanks.
use Rattle.script.proofs.PutLaws.{puts_as}
use Rattle.pen.proofs.Laws.{blanks}
use Rattle.pen.proofs.put_blanks.Goals as goal

pub returns : goal.returns
returns c = puts_as (blanks c.args.n c.requires.0) c.put_front.ensures
