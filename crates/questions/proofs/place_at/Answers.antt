-- `place_at` meets its contract: a position within the length is in a run.
use Rattle.questions.proofs.QuestionLaws.{finds, found_in}
use Rattle.questions.proofs.place_at.Goals as goal

pub find-requires : goal.find-requires
find-requires c = finds c.requires.0

pub returns : goal.returns
returns c = (c.find.ensures, found_in c.requires.0 c.requires.1 c.find.ensures)
