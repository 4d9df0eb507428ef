-- `no_set` meets its contract: the empty set, whatever the number.
use Rattle.questions.proofs.QuestionLaws.{no_set_is}
use Rattle.questions.proofs.no_set.Goals as goal

pub returns : goal.returns
returns c = no_set_is c.args.number c.no_marks.ensures
