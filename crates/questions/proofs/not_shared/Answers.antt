-- `not_shared` meets its contract: no set, whatever the number.
use Rattle.questions.proofs.QuestionLaws.{not_shared_is}
use Rattle.questions.proofs.not_shared.Goals as goal

pub returns : goal.returns
returns c = not_shared_is c.args.number c.no_marks.ensures
