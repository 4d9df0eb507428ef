-- `no_extent` meets its contract, 0 or not.
use Rattle.questions.proofs.QuestionLaws.{no_extent_is}
use Rattle.questions.proofs.no_extent.Goals as goal

pub returns : goal.returns
returns c = no_extent_is c.args.number
