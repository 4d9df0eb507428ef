-- The answer of the call, as it says.
use mathlib.Core.Path.{ap}
use Rattle.answers.proofs.Laws.{adds_as}
use Rattle.answers.specs.Replies.{touched_says}
use Rattle.clerk.specs.Calls.{answer_says}
use Rattle.clerk.proofs.asking.touched.Goals as goal

pub returns : goal.returns
unfolding answer_says
returns c = adds_as (ap touched_says c.has_style.ensures) c.put_touched.ensures
