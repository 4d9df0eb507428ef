-- The answer of the call, as it says.
use mathlib.Core.Path.{ap}
use Rattle.answers.proofs.Laws.{adds_as}
use Rattle.answers.specs.Replies.{count_says}
use Rattle.clerk.specs.Calls.{answer_says}
use Rattle.text.specs.Bytes.{bytes}
use Rattle.clerk.proofs.asking.runs.Goals as goal

pub returns : goal.returns
unfolding answer_says
returns c = adds_as (ap (count_says (bytes "runs=")) c.runs.ensures) c.put_count.ensures
