-- The answer of the call, as it says.
use mathlib.Core.Path.{ap}
use Rattle.answers.proofs.Laws.{adds_as}
use Rattle.answers.specs.Replies.{needed_says}
use Rattle.clerk.specs.Calls.{list_look_says}
use Rattle.clerk.proofs.listing.whole_needed.Goals as goal

pub returns : goal.returns
unfolding list_look_says
returns c = adds_as (ap needed_says c.whole_needed-l.ensures) c.put_needed.ensures
