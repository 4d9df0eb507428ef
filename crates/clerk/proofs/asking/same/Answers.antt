-- The answer of the call, as it says.
use mathlib.Core.Path.{ap}
use Rattle.answers.proofs.Laws.{adds_as}
use Rattle.answers.specs.Replies.{shared_says}
use Rattle.clerk.specs.Calls.{look_says}
use Rattle.clerk.proofs.asking.same.Goals as goal

pub get_styles_of_range-m-requires : goal.get_styles_of_range-m-requires
get_styles_of_range-m-requires c = c.requires.can_ask

pub returns : goal.returns
unfolding look_says
returns c = adds_as (ap shared_says c.get_styles_of_range-m.ensures) c.put_shared.ensures
