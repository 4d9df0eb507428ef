-- The answer of the call, as it says.
use mathlib.Core.Path.{ap}
use Rattle.answers.proofs.Laws.{adds_as}
use Rattle.answers.specs.Replies.{set_says}
use Rattle.clerk.specs.Calls.{look_says}
use Rattle.clerk.proofs.asking.inherit.Goals as goal

pub get_styles_for_insert-m-requires : goal.get_styles_for_insert-m-requires
get_styles_for_insert-m-requires c = c.requires.can_ask

pub returns : goal.returns
unfolding look_says
returns c = adds_as (ap set_says c.get_styles_for_insert-m.ensures) c.put_set_asked.ensures
