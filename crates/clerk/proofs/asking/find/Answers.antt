-- The answer of the call, as it says.
use mathlib.Core.Path.{ap}
use Rattle.answers.proofs.Laws.{adds_as}
use Rattle.answers.specs.Replies.{extent_says}
use Rattle.clerk.specs.Calls.{look_says}
use Rattle.clerk.proofs.asking.find.Goals as goal

pub stretch_at-e-requires : goal.stretch_at-e-requires
stretch_at-e-requires c = c.requires.can_ask

pub returns : goal.returns
unfolding look_says
returns c = adds_as (ap extent_says c.stretch_at-e.ensures) c.put_extent.ensures
