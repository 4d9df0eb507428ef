-- The answer of the call, as it says.
use mathlib.Core.Path.{ap}
use Rattle.answers.proofs.Laws.{adds_as}
use Rattle.answers.specs.Replies.{asked_says}
use Rattle.clerk.specs.Calls.{look_says}
use Rattle.clerk.proofs.asking.inherited.Goals as goal

pub style_for_insert-m-requires : goal.style_for_insert-m-requires
style_for_insert-m-requires c = c.requires.can_ask

pub returns : goal.returns
unfolding look_says
returns c = adds_as (ap asked_says c.style_for_insert-m.ensures) c.put_asked.ensures
