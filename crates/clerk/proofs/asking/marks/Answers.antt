-- The answer of the call, as it says.
use mathlib.Core.Path.{ap}
use Rattle.answers.proofs.Laws.{adds_as}
use Rattle.answers.specs.Replies.{set_says}
use Rattle.clerk.specs.Calls.{look_says}
use Rattle.clerk.proofs.asking.marks.Goals as goal

pub styles_at-m-requires : goal.styles_at-m-requires
styles_at-m-requires c = c.requires.can_ask

pub returns : goal.returns
unfolding look_says
returns c = adds_as (ap set_says c.styles_at-m.ensures) c.put_set_asked.ensures
