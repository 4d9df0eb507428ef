-- `stretch_at` meets its contract: the parts of the state that the tank stands in answer for it.
use mathlib.Core.Path.{◌∙◌}
use Rattle.questions.specs.Questions.{extent_of, stretch_at}
use Rattle.ask.proofs.Standing.{can_ask, asked_there}
use Rattle.ask.proofs.stretch_at.Goals as goal

pub stretch_at-requires : goal.stretch_at-requires
stretch_at-requires c = can_ask c.args.s c.args.tank c.place.result c.place.ensures.0 c.requires

pub returns : goal.returns
returns c =
    let a = c.args in
    c.stretch_at.ensures ∙ asked_there a.s a.tank c.place.result c.place.ensures.0 a.who (extent_of 1 0 0) (stretch_at a.pos)
