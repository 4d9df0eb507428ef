-- `value_at` meets its contract: the parts of the state that the tank stands in answer for it.
use mathlib.Core.Path.{◌∙◌}
use Rattle.questions.specs.declared.Shown.{Shown}
use Rattle.questions.specs.Questions.{value_at}
use Rattle.ask.proofs.Standing.{can_ask, asked_there}
use Rattle.ask.proofs.value_at.Goals as goal

pub value_at-requires : goal.value_at-requires
value_at-requires c = can_ask c.args.s c.args.tank c.place.result c.place.ensures.0 c.requires

pub returns : goal.returns
returns c =
    let a = c.args in
    c.value_at.ensures ∙ asked_there a.s a.tank c.place.result c.place.ensures.0 a.who (Shown.Refused 1) (value_at a.pos a.key)
