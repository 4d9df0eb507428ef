-- `styles_at` meets its contract: the parts of the state that the tank stands in answer for it.
use mathlib.Core.Path.{◌∙◌}
use mathlib.Core.List.{[]}
use Rattle.questions.specs.Questions.{set_of, styles_at}
use Rattle.ask.proofs.Standing.{can_ask, asked_there}
use Rattle.ask.proofs.styles_at.Goals as goal

pub styles_at-requires : goal.styles_at-requires
styles_at-requires c = can_ask c.args.s c.args.tank c.place.result c.place.ensures.0 c.requires

pub returns : goal.returns
returns c =
    let a = c.args in
    c.styles_at.ensures ∙ asked_there a.s a.tank c.place.result c.place.ensures.0 a.who (set_of 1 []) (styles_at a.pos)
