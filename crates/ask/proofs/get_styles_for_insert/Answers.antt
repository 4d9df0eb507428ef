-- `get_styles_for_insert` meets its contract: the parts of the state that the tank stands in answer for it.
use mathlib.Core.Path.{◌∙◌}
use mathlib.Core.List.{[]}
use Rattle.questions.specs.Questions.{set_of, styles_for_insert}
use Rattle.ask.proofs.Standing.{can_ask, asked_there}
use Rattle.ask.proofs.get_styles_for_insert.Goals as goal

pub get_styles_for_insert-requires : goal.get_styles_for_insert-requires
get_styles_for_insert-requires c = can_ask c.args.s c.args.tank c.place.result c.place.ensures.0 c.requires

pub returns : goal.returns
returns c =
    let a = c.args in
    c.get_styles_for_insert.ensures ∙ asked_there a.s a.tank c.place.result c.place.ensures.0 a.who (set_of 1 []) (styles_for_insert a.pos)
