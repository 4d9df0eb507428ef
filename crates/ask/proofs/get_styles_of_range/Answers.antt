-- `get_styles_of_range` meets its contract: the parts of the state that the tank stands in answer for it.
use mathlib.Core.Path.{◌∙◌}
use mathlib.Core.List.{[]}
use mathlib.Core.Bool.{false}
use Rattle.questions.specs.Questions.{shared_of, styles_of_range}
use Rattle.ask.proofs.Standing.{can_ask, asked_there}
use Rattle.ask.proofs.get_styles_of_range.Goals as goal

pub get_styles_of_range-requires : goal.get_styles_of_range-requires
get_styles_of_range-requires c = can_ask c.args.s c.args.tank c.place.result c.place.ensures.0 c.requires

pub returns : goal.returns
returns c =
    let a = c.args in
    c.get_styles_of_range.ensures ∙ asked_there a.s a.tank c.place.result c.place.ensures.0 a.who (shared_of 1 false []) (styles_of_range a.start a.end)
