-- `range_contains_key` meets its contract: the parts of the state that the tank stands in answer for it.
use mathlib.Core.Path.{◌∙◌}
use Rattle.questions.specs.declared.Told.{Told}
use Rattle.questions.specs.Questions.{range_contains_key}
use Rattle.ask.proofs.Standing.{can_ask, asked_there}
use Rattle.ask.proofs.range_contains_key.Goals as goal

pub range_contains_key-requires : goal.range_contains_key-requires
range_contains_key-requires c = can_ask c.args.s c.args.tank c.place.result c.place.ensures.0 c.requires

pub returns : goal.returns
returns c =
    let a = c.args in
    c.range_contains_key.ensures ∙ asked_there a.s a.tank c.place.result c.place.ensures.0 a.who (Told.Refused 1) (range_contains_key a.start a.end a.key)
