-- `style_at` meets its contract: the parts of the state that the tank stands in answer for it.
use mathlib.Core.Path.{◌∙◌}
use Rattle.questions.specs.declared.Asked.{Asked}
use Rattle.questions.specs.Questions.{style_at}
use Rattle.ask.proofs.Standing.{can_ask, asked_there}
use Rattle.ask.proofs.style_at.Goals as goal

pub style_at-requires : goal.style_at-requires
style_at-requires c = can_ask c.args.s c.args.tank c.place.result c.place.ensures.0 c.requires

pub returns : goal.returns
returns c =
    let a = c.args in
    c.style_at.ensures ∙ asked_there a.s a.tank c.place.result c.place.ensures.0 a.who (Asked.Refused 1) (style_at a.pos a.rank)
