-- `stretches_needed` meets its contract: the parts of the state that the tank stands in answer for it.
use mathlib.Core.Path.{◌∙◌}
use Rattle.lists.specs.Lists.{range_needed}
use Rattle.ask.specs.Asks.{no_list}
use Rattle.ask.proofs.Standing.{can_ask, asked_there}
use Rattle.ask.proofs.stretches_needed.Goals as goal

pub stretches_needed-requires : goal.stretches_needed-requires
stretches_needed-requires c = can_ask c.args.s c.args.tank c.place.result c.place.ensures.0 c.requires

pub returns : goal.returns
returns c =
    let a = c.args in
    c.stretches_needed.ensures ∙ asked_there a.s a.tank c.place.result c.place.ensures.0 a.who no_list (range_needed a.start a.end)
