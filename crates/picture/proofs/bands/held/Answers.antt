-- By the answer.
use mathlib.Core.Path.{sym, ap, ◌∙◌}
use Rattle.tank.specs.State.{view}
use Rattle.picture.specs.Bands.{is_yes}
use Rattle.picture.proofs.BandLaws.{held_by}
use Rattle.picture.proofs.bands.held.Goals as goal

pub returns-in-Refused : goal.returns-in-Refused
unfolding is_yes
returns-in-Refused c =
    let a = c.args in
    sym (ap is_yes c.in-Refused.is) ∙ held_by c.range_contains_key-h.result a.from a.to a.hold c.key_of.result (view a.t) c.range_contains_key-h.ensures c.key_of.ensures c.requires.1

pub returns-in-No : goal.returns-in-No
unfolding is_yes
returns-in-No c =
    let a = c.args in
    sym (ap is_yes c.in-No.is) ∙ held_by c.range_contains_key-h.result a.from a.to a.hold c.key_of.result (view a.t) c.range_contains_key-h.ensures c.key_of.ensures c.requires.1

pub returns-in-Yes : goal.returns-in-Yes
unfolding is_yes
returns-in-Yes c =
    let a = c.args in
    sym (ap is_yes c.in-Yes.is) ∙ held_by c.range_contains_key-h.result a.from a.to a.hold c.key_of.result (view a.t) c.range_contains_key-h.ensures c.key_of.ensures c.requires.1
