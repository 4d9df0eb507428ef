-- By the answer.
use mathlib.Core.Path.{sym, ap, ◌∙◌}
use Rattle.tank.specs.State.{view}
use Rattle.windows.specs.Windows.{is_value}
use Rattle.picture.proofs.Choices.{shows_by}
use Rattle.picture.proofs.lanes.shows.Goals as goal

pub returns-in-Refused : goal.returns-in-Refused
unfolding is_value
returns-in-Refused c =
    let a = c.args in
    sym (ap is_value c.in-Refused.is) ∙ shows_by c.value_at-v.result a.pos a.key c.key_of.result (view a.t) c.value_at-v.ensures c.key_of.ensures c.requires.1

pub returns-in-Nothing : goal.returns-in-Nothing
unfolding is_value
returns-in-Nothing c =
    let a = c.args in
    sym (ap is_value c.in-Nothing.is) ∙ shows_by c.value_at-v.result a.pos a.key c.key_of.result (view a.t) c.value_at-v.ensures c.key_of.ensures c.requires.1

pub returns-in-Shows : goal.returns-in-Shows
unfolding is_value
returns-in-Shows c =
    let a = c.args in
    sym (ap is_value c.in-Shows.is) ∙ shows_by c.value_at-v.result a.pos a.key c.key_of.result (view a.t) c.value_at-v.ensures c.key_of.ensures c.requires.1
