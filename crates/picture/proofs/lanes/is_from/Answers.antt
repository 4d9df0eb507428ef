-- By the answer.
use mathlib.Core.Path.{sym, ap, ◌∙◌}
use Rattle.picture.specs.Lanes.{is_from}
use lib.Dec.{leb}
use Rattle.picture.proofs.lanes.is_from.Goals as goal

pub returns-in-Refused : goal.returns-in-Refused
unfolding is_from
returns-in-Refused c =
    let a = c.args in
    sym (ap (is_from a.least) c.in-Refused.is) ∙ ap (is_from a.least) c.style_at-m.ensures

pub returns-in-Nothing : goal.returns-in-Nothing
unfolding is_from
returns-in-Nothing c =
    let a = c.args in
    sym (ap (is_from a.least) c.in-Nothing.is) ∙ ap (is_from a.least) c.style_at-m.ensures

pub returns-in-Found : goal.returns-in-Found
unfolding is_from
returns-in-Found c =
    let a = c.args in
    ap (leb a.least) c.wide16.ensures ∙ sym (ap (is_from a.least) c.in-Found.is) ∙ ap (is_from a.least) c.style_at-m.ensures
