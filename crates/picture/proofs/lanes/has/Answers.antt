-- A mark of the table has it.
use mathlib.Core.Path.{sym, ap, ◌∙◌}
use Rattle.tank.specs.State.{view}
use Rattle.tank.proofs.Unique.{marks_carried}
use Rattle.picture.specs.Lanes.{any_key}
use Rattle.picture.proofs.LaneLaws.{occurs_by}
use Rattle.picture.proofs.lanes.has.Goals as goal

pub returns-then-key-le65535 : goal.returns-then-key-le65535
returns-then-key-le65535 c =
    let a = c.args in
    c.any_key.ensures ∙ sym (ap (any_key a.key a.key) (marks_carried c.requires.formed)) ∙ sym (occurs_by (view a.t) a.key c.if-key-le65535.true)
