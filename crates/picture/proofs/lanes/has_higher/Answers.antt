-- A mark of the table has one.
use mathlib.Core.Path.{sym, ap, ◌∙◌}
use Rattle.tank.proofs.Unique.{marks_carried}
use Rattle.picture.specs.Lanes.{any_key}
use Rattle.picture.proofs.lanes.has_higher.Goals as goal

pub returns : goal.returns
returns c = c.any_key.ensures ∙ sym (ap (any_key c.args.least 65535) (marks_carried c.requires.formed))
