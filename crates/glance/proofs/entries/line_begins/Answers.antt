-- By the place.
use mathlib.Core.Path.{sym, ap}
use Rattle.answers.proofs.Laws.{adds_as, no_piece}
use Rattle.glance.specs.Glance.{line_begins}
use Rattle.glance.proofs.Laws.{inside_line}
use Rattle.glance.proofs.entries.line_begins.Goals as goal

pub returns : goal.returns
returns c = adds_as (inside_line c.args.i c.if-i-eq0.false c.if-i-eq4.false) (no_piece _ _)
