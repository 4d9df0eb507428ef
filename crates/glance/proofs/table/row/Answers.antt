-- The three parts of a row; as many runs are stored as the positions have.
use mathlib.Core.Path.{sym, ap, ◌∙◌}
use Rattle.tank.specs.State.{view}
use Rattle.tank.proofs.Unique.{runs_held_lem}
use Rattle.answers.proofs.Laws.{and_then, adds_as}
use Rattle.glance.specs.Glance.{row_front}
use Rattle.glance.proofs.table.row.Goals as goal

pub returns : goal.returns
unfolding view
returns c = and_then (and_then (adds_as (ap (row_front c.args.number c.args.x) (c.wide.ensures ∙ sym (runs_held_lem c.requires.0.formed.laid))) c.row_front-a.ensures) c.row_marks-b.ensures) c.row_end.ensures
