-- The head, the marks, how many runs, and the runs.
use native.Mathlib.Omega.{arith}
use mathlib.Core.Path.{sym, ap, subst, ◌∙◌}
use Rattle.text.specs.Bytes.{bytes}
use Rattle.text_lines.specs.Lines.{number_text}
use Rattle.runs.proofs.Laws.{length_runs}
use Rattle.tank.proofs.Unique.{table_length}
use Rattle.saved.specs.Saved.{tank_text}
use Rattle.saved.specs.Saying.{newest}
use Rattle.saved.specs.Writes.{head_text, FitsMarks}
use Rattle.saved.proofs.Laying.{lays_then, lays_as, lays_more}
use Rattle.saved.proofs.Pieces.{tank_stored}
use Rattle.saved.proofs.Widths.{carried_is}
use Rattle.saved.proofs.writing.lay_tank.Goals as goal

pub returns : goal.returns
unfolding tank_text
returns c =
    let x = c.args.x in
    let f = c.requires.1 in
    let marks = c.lay_marks-b.ensures in
    let head = lays_as (ap (head_text c.args.t x.touched x.length) (sym (table_length f.laid))) c.lay_head-a.ensures in
    let count = lays_as (ap (number_text (bytes "runs=")) (c.wide.ensures ∙ sym (length_runs x.lens x.sets x.runs))) c.lay_number-c.ensures in record {
      lays = lays_as (tank_stored newest c.args.t f)
          (lays_more (omega (arith, f.laid.few, f.laid.most)) (lays_then (lays_then (lays_then head marks.lays) count) c.lay_runs.ensures));
      fits_marks = subst FitsMarks (sym (carried_is f)) marks.fits_marks;
    }
