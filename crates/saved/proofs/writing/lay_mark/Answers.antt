-- The identity, the counter, the flags and the value.
use native.Mathlib.Omega.{arith}
use mathlib.Core.Path.{ap}
use Rattle.text.specs.Bytes.{bytes}
use Rattle.text_lines.specs.Lines.{number_text}
use borrow.Author.Rules.{rules}
use mir.Syntax.{w32}
use mir.Val.{SFits}
use mir.Facts.{to_z-of_z}
use Rattle.script.specs.Writing.{counter_text}
use Rattle.saved.specs.Saved.{saved_mark}
use Rattle.saved.proofs.Laying.{lays_then, lays_as, lays_more}
use Rattle.saved.proofs.Widths.{fits_mark}
use Rattle.saved.proofs.writing.lay_mark.Goals as goal

pub returns : goal.returns
unfolding saved_mark
returns c =
    let fits : SFits w32 c.args.m.cnt = record { sfits = search rules } in
    let counter = lays_as (ap counter_text (to_z-of_z fits)) c.lay_counter-b.ensures in
    let flags = lays_as (ap (number_text (bytes "flags=")) c.wide8.ensures.0) c.lay_number-c.ensures in record { lays = lays_more (omega arith) (lays_then (lays_then (lays_then c.lay_identity-a.ensures counter) flags) c.lay_value.ensures); fits_mark = fits_mark c.args.m (search rules) }
