-- Four lines, one behind the other.
use native.Mathlib.Omega.{arith}
use mathlib.Core.Path.{ap}
use Rattle.text.specs.Bytes.{bytes}
use Rattle.text_lines.specs.Lines.{number_text}
use Rattle.saved.proofs.Laying.{lays_then, lays_as, lays_more}
use Rattle.saved.proofs.writing.lay_head.Goals as goal

pub returns : goal.returns
returns c =
    let number = lays_as (ap (number_text (bytes "tank=")) c.wide.ensures) c.lay_number-a.ensures in
    let touched = lays_as (ap (number_text (bytes "touched=")) c.flag.ensures) c.lay_number-b.ensures in
    let marks = lays_as (ap (number_text (bytes "marks=")) c.wide-2.ensures) c.lay_number.ensures in
    lays_more (omega arith) (lays_then (lays_then (lays_then number touched) c.lay_number-c.ensures) marks)
