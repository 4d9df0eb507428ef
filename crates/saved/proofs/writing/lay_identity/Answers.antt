-- Four lines, one behind the other.
use native.Mathlib.Omega.{arith}
use mathlib.Core.Path.{ap}
use Rattle.text.specs.Bytes.{bytes}
use Rattle.text_lines.specs.Lines.{number_text}
use Rattle.saved.proofs.Laying.{lays_then, lays_as, lays_more}
use Rattle.saved.proofs.writing.lay_identity.Goals as goal

pub returns : goal.returns
returns c =
    let key = lays_as (ap (number_text (bytes "key=")) c.wide16.ensures) c.lay_number-b.ensures in
    let lamport = lays_as (ap (number_text (bytes "lamport=")) c.wide32.ensures) c.lay_number-c.ensures in
    lays_more (omega arith) (lays_then (lays_then (lays_then c.lay_party-a.ensures key) lamport) c.lay_number.ensures)
