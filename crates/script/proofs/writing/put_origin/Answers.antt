-- Four lines, one behind the other.
use borrow.Author.Rules.{rules}
use mathlib.Core.Path.{ap}
use native.Mathlib.Omega.{arith}
use mir.Syntax.{w32}
use mir.Val.{SFits}
use mir.Facts.{to_z-of_z}
use Rattle.text.specs.Bytes.{bytes}
use Rattle.script.specs.Writing.{field_text, counter_text}
use Rattle.script.proofs.PutLaws.{puts_then, puts_as}
use Rattle.script.proofs.writing.put_origin.Goals as goal

pub returns : goal.returns
returns c =
    let key = puts_as (ap (field_text (bytes "key=")) c.from.ensures) c.put_field-a.ensures in
    let lamport = puts_as (ap (field_text (bytes "lamport=")) c.from-2.ensures) c.put_field-b.ensures in
    let fits : SFits w32 c.args.m.cnt = record { sfits = search rules } in
    let counter = puts_as (ap counter_text (to_z-of_z fits)) c.put_counter.ensures in
    puts_then (omega arith) (puts_then (omega arith) (puts_then (omega arith) key lamport) c.put_field-c.ensures) counter
