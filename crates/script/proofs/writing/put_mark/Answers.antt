-- Three texts, one behind the other.
use mathlib.Core.Path.{ap}
use native.Mathlib.Omega.{arith}
use Rattle.text.specs.Bytes.{bytes}
use Rattle.script.specs.Writing.{field_text, mark_text}
use Rattle.script.proofs.PutLaws.{puts_then, puts_as}
use Rattle.script.proofs.writing.put_mark.Goals as goal

pub returns : goal.returns
unfolding mark_text
returns c =
    let flags = puts_as (ap (field_text (bytes "flags=")) c.from.ensures) c.put_field-b.ensures in
    puts_then (omega arith) (puts_then (omega arith) c.put_origin-a.ensures flags) c.put_value.ensures
