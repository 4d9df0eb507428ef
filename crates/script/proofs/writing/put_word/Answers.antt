-- By the kind.
use borrow.Author.Rules.{rules}
use mathlib.Core.Path.{sym, ap, ◌∙◌}
use native.Mathlib.Omega.{arith}
use mir.Syntax.{w64}
use mir.Val.{SFits}
use mir.Facts.{to_z-of_z}
use Rattle.text.specs.Number.{hex_text}
use Rattle.text.specs.Signed.{signed_text}
use Rattle.script.specs.Writing.{value_word}
use Rattle.script.proofs.PutLaws.{puts_all, puts_few, puts_hex, puts_as, puts_more}
use Rattle.script.proofs.writing.put_word.Goals as goal

pub returns-in-Null : goal.returns-in-Null
returns-in-Null c = puts_as (sym (ap value_word c.in-Null.is)) (puts_more (omega arith) (puts_all c.put.ensures))

pub returns-in-Flag : goal.returns-in-Flag
returns-in-Flag c = puts_as (sym (ap value_word c.in-Flag.is)) c.put_flag.ensures

pub returns-in-Whole : goal.returns-in-Whole
returns-in-Whole c =
    let f : SFits w64 c.in-Whole.z = record { sfits = search rules } in
    puts_as (ap signed_text (to_z-of_z f) ∙ sym (ap value_word c.in-Whole.is)) (puts_few c.put_integer.ensures)

pub returns-in-Decimal : goal.returns-in-Decimal
returns-in-Decimal c = puts_as (ap hex_text c.bits_of.ensures ∙ sym (ap value_word c.in-Decimal.is)) (puts_more (omega arith) (puts_hex _ c.put_hex.ensures))
