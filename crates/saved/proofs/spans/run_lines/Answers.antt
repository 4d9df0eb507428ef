-- A line after the other, and the set against the one before it.
use mathlib.Core.Path.{sym, ◌∙◌}
use Prim.Native.Nat.{◌-◌, ◌^◌}
use Rattle.text.specs.Bytes.{bytes}
use Rattle.text_lines.specs.Lines.{decimal_from}
use Rattle.text_lines.proofs.Laws.{taken_inside}
use Rattle.saved.proofs.RunsRead.{other_is, len_wrong, set_wrong, same_wrong, run_read}
use Rattle.saved.proofs.spans.run_lines.Goals as goal

pub returns-in_default : goal.returns-in_default
returns-in_default c =
    let a = c.args in
    len_wrong a.before a.most a.bytes.now a.from a.n (sym c.in_default.is ∙ c.number.ensures)

pub digits-requires : goal.digits-requires
digits-requires c =
    let a = c.args in
    let length_known = sym c.in-Some.is ∙ c.number.ensures in
    taken_inside (bytes "len=") (decimal_from 1 (2 ^ 64 - 1)) a.bytes.now a.from c.in-Some.len c.in-Some.next (sym length_known)

pub returns-in_default-digits : goal.returns-in_default-digits
returns-in_default-digits c =
    let a = c.args in
    let length_known = sym c.in-Some.is ∙ c.number.ensures in
    set_wrong a.before a.most a.bytes.now a.from a.n c.in-Some.len c.in-Some.next length_known (sym c.in_default-digits.is ∙ c.digits.ensures)

pub returns-then-ne : goal.returns-then-ne
returns-then-ne c =
    let a = c.args in
    let length_known = sym c.in-Some.is ∙ c.number.ensures in
    run_read a.before a.most a.bytes.now a.from a.n c.in-Some.len c.in-Some.next length_known c.in-Some-digits.set c.in-Some-digits.last (sym c.in-Some-digits.is ∙ c.digits.ensures) (sym (other_is a.before c.in-Some-digits.set) ∙ sym c.ne.ensures ∙ c.if-ne.true)

pub returns : goal.returns
returns c =
    let a = c.args in
    let length_known = sym c.in-Some.is ∙ c.number.ensures in
    same_wrong a.before a.most a.bytes.now a.from a.n c.in-Some.len c.in-Some.next length_known c.in-Some-digits.set c.in-Some-digits.last (sym c.in-Some-digits.is ∙ c.digits.ensures) (sym (other_is a.before c.in-Some-digits.set) ∙ sym c.ne.ensures ∙ c.if-ne.false)
