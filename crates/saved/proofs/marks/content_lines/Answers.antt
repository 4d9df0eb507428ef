-- A line after the other: the first that is wrong is the mark's.
use mathlib.Core.Path.{sym, ap, ◌∙◌}
use native.Mathlib.Omega.{arith}
use borrow.Author.Rules.{rules}
use lib.IntN.{ℤ}
use mir.Syntax.{w32}
use mir.Facts.{to_z-of_z}
use Rattle.text.specs.Bytes.{bytes}
use Rattle.text_lines.specs.Lines.{decimal_from}
use Rattle.text_lines.proofs.Laws.{taken_inside}
use Rattle.saved.specs.Saying.{mark_with}
use Rattle.saved.proofs.Steps.{taken_within}
use Rattle.saved.proofs.MarksRead as marks
use Rattle.saved.proofs.marks.content_lines.Goals as goal

-- ---- what is asked for
pub returns-in_default : goal.returns-in_default
returns-in_default c =
    let a = c.args in
    marks.counter_wrong a.version a.i a.bytes.now a.from a.n c.counter_line.result c.counter_line.ensures c.in_default.is

pub number-requires : goal.number-requires
number-requires c =
    let a = c.args in
    let counter_bounds = marks.counter_bounds a.version a.i a.bytes.now a.from a.n c.counter_line.result c.counter_line.ensures c.in-Some.cnt c.in-Some.m c.in-Some.a c.in-Some.is in
    counter_bounds.1

pub returns-in_default-number : goal.returns-in_default-number
returns-in_default-number c =
    let a = c.args in
    let counter_on = marks.counter_on a.version a.i a.bytes.now a.from a.n c.counter_line.result c.counter_line.ensures c.in-Some.cnt c.in-Some.m c.in-Some.a c.in-Some.is in
    marks.flags_wrong a.version a.i a.bytes.now a.from a.n c.in-Some.cnt c.in-Some.m c.in-Some.a counter_on (sym c.in_default-number.is ∙ c.number.ensures)

pub kind_line-requires : goal.kind_line-requires
kind_line-requires c =
    let a = c.args in
    let flags_known = sym c.in-Some-number.is ∙ c.number.ensures in
    taken_inside (bytes "flags=") (decimal_from 0 255) a.bytes.now c.in-Some.a c.in-Some-number.flags c.in-Some-number.b (sym flags_known)

pub returns-in_default-kind_line : goal.returns-in_default-kind_line
returns-in_default-kind_line c =
    let a = c.args in
    let counter_on = marks.counter_on a.version a.i a.bytes.now a.from a.n c.counter_line.result c.counter_line.ensures c.in-Some.cnt c.in-Some.m c.in-Some.a c.in-Some.is in
    let flags_known = sym c.in-Some-number.is ∙ c.number.ensures in
    let flags_on = marks.flags_on a.version a.i a.bytes.now a.from a.n c.in-Some.cnt c.in-Some.m c.in-Some.a counter_on c.in-Some-number.flags c.in-Some-number.b flags_known in
    marks.kind_wrong a.version a.i a.bytes.now a.from a.n c.in-Some.cnt c.in-Some.m c.in-Some-number.flags c.in-Some-number.b flags_on c.kind_line.result c.kind_line.ensures c.in_default-kind_line.is

pub value_line-requires : goal.value_line-requires
value_line-requires c =
    let a = c.args in
    marks.kind_inside a.version a.i a.bytes.now a.from a.n c.in-Some-number.b c.kind_line.result c.kind_line.ensures c.in-Some-kind_line.kind c.in-Some-kind_line.c c.in-Some-kind_line.is

pub returns-in_default-value_line : goal.returns-in_default-value_line
returns-in_default-value_line c =
    let a = c.args in
    let counter_on = marks.counter_on a.version a.i a.bytes.now a.from a.n c.counter_line.result c.counter_line.ensures c.in-Some.cnt c.in-Some.m c.in-Some.a c.in-Some.is in
    let flags_known = sym c.in-Some-number.is ∙ c.number.ensures in
    let flags_on = marks.flags_on a.version a.i a.bytes.now a.from a.n c.in-Some.cnt c.in-Some.m c.in-Some.a counter_on c.in-Some-number.flags c.in-Some-number.b flags_known in
    let kind_on = marks.kind_on a.version a.i a.bytes.now a.from a.n c.in-Some.cnt c.in-Some.m c.in-Some-number.flags c.in-Some-number.b flags_on c.kind_line.result c.kind_line.ensures c.in-Some-kind_line.kind c.in-Some-kind_line.c c.in-Some-kind_line.is in
    marks.value_wrong a.version a.i a.bytes.now a.from a.n c.in-Some.cnt c.in-Some.m c.in-Some-number.flags c.in-Some-kind_line.kind c.in-Some-kind_line.c kind_on c.value_line.result c.value_line.ensures c.in_default-value_line.is

pub mark_with-requires : goal.mark_with-requires
mark_with-requires c =
    let a = c.args in
    let flags_known = sym c.in-Some-number.is ∙ c.number.ensures in
    omega (arith, (taken_within (bytes "flags=") 0 255 a.bytes.now c.in-Some.a c.in-Some-number.flags c.in-Some-number.b flags_known).1)

pub returns : goal.returns
returns c =
    let a = c.args in
    let counter_on = marks.counter_on a.version a.i a.bytes.now a.from a.n c.counter_line.result c.counter_line.ensures c.in-Some.cnt c.in-Some.m c.in-Some.a c.in-Some.is in
    let flags_known = sym c.in-Some-number.is ∙ c.number.ensures in
    let flags_on = marks.flags_on a.version a.i a.bytes.now a.from a.n c.in-Some.cnt c.in-Some.m c.in-Some.a counter_on c.in-Some-number.flags c.in-Some-number.b flags_known in
    let kind_on = marks.kind_on a.version a.i a.bytes.now a.from a.n c.in-Some.cnt c.in-Some.m c.in-Some-number.flags c.in-Some-number.b flags_on c.kind_line.result c.kind_line.ensures c.in-Some-kind_line.kind c.in-Some-kind_line.c c.in-Some-kind_line.is in
    let counter_bounds = marks.counter_bounds a.version a.i a.bytes.now a.from a.n c.counter_line.result c.counter_line.ensures c.in-Some.cnt c.in-Some.m c.in-Some.a c.in-Some.is in
    marks.content_read a.version a.i a.bytes.now a.from a.n c.in-Some.cnt c.in-Some.m c.in-Some-number.flags c.in-Some-kind_line.kind c.in-Some-kind_line.c kind_on c.value_line.result c.value_line.ensures c.in-Some-value_line.value c.in-Some-value_line.d c.in-Some-value_line.is counter_bounds.0 c.mark_with.result
    (c.mark_with.ensures ∙ ap (λ (z : ℤ). mark_with a.i z c.in-Some-number.flags c.in-Some-value_line.value) (to_z-of_z {w = w32} (record { sfits = search rules })))
