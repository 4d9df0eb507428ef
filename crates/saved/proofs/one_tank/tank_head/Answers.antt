-- A line after the other, then the marks.
use mathlib.Core.Path.{sym, ap, ◌∙◌}
use Prim.Native.Nat.{ℕ, ◌+◌, ◌^◌, ◌≤◌}
use native.Mathlib.Omega.{arith}
use lib.Dec.{eqb}
use Rattle.text.specs.Bytes.{bytes}
use Rattle.text_lines.specs.Lines.{taken_by, decimal_from}
use Rattle.text_lines.proofs.Laws.{taken_inside}
use Rattle.saved.specs.Saying.{least_length, most_length, most_marks}
use Rattle.saved.proofs.Steps.{taken_within}
use Rattle.saved.proofs.TanksRead as tanks
use Rattle.saved.proofs.one_tank.tank_head.Goals as goal

-- ---- what is asked for
pub returns-in_default : goal.returns-in_default
returns-in_default c =
    let a = c.args in
    let tank_is = c.number.ensures ∙ ap (λ (x : ℕ). taken_by (bytes "tank=") (decimal_from x x) a.bytes.now a.from) c.wide-w.ensures in
    rw c.wrong_head.ensures (tanks.tank_wrong a.version a.bytes.now a.from a.t a.n (sym c.in_default.is ∙ tank_is))

pub number-requires-2 : goal.number-requires-2
number-requires-2 c =
    let a = c.args in
    let tank_is = c.number.ensures ∙ ap (λ (x : ℕ). taken_by (bytes "tank=") (decimal_from x x) a.bytes.now a.from) c.wide-w.ensures in
    let tank_known = sym c.in-Some.is ∙ tank_is in
    taken_inside (bytes "tank=") (decimal_from a.t a.t) a.bytes.now a.from c.in-Some.field-0-0 c.in-Some.a (sym tank_known)

pub returns-in_default-number : goal.returns-in_default-number
returns-in_default-number c =
    let a = c.args in
    let tank_is = c.number.ensures ∙ ap (λ (x : ℕ). taken_by (bytes "tank=") (decimal_from x x) a.bytes.now a.from) c.wide-w.ensures in
    let tank_known = sym c.in-Some.is ∙ tank_is in
    let tank_on = tanks.tank_on_lem a.version a.bytes.now a.from a.t a.n c.in-Some.field-0-0 c.in-Some.a tank_known in
    rw c.wrong_head-in_default-number.ensures (tanks.touched_wrong a.version a.bytes.now a.from a.t a.n c.in-Some.field-0-0 c.in-Some.a tank_on (sym c.in_default-number.is ∙ c.number-2.ensures))

pub length_line-requires : goal.length_line-requires
length_line-requires c =
    let a = c.args in
    let flag_known = sym c.in-Some-number.is ∙ c.number-2.ensures in
    taken_inside (bytes "touched=") (decimal_from 0 1) a.bytes.now c.in-Some.a c.in-Some-number.flag c.in-Some-number.b (sym flag_known)

pub returns-in_default-length_line : goal.returns-in_default-length_line
returns-in_default-length_line c =
    let a = c.args in
    let tank_is = c.number.ensures ∙ ap (λ (x : ℕ). taken_by (bytes "tank=") (decimal_from x x) a.bytes.now a.from) c.wide-w.ensures in
    let tank_known = sym c.in-Some.is ∙ tank_is in
    let tank_on = tanks.tank_on_lem a.version a.bytes.now a.from a.t a.n c.in-Some.field-0-0 c.in-Some.a tank_known in
    let flag_known = sym c.in-Some-number.is ∙ c.number-2.ensures in
    let flag_on = tanks.touched_on a.version a.bytes.now a.from a.t a.n c.in-Some.field-0-0 c.in-Some.a tank_on c.in-Some-number.flag c.in-Some-number.b flag_known in
    rw c.wrong_head-in_default-length_line.ensures (tanks.length_wrong a.version a.bytes.now a.from a.t a.n c.in-Some-number.flag c.in-Some-number.b flag_on (sym c.in_default-length_line.is ∙ c.length_line.ensures))

pub number-requires-3 : goal.number-requires-3
number-requires-3 c =
    let a = c.args in
    let length_known = sym c.in-Some-length_line.is ∙ c.length_line.ensures in
    taken_inside (bytes "length=") (decimal_from (least_length c.in-Some-number.flag) (most_length c.in-Some-number.flag)) a.bytes.now c.in-Some-number.b c.in-Some-length_line.len c.in-Some-length_line.c (sym length_known)

pub returns-in_default-number-2 : goal.returns-in_default-number-2
returns-in_default-number-2 c =
    let a = c.args in
    let tank_is = c.number.ensures ∙ ap (λ (x : ℕ). taken_by (bytes "tank=") (decimal_from x x) a.bytes.now a.from) c.wide-w.ensures in
    let tank_known = sym c.in-Some.is ∙ tank_is in
    let tank_on = tanks.tank_on_lem a.version a.bytes.now a.from a.t a.n c.in-Some.field-0-0 c.in-Some.a tank_known in
    let flag_known = sym c.in-Some-number.is ∙ c.number-2.ensures in
    let flag_on = tanks.touched_on a.version a.bytes.now a.from a.t a.n c.in-Some.field-0-0 c.in-Some.a tank_on c.in-Some-number.flag c.in-Some-number.b flag_known in
    let length_known = sym c.in-Some-length_line.is ∙ c.length_line.ensures in
    let length_on = tanks.length_on a.version a.bytes.now a.from a.t a.n c.in-Some-number.flag c.in-Some-number.b flag_on c.in-Some-length_line.len c.in-Some-length_line.c length_known in
    let count_is = c.number-3.ensures ∙ ap (λ (x : ℕ). taken_by (bytes "marks=") (decimal_from 0 x) a.bytes.now c.in-Some-length_line.c) c.most_marks.ensures in
    rw c.wrong_head-in_default-number-2.ensures (tanks.count_wrong a.version a.bytes.now a.from a.t a.n c.in-Some-number.flag c.in-Some-length_line.len c.in-Some-length_line.c length_on (sym c.in_default-number-2.is ∙ count_is))

pub marks_lines-m-requires : goal.marks_lines-m-requires
marks_lines-m-requires c =
    let a = c.args in
    let small : c.args.n + 4 ≤ 2 ^ 30 + 4 = omega (arith, c.requires.0) in
    let count_is = c.number-3.ensures ∙ ap (λ (x : ℕ). taken_by (bytes "marks=") (decimal_from 0 x) a.bytes.now c.in-Some-length_line.c) c.most_marks.ensures in
    let count_known = sym c.in-Some-number-2.is ∙ count_is in
    let count_most = (taken_within (bytes "marks=") 0 (most_marks c.in-Some-number.flag) a.bytes.now c.in-Some-length_line.c c.in-Some-number-2.k c.in-Some-number-2.d count_known).1 in (
      omega (arith, small),
      omega (
        arith,
        count_most,
        tanks.cond_most (eqb c.in-Some-number.flag 1) 64 0 64 (omega arith) (omega arith),
      ),
      taken_inside (bytes "marks=") (decimal_from 0 (most_marks c.in-Some-number.flag)) a.bytes.now c.in-Some-length_line.c c.in-Some-number-2.k c.in-Some-number-2.d (sym count_known),
    )

pub returns-then-m-gt0 : goal.returns-then-m-gt0
returns-then-m-gt0 c =
    let a = c.args in
    let tank_is = c.number.ensures ∙ ap (λ (x : ℕ). taken_by (bytes "tank=") (decimal_from x x) a.bytes.now a.from) c.wide-w.ensures in
    let tank_known = sym c.in-Some.is ∙ tank_is in
    let tank_on = tanks.tank_on_lem a.version a.bytes.now a.from a.t a.n c.in-Some.field-0-0 c.in-Some.a tank_known in
    let flag_known = sym c.in-Some-number.is ∙ c.number-2.ensures in
    let flag_on = tanks.touched_on a.version a.bytes.now a.from a.t a.n c.in-Some.field-0-0 c.in-Some.a tank_on c.in-Some-number.flag c.in-Some-number.b flag_known in
    let length_known = sym c.in-Some-length_line.is ∙ c.length_line.ensures in
    let length_on = tanks.length_on a.version a.bytes.now a.from a.t a.n c.in-Some-number.flag c.in-Some-number.b flag_on c.in-Some-length_line.len c.in-Some-length_line.c length_known in
    let count_is = c.number-3.ensures ∙ ap (λ (x : ℕ). taken_by (bytes "marks=") (decimal_from 0 x) a.bytes.now c.in-Some-length_line.c) c.most_marks.ensures in
    let count_known = sym c.in-Some-number-2.is ∙ count_is in
    let count_on = tanks.count_on a.version a.bytes.now a.from a.t a.n c.in-Some-number.flag c.in-Some-length_line.len c.in-Some-length_line.c length_on c.in-Some-number-2.k c.in-Some-number-2.d count_known in
    rw c.wrong_head-then-m-gt0.ensures (tanks.marks_wrong a.version a.bytes.now a.from a.t a.n c.in-Some-number.flag c.in-Some-length_line.len c.in-Some-number-2.k c.in-Some-number-2.d count_on c.marks_lines-m.result c.marks_lines-m.ensures c.if-m-gt0.true)

pub returns : goal.returns
returns c =
    let a = c.args in
    let length_known = sym c.in-Some-length_line.is ∙ c.length_line.ensures in
    let tank_is = c.number.ensures ∙ ap (λ (x : ℕ). taken_by (bytes "tank=") (decimal_from x x) a.bytes.now a.from) c.wide-w.ensures in
    let tank_known = sym c.in-Some.is ∙ tank_is in
    let tank_on = tanks.tank_on_lem a.version a.bytes.now a.from a.t a.n c.in-Some.field-0-0 c.in-Some.a tank_known in
    let flag_known = sym c.in-Some-number.is ∙ c.number-2.ensures in
    let flag_on = tanks.touched_on a.version a.bytes.now a.from a.t a.n c.in-Some.field-0-0 c.in-Some.a tank_on c.in-Some-number.flag c.in-Some-number.b flag_known in
    let length_on = tanks.length_on a.version a.bytes.now a.from a.t a.n c.in-Some-number.flag c.in-Some-number.b flag_on c.in-Some-length_line.len c.in-Some-length_line.c length_known in
    let count_is = c.number-3.ensures ∙ ap (λ (x : ℕ). taken_by (bytes "marks=") (decimal_from 0 x) a.bytes.now c.in-Some-length_line.c) c.most_marks.ensures in
    let count_known = sym c.in-Some-number-2.is ∙ count_is in
    let count_on = tanks.count_on a.version a.bytes.now a.from a.t a.n c.in-Some-number.flag c.in-Some-length_line.len c.in-Some-length_line.c length_on c.in-Some-number-2.k c.in-Some-number-2.d count_known in
    let count_most = (taken_within (bytes "marks=") 0 (most_marks c.in-Some-number.flag) a.bytes.now c.in-Some-length_line.c c.in-Some-number-2.k c.in-Some-number-2.d count_known).1 in
    let high = (taken_within (bytes "length=") (least_length c.in-Some-number.flag) (most_length c.in-Some-number.flag) a.bytes.now c.in-Some-number.b c.in-Some-length_line.len c.in-Some-length_line.c length_known).1 in
    rw c.head_with.ensures (tanks.head_read a.version a.bytes.now a.from a.t a.n c.in-Some-number.flag c.in-Some-length_line.len c.in-Some-number-2.k c.in-Some-number-2.d count_on c.marks_lines-m.result c.marks_lines-m.ensures c.if-m-gt0.false count_most high)
