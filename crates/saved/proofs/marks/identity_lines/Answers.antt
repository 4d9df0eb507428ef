-- A line after the other: the first that is wrong is the identity's.
use mathlib.Core.Path.{sym, ap, ◌∙◌}
use Prim.Native.Nat.{ℕ, ◌-◌, ◌^◌}
use native.Mathlib.Omega.{arith}
use Rattle.text.specs.Bytes.{bytes}
use Rattle.text_lines.specs.Lines.{taken_by, decimal_from}
use Rattle.text_lines.proofs.Laws.{taken_inside}
use Rattle.saved.specs.Saying.{key_least, lamport_least}
use Rattle.saved.proofs.Steps.{taken_within}
use Rattle.saved.proofs.MarksRead as marks
use Rattle.saved.proofs.marks.identity_lines.Goals as goal

-- ---- what is asked for
pub returns-in_default : goal.returns-in_default
returns-in_default c =
    let a = c.args in
    let key_is = c.number.ensures ∙ ap (λ (x : ℕ). taken_by (bytes "key=") (decimal_from x (2 ^ 16 - 1)) a.bytes.now a.from) c.key_least.ensures in
    marks.key_wrong a.before a.who a.bytes.now a.from a.n (sym c.in_default.is ∙ key_is)

pub number-requires-2 : goal.number-requires-2
number-requires-2 c =
    let a = c.args in
    let key_is = c.number.ensures ∙ ap (λ (x : ℕ). taken_by (bytes "key=") (decimal_from x (2 ^ 16 - 1)) a.bytes.now a.from) c.key_least.ensures in
    let key_known = sym c.in-Some.is ∙ key_is in
    taken_inside (bytes "key=") (decimal_from (key_least a.before) (2 ^ 16 - 1)) a.bytes.now a.from c.in-Some.key c.in-Some.a (sym key_known)

pub returns-in_default-number : goal.returns-in_default-number
returns-in_default-number c =
    let a = c.args in
    let key_is = c.number.ensures ∙ ap (λ (x : ℕ). taken_by (bytes "key=") (decimal_from x (2 ^ 16 - 1)) a.bytes.now a.from) c.key_least.ensures in
    let key_known = sym c.in-Some.is ∙ key_is in
    let key_on = marks.key_on a.before a.who a.bytes.now a.from a.n c.in-Some.key c.in-Some.a key_known in
    let lamport_is = c.number-2.ensures ∙ ap (λ (x : ℕ). taken_by (bytes "lamport=") (decimal_from x (2 ^ 32 - 1)) a.bytes.now c.in-Some.a) c.lamport_least.ensures in
    marks.lamport_wrong a.before a.who a.bytes.now a.from a.n c.in-Some.key c.in-Some.a key_on (sym c.in_default-number.is ∙ lamport_is)

pub peer_line-requires : goal.peer_line-requires
peer_line-requires c =
    let a = c.args in
    let lamport_is = c.number-2.ensures ∙ ap (λ (x : ℕ). taken_by (bytes "lamport=") (decimal_from x (2 ^ 32 - 1)) a.bytes.now c.in-Some.a) c.lamport_least.ensures in
    let lamport_known = sym c.in-Some-number.is ∙ lamport_is in
    taken_inside (bytes "lamport=") (decimal_from (lamport_least a.before c.in-Some.key) (2 ^ 32 - 1)) a.bytes.now c.in-Some.a c.in-Some-number.lamport c.in-Some-number.b (sym lamport_known)

pub returns-in_default-peer_line : goal.returns-in_default-peer_line
returns-in_default-peer_line c =
    let a = c.args in
    let key_is = c.number.ensures ∙ ap (λ (x : ℕ). taken_by (bytes "key=") (decimal_from x (2 ^ 16 - 1)) a.bytes.now a.from) c.key_least.ensures in
    let key_known = sym c.in-Some.is ∙ key_is in
    let key_on = marks.key_on a.before a.who a.bytes.now a.from a.n c.in-Some.key c.in-Some.a key_known in
    let lamport_is = c.number-2.ensures ∙ ap (λ (x : ℕ). taken_by (bytes "lamport=") (decimal_from x (2 ^ 32 - 1)) a.bytes.now c.in-Some.a) c.lamport_least.ensures in
    let lamport_known = sym c.in-Some-number.is ∙ lamport_is in
    let lamport_on = marks.lamport_on a.before a.who a.bytes.now a.from a.n c.in-Some.key c.in-Some.a key_on c.in-Some-number.lamport c.in-Some-number.b lamport_known in
    marks.peer_wrong a.before a.who a.bytes.now a.from a.n c.in-Some.key c.in-Some-number.lamport c.in-Some-number.b lamport_on (sym c.in_default-peer_line.is ∙ c.peer_line.ensures)

pub identity_with-requires : goal.identity_with-requires
identity_with-requires c =
    let a = c.args in
    let key_is = c.number.ensures ∙ ap (λ (x : ℕ). taken_by (bytes "key=") (decimal_from x (2 ^ 16 - 1)) a.bytes.now a.from) c.key_least.ensures in
    let key_known = sym c.in-Some.is ∙ key_is in
    let lamport_is = c.number-2.ensures ∙ ap (λ (x : ℕ). taken_by (bytes "lamport=") (decimal_from x (2 ^ 32 - 1)) a.bytes.now c.in-Some.a) c.lamport_least.ensures in
    let lamport_known = sym c.in-Some-number.is ∙ lamport_is in
    let x = taken_within (bytes "key=") (key_least a.before) (2 ^ 16 - 1) a.bytes.now a.from c.in-Some.key c.in-Some.a key_known in
    let y = taken_within (bytes "lamport=") (lamport_least a.before c.in-Some.key) (2 ^ 32 - 1) a.bytes.now c.in-Some.a c.in-Some-number.lamport c.in-Some-number.b lamport_known in
    (omega (arith, x.1), omega (arith, y.1))

pub returns : goal.returns
returns c =
    let a = c.args in
    let key_is = c.number.ensures ∙ ap (λ (x : ℕ). taken_by (bytes "key=") (decimal_from x (2 ^ 16 - 1)) a.bytes.now a.from) c.key_least.ensures in
    let key_known = sym c.in-Some.is ∙ key_is in
    let key_on = marks.key_on a.before a.who a.bytes.now a.from a.n c.in-Some.key c.in-Some.a key_known in
    let lamport_is = c.number-2.ensures ∙ ap (λ (x : ℕ). taken_by (bytes "lamport=") (decimal_from x (2 ^ 32 - 1)) a.bytes.now c.in-Some.a) c.lamport_least.ensures in
    let lamport_known = sym c.in-Some-number.is ∙ lamport_is in
    let lamport_on = marks.lamport_on a.before a.who a.bytes.now a.from a.n c.in-Some.key c.in-Some.a key_on c.in-Some-number.lamport c.in-Some-number.b lamport_known in
    marks.identity_read a.before a.who a.bytes.now a.from a.n c.in-Some.key c.in-Some-number.lamport c.in-Some-number.b lamport_on c.in-Some-peer_line.peer c.in-Some-peer_line.c (sym c.in-Some-peer_line.is ∙ c.peer_line.ensures) c.identity_with.result c.identity_with.ensures
