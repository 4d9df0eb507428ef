use mathlib.Core.Path.{◌≡◌, sym, ap, ◌∙◌}
use mathlib.Core.Bool.{false}
use mathlib.Core.List.{List}
use Prim.Native.Nat.{ℕ, suc, ◌+◌, ◌-◌, ◌<◌, ◌≤◌}
use native.Mathlib.Omega.{arith}
use lib.ListN.{length, drop, length-drop, drop_of_length-le}
use lib.Seq.{drop-drop}
use Rattle.text.specs.Bytes.{up_to, starts_of}
use Rattle.text.proofs.Finding.{front_part, front_length}
use Rattle.keeper_file.specs.Group.{newline, number_behind, field_in}
use Rattle.keeper_file.proofs.Fields.{field_none, field_here, field_past}
use Rattle.keeper_file.proofs.group.field.Goals as goal

-- past a line that does not begin with the name
on : (left at next : ℕ) (name bytes : List ℕ) → 0 < left → next ≡ at + suc (length (up_to newline (drop at bytes))) → starts_of (up_to newline (drop at bytes)) name ≡ false
    → field_in (left - 1) name (drop next bytes) ≡ field_in left name (drop at bytes)
on left at next name bytes more e none =
    ap (λ (k : ℕ). field_in (left - 1) name (drop k bytes)) e
    ∙ ap (field_in (left - 1) name) (sym (drop-drop (suc (length (up_to newline (drop at bytes)))) at bytes))
    ∙ sym (field_past left name (drop at bytes) more none)

pub returns-then-bytes-end : goal.returns-then-bytes-end
returns-then-bytes-end c =
    let w = c.loop-passed in
    let a = c.args in
    let l : length a.bytes.now ≤ w.at = omega (arith, c.if-bytes-end.true, c.find-end.ensures, front_length newline (drop w.at a.bytes.now), length-drop w.at a.bytes.now) in
    sym (field_none (a.lines - w.passed) a.name.now) ∙ ap (field_in (a.lines - w.passed) a.name.now) (sym (drop_of_length-le a.bytes.now l)) ∙ w.invariant

pub slice_bounds-line-count : goal.slice_bounds-line-count
slice_bounds-line-count c = omega (arith, c.find-end.ensures)

pub slice_bounds-line-start : goal.slice_bounds-line-start
slice_bounds-line-start c = omega (arith, c.find-end.ensures)

pub behind-requires : goal.behind-requires
behind-requires c = sym c.starts.ensures ∙ c.if-starts.true

pub returns-then-starts : goal.returns-then-starts
returns-then-starts c =
    let w = c.loop-passed in
    let a = c.args in
    let starts_is = c.starts.ensures ∙ ap (λ (l : List ℕ). starts_of l a.name.now) (front_part newline a.bytes.now w.at c.find-end.result c.find-end.ensures) in
    c.behind.ensures
    ∙ ap (number_behind a.name.now) (front_part newline a.bytes.now w.at c.find-end.result c.find-end.ensures)
    ∙ sym (field_here (a.lines - w.passed) a.name.now (drop w.at a.bytes.now) (omega (arith, c.loop-passed-test.true)) (sym starts_is ∙ c.if-starts.true))
    ∙ w.invariant

pub returns-then-bytes-end-2 : goal.returns-then-bytes-end-2
returns-then-bytes-end-2 c =
    let w = c.loop-passed in
    let a = c.args in
    let starts_is = c.starts.ensures ∙ ap (λ (l : List ℕ). starts_of l a.name.now) (front_part newline a.bytes.now w.at c.find-end.result c.find-end.ensures) in
    let on_is = on (a.lines - w.passed) w.at (c.find-end.result + 1) a.name.now a.bytes.now (omega (arith, c.loop-passed-test.true)) (omega (arith, c.find-end.ensures)) (sym starts_is ∙ c.if-starts.false) ∙ w.invariant in
    sym (field_none (a.lines - w.passed - 1) a.name.now)
    ∙ ap (field_in ((a.lines - w.passed) - 1) a.name.now) (sym (drop_of_length-le a.bytes.now {i = c.find-end.result + 1} (omega (arith, c.if-bytes-end-2.true))))
    ∙ on_is

pub loop-passed-preserved : goal.loop-passed-preserved
loop-passed-preserved c =
    let w = c.loop-passed in
    let a = c.args in
    let starts_is = c.starts.ensures ∙ ap (λ (l : List ℕ). starts_of l a.name.now) (front_part newline a.bytes.now w.at c.find-end.result c.find-end.ensures) in
    let less : a.lines - (w.passed + 1) ≡ a.lines - w.passed - 1 = omega arith in
    ap (λ (k : ℕ). field_in k a.name.now (drop (c.find-end.result + 1) a.bytes.now)) less
    ∙ on (a.lines - w.passed) w.at (c.find-end.result + 1) a.name.now a.bytes.now (omega (arith, c.loop-passed-test.true)) (omega (arith, c.find-end.ensures)) (sym starts_is ∙ c.if-starts.false) ∙ w.invariant

pub returns : goal.returns
unfolding field_in
returns c =
    let w = c.loop-passed in
    let a = c.args in
    let z : 0 ≡ (a.lines - w.passed) = omega (arith, c.loop-passed-test.false) in
    ap (λ (n : ℕ). field_in n a.name.now (drop w.at a.bytes.now)) z ∙ w.invariant
