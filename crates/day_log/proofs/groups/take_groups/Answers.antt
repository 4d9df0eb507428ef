use Rattle.std.specs.Prelude.{Some}
use mathlib.Core.Path.{refl, sym, ap, subst, ◌∙◌}
use Prim.Native.Nat.{ℕ}
use native.Mathlib.Omega.{arith}
use Prim.Native.Nat.{◌<◌}
use Rattle.refusal.proofs.NumberLaws.{positive}
use Rattle.tanks.specs.declared.Tanks.{Tanks}
use Rattle.tanks.specs.Pool as pool
use Rattle.script.specs.declared.Reader.{Reader}
use Rattle.script.specs.Lines.{state_of}
use Rattle.day_log.specs.Log.{logged, call_of}
use Rattle.day_log.proofs.Back.{edit_called, edit_refused}
use Rattle.day_log.proofs.Turns.{step_whole, ready_on, ready_call}
use Rattle.day_log.proofs.Grouping.{Grouping, grouping_none, group_on, group_edit, wrong_at, refused_at, refused_same, takes_all, takes_stop}
use Rattle.day_log.proofs.groups.take_groups.Goals as goal

pub loop-from-init : goal.loop-from-init
loop-from-init c = grouping_none c.args.bytes.now c.args.s c.begin-reader.result c.requires (ap (λ (r : Reader). logged r.call.op) c.begin-reader.ensures) (ap state_of c.begin-reader.ensures)

pub returns-in_default : goal.returns-in_default
returns-in_default c =
    takes_stop c.args.s c.loop-from.invariant c.loop-from-test.true c.feed-f.ensures c.wrong_line.result 13
    (wrong_at c.loop-from.invariant c.loop-from-test.true c.feed-f.ensures c.wrong_line.result (sym c.line_step.ensures ∙ c.in_default.is) c.wrong_line.ensures)
    c.took.result c.loop-from.tanks c.loop-from.invariant.sound refl c.took.ensures

pub apply-requires : goal.apply-requires
apply-requires c = c.loop-from.invariant.sound

pub returns-in-Err : goal.returns-in-Err
returns-in-Err c =
    let l = c.loop-from in
    let f = c.feed-f.result in
    let next : Tanks = c.apply.new.self in
    let called = edit_refused l.tanks next (call_of f.call) c.edit_in.result c.in-Err.refusal c.number.result c.number.ensures c.edit_in.ensures c.in-Err.ensures in
    let whole = step_whole _ _ (sym c.line_step.ensures ∙ c.in-Some.is ∙ ap Some c.if-whole.true) in
    let some = positive c.in-Err.refusal in
    let no : 0 < c.number.result = omega (arith, c.number.ensures, some) in
    takes_stop c.args.s l.invariant c.loop-from-test.true c.feed-f.ensures f.reader.newlines c.number.result
    (refused_at l.invariant c.loop-from-test.true c.feed-f.ensures whole called no)
    c.took-in-Err.result next called.sound (refused_same l.invariant c.loop-from-test.true c.feed-f.ensures whole called no) c.took-in-Err.ensures

pub loop-from-smaller-then-whole : goal.loop-from-smaller-then-whole
loop-from-smaller-then-whole c = omega (arith, c.feed-f.ensures.at)

pub loop-from-preserved-then-whole : goal.loop-from-preserved-then-whole
loop-from-preserved-then-whole c =
    let l = c.loop-from in
    let f = c.feed-f.result in
    let next : Tanks = c.apply.new.self in
    let called = edit_called l.tanks next (call_of f.call) c.edit_in.result _ c.edit_in.ensures c.in-Ok.ensures in
    let whole = step_whole _ _ (sym c.line_step.ensures ∙ c.in-Some.is ∙ ap Some c.if-whole.true) in
    subst (λ (k : ℕ). Grouping c.args.bytes.now (pool.meaning c.args.s) next f.reader k f.reader.newlines f.at f.at) (sym c.one_more-edits.ensures)
    (group_edit l.invariant c.loop-from-test.true c.feed-f.ensures whole called refl (ready_call l.tanks l.edits c.loop-from-test.true c.feed-f.ensures l.invariant.op whole.0))

pub loop-from-smaller : goal.loop-from-smaller
loop-from-smaller c = omega (arith, c.feed-f.ensures.at)

pub loop-from-preserved : goal.loop-from-preserved
loop-from-preserved c =
    let l = c.loop-from in
    let good = sym c.line_step.ensures ∙ c.in-Some.is ∙ ap Some c.if-whole.false in
    group_on l.invariant c.loop-from-test.true c.feed-f.ensures good (ready_on l.tanks l.edits c.loop-from-test.true c.feed-f.ensures l.invariant.op good)

pub returns : goal.returns
returns c = takes_all c.args.s c.loop-from.invariant c.took-2.result c.loop-from-test.false c.took-2.ensures
