use Rattle.std.specs.Prelude.{Some}
use mathlib.Core.Path.{refl, sym, ap, ◌∙◌}
use Prim.Native.Nat.{ℕ}
use native.Mathlib.Omega.{arith}
use lib.ListN.{drop}
use Rattle.refusal.proofs.NumberLaws.{positive}
use Rattle.tanks.specs.declared.Tanks.{Tanks}
use Rattle.day_log.specs.Log.{going, call_of, after_bytes}
use Rattle.day_log.proofs.Back.{edit_called, edit_refused}
use Rattle.day_log.proofs.Tidy.{fed_tidy}
use Rattle.day_log.proofs.Turns.{standing, step_whole, underway_none, turn_on, turn_wrong, turn_edit, turn_refused, ready_on, ready_call, takes_was, takes_stopped, takes_on}
use Rattle.day_log.proofs.take.Goals as goal

pub returns-in_default : goal.returns-in_default
returns-in_default c = takes_was c.args.s c.args.log c.args.bytes.now c.as_it_was.result c.requires.0 c.requires.1 (ap going c.in_default.is) c.as_it_was.ensures

pub loop-from-init : goal.loop-from-init
loop-from-init c = underway_none c.args.bytes.now c.args.s c.args.log.reader c.args.log.edits c.requires.0 c.requires.1.op c.requires.1.tidy

pub returns-in_default-line_step : goal.returns-in_default-line_step
returns-in_default-line_step c =
    let l = c.loop-from in
    takes_stopped c.args.s c.args.log c.args.bytes.now c.stopped.result c.in-Going.is l.tanks l.edits c.wrong_line.result 13 l.invariant.sound c.stopped.ensures
    (turn_wrong l.tanks l.edits c.loop-from-test.true c.feed-f.ensures l.invariant.op c.wrong_line.result (sym c.line_step.ensures ∙ c.in_default-line_step.is) c.wrong_line.ensures ∙ l.invariant.left)

pub apply-requires : goal.apply-requires
apply-requires c = c.loop-from.invariant.sound

pub returns-in-Err : goal.returns-in-Err
returns-in-Err c =
    let l = c.loop-from in
    let next : Tanks = c.apply.new.self in
    let called = edit_refused l.tanks next (call_of c.feed-f.result.call) c.edit_in.result c.in-Err.refusal c.number.result c.number.ensures c.edit_in.ensures c.in-Err.ensures in
    let whole = step_whole _ _ (sym c.line_step.ensures ∙ c.in-Some.is ∙ ap Some c.if-whole.true) in
    let some = positive c.in-Err.refusal in
    takes_stopped c.args.s c.args.log c.args.bytes.now c.stopped-in-Err.result c.in-Going.is next l.edits c.feed-f.result.reader.newlines c.number.result called.sound c.stopped-in-Err.ensures
    (turn_refused l.tanks l.edits c.loop-from-test.true c.feed-f.ensures l.invariant.op whole called (omega (arith, c.number.ensures, some)) ∙ l.invariant.left)

pub loop-from-smaller-in-Ok : goal.loop-from-smaller-in-Ok
loop-from-smaller-in-Ok c = omega (arith, c.feed-f.ensures.at)

pub loop-from-preserved-in-Ok : goal.loop-from-preserved-in-Ok
loop-from-preserved-in-Ok c =
    let l = c.loop-from in
    let f = c.feed-f.result in
    let next : Tanks = c.apply.new.self in
    let called = edit_called l.tanks next (call_of f.call) c.edit_in.result _ c.edit_in.ensures c.in-Ok.ensures in
    let whole = step_whole _ _ (sym c.line_step.ensures ∙ c.in-Some.is ∙ ap Some c.if-whole.true) in
    record {
      inside = omega (arith, c.feed-f.ensures.at);
      sound = called.sound;
      op = ready_call l.tanks l.edits c.loop-from-test.true c.feed-f.ensures l.invariant.op whole.0;
      tidy = fed_tidy c.feed-f.ensures l.invariant.tidy;
      left = ap (λ (k : ℕ). after_bytes (standing next f.reader k) (drop f.at c.args.bytes.now)) c.one_more-edits.ensures
          ∙ turn_edit l.tanks l.edits c.loop-from-test.true c.feed-f.ensures l.invariant.op whole called refl
          ∙ l.invariant.left;
    }

pub loop-from-smaller : goal.loop-from-smaller
loop-from-smaller c = omega (arith, c.feed-f.ensures.at)

pub loop-from-preserved : goal.loop-from-preserved
loop-from-preserved c =
    let l = c.loop-from in
    let good = sym c.line_step.ensures ∙ c.in-Some.is ∙ ap Some c.if-whole.false in
    record {
      inside = omega (arith, c.feed-f.ensures.at);
      sound = l.invariant.sound;
      op = ready_on l.tanks l.edits c.loop-from-test.true c.feed-f.ensures l.invariant.op good;
      tidy = fed_tidy c.feed-f.ensures l.invariant.tidy;
      left = turn_on l.tanks l.edits c.loop-from-test.true c.feed-f.ensures l.invariant.op good ∙ l.invariant.left;
    }

pub returns : goal.returns
returns c = takes_on c.args.s c.args.log c.args.bytes.now c.read_on.result c.in-Going.is c.loop-from.tanks c.loop-from.reader c.loop-from.edits c.loop-from.from c.loop-from.invariant c.loop-from-test.false c.read_on.ensures
