-- A text that is none, a script that is none, too many answers, or what is handed over.
use native.Mathlib.Omega.{arith}
use mathlib.Core.Path.{refl, sym, ap₂, ◌∙◌}
use mathlib.Core.List.{List}
use Prim.Native.Nat.{ℕ}
use lib.ListN.{length}
use Rattle.tanks.specs.House.{House}
use Rattle.tanks.specs.Pool.{meaning}
use Rattle.door.specs.Door.{handed, house_after, answers_of}
use Rattle.door.proofs.Laws.{wrong_runs, runs_as, text_wrong, text_read, script_wrong, script_read, answers_many}
use Rattle.door.proofs.run_in.Goals as goal

pub returns-then-t-gt0 : goal.returns-then-t-gt0
returns-then-t-gt0 c =
    let a = c.args in
    wrong_runs 13 _ a.next.now a.next.now a.answers.now c.wrong.ensures
    (text_wrong a.text.now a.calls.now (length a.next.now) (length a.answers.now) c.tanks_of-t.ensures c.if-t-gt0.true)
    refl

pub calls_on-r-requires : goal.calls_on-r-requires
calls_on-r-requires c = (c.tanks_of-t.ensures.sound, c.requires)

pub returns-then-r-gt0 : goal.returns-then-r-gt0
returns-then-r-gt0 c =
    let a = c.args in
    let t = c.tanks_of-t in
    wrong_runs 64 _ a.next.now a.next.now a.answers.now c.wrong-then-r-gt0.ensures
    (text_read a.text.now a.calls.now (length a.next.now) (length a.answers.now) t.ensures c.if-t-gt0.false
    ∙ script_wrong (meaning t.result.tanks) a.calls.now (length a.next.now) (length a.answers.now) _ c.calls_on-r.ensures.line_is c.if-r-gt0.true)
    refl

pub returns-then-r-gt262144 : goal.returns-then-r-gt262144
returns-then-r-gt262144 c =
    let a = c.args in
    let t = c.tanks_of-t in
    let h = meaning t.result.tanks in
    let x = c.calls_on-r.ensures in
    wrong_runs 11 0 a.next.now a.next.now a.answers.now c.wrong-then-r-gt262144.ensures
    (text_read a.text.now a.calls.now (length a.next.now) (length a.answers.now) t.ensures c.if-t-gt0.false
    ∙ script_read h a.calls.now (length a.next.now) (length a.answers.now) _ x.line_is c.if-r-gt0.false
    ∙ answers_many (house_after h a.calls.now) (length a.next.now) (length a.answers.now) (answers_of h a.calls.now) (x.many c.if-r-gt262144.true))
    refl

pub hand_over-requires : goal.hand_over-requires
hand_over-requires c = (c.calls_on-r.ensures.sound, omega (arith, c.if-r-gt262144.false, c.calls_on-r.auto.held, c.requires))

pub returns : goal.returns
returns c =
    let a = c.args in
    let t = c.tanks_of-t in
    let h = meaning t.result.tanks in
    let x = c.calls_on-r.ensures in
    let said = x.few c.if-r-gt262144.false in
    runs_as
    (ap₂ (λ (k : House) (l : List ℕ). handed k (length a.next.now) (length a.answers.now) l) x.is said.1
    ∙ sym (text_read a.text.now a.calls.now (length a.next.now) (length a.answers.now) t.ensures c.if-t-gt0.false
    ∙ script_read h a.calls.now (length a.next.now) (length a.answers.now) _ x.line_is c.if-r-gt0.false))
    c.hand_over.ensures
