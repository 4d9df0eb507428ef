-- The answers do not fit, the text does not, or both are written.
use native.Mathlib.Omega.{arith}
use mathlib.Core.Path.{refl, sym, ◌∙◌}
use lib.ListN.{length, take}
use lib.Seq.{length-take-le}
use Rattle.tanks.specs.Pool.{meaning}
use Rattle.door.specs.Door.{right}
use Rattle.door.proofs.Laws.{wrong_runs, held_long, held_fit, too_long, fits, done_runs}
use Rattle.door.proofs.hand_over.Goals as goal

pub returns-then-room_for-at : goal.returns-then-room_for-at
returns-then-room_for-at c =
    let a = c.args in
    wrong_runs 11 0 a.next.now a.next.now a.answers.now c.wrong.ensures
    (held_long (meaning a.s) (length a.next.now) (length a.answers.now) a.at a.held.now c.requires.1 c.room_for.ensures c.if-room_for-at.true)
    refl

pub write-l-requires : goal.write-l-requires
write-l-requires c = c.requires.0

pub returns-then-l-gt0 : goal.returns-then-l-gt0
returns-then-l-gt0 c =
    let a = c.args in
    let w = c.write-l.ensures in
    let long = too_long (meaning a.s) a.next.now w.value w.out_after (right (meaning a.s) (take a.at a.held.now)) c.if-l-gt0.true in
    wrong_runs 11 0 a.next.now _ a.answers.now c.wrong-then-l-gt0.ensures
    (held_fit (meaning a.s) (length a.next.now) (length a.answers.now) a.at a.held.now c.requires.1 c.room_for.ensures c.if-room_for-at.false ∙ long.0)
    long.1

pub slice_bounds-put-end : goal.slice_bounds-put-end
slice_bounds-put-end c = sym (length-take-le _ _ c.requires.1)

pub put-n-requires : goal.put-n-requires
put-n-requires c = omega (arith, length-take-le c.args.at c.args.held.now c.requires.1, c.if-room_for-at.false, c.room_for.ensures)

pub returns : goal.returns
returns c =
    let a = c.args in
    let w = c.write-l.ensures in
    let t = take a.at a.held.now in
    let good = fits (meaning a.s) a.next.now w.value w.out_after (right (meaning a.s) t) c.if-l-gt0.false in
    let p = c.put-n.ensures in
    done_runs (meaning a.s) t a.next.now _ a.answers.now _ c.right.ensures good.2 p.0
    (held_fit (meaning a.s) (length a.next.now) (length a.answers.now) a.at a.held.now c.requires.1 c.room_for.ensures c.if-room_for-at.false ∙ good.0)
    good.1
    p.1
