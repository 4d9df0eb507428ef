use Prim.Native.Nat.{ℕ, ◌+◌, ◌<◌, ◌^◌}
use mathlib.Core.Path.{◌≡◌, refl, ap, ◌∙◌}
use mathlib.Core.List.{List}
use native.Mathlib.Omega.{arith}
use Rattle.std.specs.Prelude.{Err}
use Rattle.std.proofs.lemmas.Result.{err_from_is_err_and}
use Rattle.refusal.specs.declared.Refusal.TheVariants.{NoSuchTank}
use native.Mathlib.Numerals.{add-one}
use borrow.Author.Tests.{not-true, not-false}
use lib.ListN.{get_or, set, length-set}
use lib.Pow.{pow_pos}
use Rattle.tank.proofs.Shape.{all_spare}
use Rattle.tanks.specs.declared.Run.{Run}
use Rattle.tanks.specs.Pool.{no_head, runs_in, lens_in}
use Rattle.tanks.specs.Promises.{edit_of, place_of, parted}
use Rattle.tanks.proofs.LaidLaws.{laid, laid_more}
use Rattle.tanks.proofs.Put.{run_of, run_from}
use Rattle.tanks.proofs.WriteLaws.{pool_step, past_own, past_all, past_kept, beyond}
use Rattle.tanks.proofs.PartsLaws.{place_past, outlined, on_state, performed_made, Unchanged, parts_past}
use Rattle.tanks.proofs.WithinLaws.{walk_start, walk_step, walk_up, Placed, tank_small, tank_few, set_small, len_of}
use Rattle.tanks.proofs.EditLaws.{held, judged, own_room, whole, onward, next_end, run_found, run_passed, run_changed, taken_out, own, own_refused, refused_by, edit_same, places, edit_done}
use Rattle.tanks.proofs.edit_parts.Invariants.{made_of}
use Rattle.tanks.proofs.edit_parts.Goals as goal
use Rattle.tanks.proofs.edit_parts.Goals.{In-loop-to, In-Some-choose, then-j-s, else-j-s}

-- no bits are bits of any marks
none_fits : (x k : ℕ) → x ≡ 0 → x < 2 ^ k
none_fits x k e = omega (arith, e, pow_pos k)

pub returns-then-tank-ge8 : goal.returns-then-tank-ge8
returns-then-tank-ge8 c =
    let a = c.args in
    let head = ap (λ (u : ℕ). get_or a.heads u no_head) (place_past a.tank c.if-tank-ge8.true) in
    record {
      fits = pow_pos (get_or a.heads (place_of a.tank) no_head).marks;
      done = λ s ok q. parts_past s a.tank (edit_of a.call) ok _ c.if-tank-ge8.true
          (on_state q (λ st hs pool table. Unchanged 1 pool table (get_or hs 0 no_head) (parted a.heads a.pool a.table a.tank (Err NoSuchTank))) (refl, refl, head, refl, refl, refl));
    }

pub start-at-requires : goal.start-at-requires
start-at-requires c = (omega (arith, c.if-tank-ge8.false), held c.args.tank c.requires)

-- ---- the walk to the run that the edit may change alone
-- it is not at its end
on_way : (c : In-loop-to) → c.loop-to.k < runs_in c.args.heads c.args.tank
on_way c = onward c.args.tank c.requires c.if-tank-ge8.false c.in-Some.ensures c.loop-to.invariant.0 c.loop-to-test.true

pub resize_of-requires : goal.resize_of-requires
resize_of-requires c =
    omega (arith, tank_small c.args.heads c.args.pool c.args.table c.args.tank (whole c.args.tank c.requires c.if-tank-ge8.false))

pub loop-to-init : goal.loop-to-init
loop-to-init c = (
  walk_start (lens_in c.args.heads c.args.pool c.args.tank) (runs_in c.args.heads c.args.tank),
  own_room c.args.tank c.requires c.if-tank-ge8.false c.start-at.ensures,
)

pub overflow_add-to : goal.overflow_add-to
overflow_add-to c = omega (arith, onward c.args.tank c.requires c.if-tank-ge8.false c.in-Some.ensures c.loop-to.invariant.0 c.loop-to-test.true, c.loop-to.invariant.1)

pub offset_bounds-pool-at : goal.offset_bounds-pool-at
offset_bounds-pool-at c = omega (arith, onward c.args.tank c.requires c.if-tank-ge8.false c.in-Some.ensures c.loop-to.invariant.0 c.loop-to-test.true, c.loop-to.invariant.1)

pub bounds-pool-at : goal.bounds-pool-at
bounds-pool-at c = omega (arith, onward c.args.tank c.requires c.if-tank-ge8.false c.in-Some.ensures c.loop-to.invariant.0 c.loop-to-test.true, c.loop-to.invariant.1)

pub overflow_add-to-in-loop-to : goal.overflow_add-to-in-loop-to
overflow_add-to-in-loop-to c =
    omega (arith, next_end c.args.tank c.requires c.if-tank-ge8.false c.in-Some.ensures c.loop-to.invariant.0 c.loop-to-test.true c.start-at.ensures)

pub overflow_add-k : goal.overflow_add-k
overflow_add-k c = omega (arith, on_way (goal.at.overflow_add-k c).In-loop-to, c.loop-to.invariant.1)

pub loop-to-smaller : goal.loop-to-smaller
loop-to-smaller c = omega (arith, on_way (goal.at.loop-to-smaller c).In-loop-to)

pub loop-to-preserved : goal.loop-to-preserved
loop-to-preserved c =
    let l = c.loop-to in
    let on = on_way (goal.at.loop-to-preserved c).In-loop-to in
    (walk_step l.invariant.0 _ on (len_of c.args.heads c.args.pool c.args.table c.args.tank (whole c.args.tank c.requires c.if-tank-ge8.false) c.start-at.ensures on), l.invariant.1)

pub overflow_add-at : goal.overflow_add-at
overflow_add-at c = omega (arith, c.loop-to.invariant.0.most, c.loop-to.invariant.1)

pub choose-requires : goal.choose-requires
choose-requires c = walk_up c.loop-to.invariant.0

pub overflow_sub-here : goal.overflow_sub-here
overflow_sub-here c =
    omega (arith, run_passed c.args.tank c.requires c.if-tank-ge8.false c.in-Some.ensures c.loop-to.invariant.0 c.loop-to-test.false)

-- ---- one run alone
one_run : (c : In-Some-choose) → Placed (edit_of c.args.call) c.args.heads c.args.pool c.args.table c.args.tank c.start-at.result c.in-Some.q c.loop-to.k c.in-Some-choose.pick
one_run c =
    run_found c.args.tank c.requires c.if-tank-ge8.false c.in-Some.ensures c.loop-to.invariant.0 c.loop-to-test.false c.start-at.ensures c.min.ensures c.in-Some-choose.ensures

pub overflow_add-run : goal.overflow_add-run
overflow_add-run c = omega (arith, one_run (goal.at.overflow_add-run c).In-Some-choose)

pub overflow_sub-run : goal.overflow_sub-run
overflow_sub-run c = omega (arith, one_run (goal.at.overflow_sub-run c).In-Some-choose)

pub offset_bounds-pool-run : goal.offset_bounds-pool-run
offset_bounds-pool-run c = omega (arith, one_run (goal.at.offset_bounds-pool-run c).In-Some-choose)

pub bounds-pool-run : goal.bounds-pool-run
bounds-pool-run c = omega (arith, one_run (goal.at.bounds-pool-run c).In-Some-choose)

pub shown_by-shown-requires : goal.shown_by-shown-requires
shown_by-shown-requires c =
    let f = one_run (goal.at.shown_by-shown-requires c).In-Some-choose in
    let s = whole c.args.tank c.requires c.if-tank-ge8.false in
    (tank_few c.args.heads c.args.pool c.args.table c.args.tank s, set_small c.args.heads c.args.pool c.args.table c.args.tank s f.at_is f.there)

pub overflow_sub-pool : goal.overflow_sub-pool
overflow_sub-pool c = omega (arith, one_run (goal.at.overflow_sub-pool c).In-Some-choose)

pub overflow_add-pool : goal.overflow_add-pool
overflow_add-pool c = omega (arith, one_run (goal.at.overflow_add-pool c).In-Some-choose)

pub bounds-pool-run-in-Some-choose : goal.bounds-pool-run-in-Some-choose
bounds-pool-run-in-Some-choose c = omega (arith, one_run (goal.at.bounds-pool-run-in-Some-choose c).In-Some-choose)

pub overflow_sub-result : goal.overflow_sub-result
overflow_sub-result c = omega (arith, one_run (goal.at.overflow_sub-result c).In-Some-choose)

pub overflow_add-result : goal.overflow_add-result
overflow_add-result c = omega (arith, one_run (goal.at.overflow_add-result c).In-Some-choose)

pub returns-in-Some-choose : goal.returns-in-Some-choose
returns-in-Some-choose c =
    let f = one_run (goal.at.returns-in-Some-choose c).In-Some-choose in
    run_changed c.args.tank c.requires c.if-tank-ge8.false (edit_of c.args.call) f c.in-Some.ensures _ refl refl refl refl c.shown_by-shown.ensures.0 c.shown_by-shown.ensures.1 refl

-- ---- the runs taken out
pub loop-i-init : goal.loop-i-init
loop-i-init c = (own_room c.args.tank c.requires c.if-tank-ge8.false c.start-at.ensures, refl, refl, refl, refl)

pub loop-i-preserved : goal.loop-i-preserved
loop-i-preserved c =
    let l = c.loop-i in
    (l.invariant.0, rw (l.invariant.1, add-one l.i), rw (l.invariant.2, add-one l.i), length-set l.lens l.i _ ∙ l.invariant.3, length-set l.sets l.i _ ∙ l.invariant.4)

-- ---- edited and judged
pub perform-requires : goal.perform-requires
perform-requires c =
    let out = taken_out c.args.tank c.requires c.if-tank-ge8.false c.start-at.ensures c.loop-i.auto.i-end c.loop-i-test.false c.loop-i.invariant.1 c.loop-i.invariant.2 in
    record { sound = (own c.args.tank c.requires c.if-tank-ge8.false c.loop-i.lens c.loop-i.sets out).sound; olens_514 = refl; osets_514 = refl; blank = all_spare 514 }

pub returns-in_err-done : goal.returns-in_err-done
returns-in_err-done c =
    let out = taken_out c.args.tank c.requires c.if-tank-ge8.false c.start-at.ensures c.loop-i.auto.i-end c.loop-i-test.false c.loop-i.invariant.1 c.loop-i.invariant.2 in
    let p = err_from_is_err_and c.from_residual.result c.from_residual.ensures.1 in
    rw (p.1, p.2) (own_refused c.args.tank c.requires c.if-tank-ge8.false c.loop-i.lens c.loop-i.sets out (edit_of c.args.call) (outlined (get_or c.args.heads c.args.tank no_head)) _ c.in_err-done.ensures)

pub judge_edit-requires : goal.judge_edit-requires
judge_edit-requires c = record { t_bound = c.if-tank-ge8.false; judged = judged c.args.tank c.requires }

pub returns-in_err-judge_edit : goal.returns-in_err-judge_edit
returns-in_err-judge_edit c =
    let out = taken_out c.args.tank c.requires c.if-tank-ge8.false c.start-at.ensures c.loop-i.auto.i-end c.loop-i-test.false c.loop-i.invariant.1 c.loop-i.invariant.2 in
    let p = err_from_is_err_and c.from_residual-in_err-judge_edit.result c.from_residual-in_err-judge_edit.ensures.1 in
    rw (p.1, p.2) (refused_by c.args.tank c.requires c.if-tank-ge8.false c.loop-i.lens c.loop-i.sets out (edit_of c.args.call) c.in_ok-done.ensures c.in_err-judge_edit.ensures _ refl)

pub returns-then-not-done : goal.returns-then-not-done
returns-then-not-done c =
    let out = taken_out c.args.tank c.requires c.if-tank-ge8.false c.start-at.ensures c.loop-i.auto.i-end c.loop-i-test.false c.loop-i.invariant.1 c.loop-i.invariant.2 in
    edit_same c.args.tank c.requires c.if-tank-ge8.false c.loop-i.lens c.loop-i.sets out (edit_of c.args.call) c.in_ok-done.ensures c.in_ok-judge_edit.ensures _ refl (not-true _ c.if-not-done.true) refl refl refl refl refl refl

-- ---- and put back
pub spots-s-requires : goal.spots-s-requires
spots-s-requires c =
    (c.if-tank-ge8.false, (performed_made c.in_ok-done.ensures (not-false _ c.if-not-done.false)).called.formed.laid.most, held c.args.tank c.requires)

pub loop-k-init : goal.loop-k-init
unfolding laid
loop-k-init c =
    let out = taken_out c.args.tank c.requires c.if-tank-ge8.false c.start-at.ensures c.loop-i.auto.i-end c.loop-i-test.false c.loop-i.invariant.1 c.loop-i.invariant.2 in (
      places c.args.tank c.requires c.if-tank-ge8.false c.loop-i.lens c.loop-i.sets out (edit_of c.args.call) c.in_ok-done.ensures c.in_ok-judge_edit.ensures refl (not-false _ c.if-not-done.false) c.spots-s.ensures,
      beyond c.args.heads c.args.tank c.in_ok-done.done.runs c.spots-s.result c.spots-s.ensures,
      refl,
    )

-- a run of a tank behind it, or a blank
pub loop-k-preserved : goal.loop-k-preserved
loop-k-preserved c =
    let l = c.loop-k in
    let q = c.spots-s.result in
    let p = c.perform in
    let done = c.in_ok-done.done in
    let x = made_of (get_or c.args.heads c.args.tank no_head) c.args.table.marks p.new.olens p.new.osets done in
    let pool = c.args.pool in
    let f : ℕ → Run = λ j. run_from pool x q.from q.full (x.runs + j) in
    let j = c.turn-j in
    let b : l.k < q.behind = c.loop-k-test.true in (
      l.invariant.0,
      l.invariant.1,
      elim c.if-j-s.branch [
        | then-j-s w ↦
            w.pool-is
            ∙ pool_step l.pool pool (q.at + x.runs) f q.grows q.behind l.k j.result _
            b j.ensures.0 l.invariant.2
            (past_kept l.pool pool q.at f q.grows q.from x.runs q.behind l.k j.result l.invariant.0.back b j.ensures.0 l.invariant.2
            ∙ past_own pool x q.from q.full q.left x.runs j.result refl l.invariant.1.full_is w.if-j-s.true)
        | else-j-s w ↦
            w.pool-is
            ∙ pool_step l.pool pool (q.at + x.runs) f q.grows q.behind l.k j.result _
            b j.ensures.0 l.invariant.2 (past_all pool x q.from q.full q.left x.runs j.result refl l.invariant.1.full_is w.if-j-s.false)
      ],
    )

pub loop-own-init : goal.loop-own-init
unfolding laid
loop-own-init c = (c.loop-k.invariant.0, refl)

-- a run of the tank's own
pub loop-own-preserved : goal.loop-own-preserved
loop-own-preserved c =
    let l = c.loop-own in
    let q = c.spots-s.result in
    let f : ℕ → Run = run_of c.perform.new.olens c.perform.new.osets in (
      l.invariant.0,
      ap (λ (r : List Run). set r (q.at + l.own) (f l.own)) l.invariant.1 ∙ laid_more c.loop-k.pool q.at f l.own,
    )

pub table_left-next-requires : goal.table_left-next-requires
table_left-next-requires c =
    let out = taken_out c.args.tank c.requires c.if-tank-ge8.false c.start-at.ensures c.loop-i.auto.i-end c.loop-i-test.false c.loop-i.invariant.1 c.loop-i.invariant.2 in
    ((own c.args.tank c.requires c.if-tank-ge8.false c.loop-i.lens c.loop-i.sets out).sound.formed.laid.few, c.in_ok-done.ensures.table_fits)

pub returns : goal.returns
returns c =
    let out = taken_out c.args.tank c.requires c.if-tank-ge8.false c.start-at.ensures c.loop-i.auto.i-end c.loop-i-test.false c.loop-i.invariant.1 c.loop-i.invariant.2 in
    edit_done c.args.tank c.requires c.if-tank-ge8.false c.loop-i.lens c.loop-i.sets out (edit_of c.args.call) c.in_ok-done.ensures c.in_ok-judge_edit.ensures refl (not-false _ c.if-not-done.false) c.spots-s.ensures
    c.loop-k-test.false c.loop-k.auto.k-end c.loop-own-test.false c.loop-own.auto.own-end c.loop-k.invariant.2 c.loop-own.invariant.1 _ refl c.table_left-next.ensures refl refl refl refl
