-- `lent::annotate` meets its contract: each test by its number, and the mark laid where the table has it, or will have it.
use mathlib.Core.Path.{refl, sym, ◌∙◌}
use native.Mathlib.Omega.{arith}
use Rattle.std.proofs.lemmas.Result.{err_from_is_err_and}
use Rattle.styles.specs.Bits.{with_bit}
use Rattle.runs.proofs.BehindLaws.{spare_behind}
use Rattle.runs.proofs.Copies.{adding}
use Rattle.tank.proofs.AdmitLaws.{can_open, admit_done}
use Rattle.tank.proofs.AlterLaws.{alter_can}
use Rattle.tank.proofs.LayLaws.{lay_done}
use Rattle.tank.proofs.AnnotateLaws.{refused_3, refused_4, refused_as, refused_7, refused_8, can_lay, known_done, can_admit, can_lay_new, new_done}
use Rattle.tank.proofs.LentLaws.{kept_leaves, plain_leaves}
use Rattle.tank.proofs.lent.annotate.Goals as goal

pub returns-then-end-start : goal.returns-then-end-start
returns-then-end-start c = kept_leaves {h = c.args.h} refl (refused_3 c.requires.sound c.args.start c.args.end c.args.mark c.if-end-start.true) refl refl

pub returns-then-h-end : goal.returns-then-h-end
returns-then-h-end c = kept_leaves {h = c.args.h} refl (refused_4 c.requires.sound c.args.start c.args.end c.args.mark c.if-end-start.false c.if-h-end.true) refl refl

pub returns-in_err-judge_mark : goal.returns-in_err-judge_mark
returns-in_err-judge_mark c =
    let p = err_from_is_err_and c.from_residual.result c.from_residual.ensures.1 in
    rw (p.1, p.2)
    (kept_leaves {h = c.args.h} refl (refused_as c.requires.sound c.args.start c.args.end c.args.mark c.if-end-start.false c.if-h-end.false _ c.in_err-judge_mark.ensures) refl refl)

pub room_for-room-requires : goal.room_for-room-requires
room_for-room-requires c = let f = c.requires.sound.formed.laid in (f.few, f.sorted)

-- ---- a mark that the table has
pub lay-requires : goal.lay-requires
lay-requires c =
    let k = can_lay c.requires.sound c.args.start c.args.end c.args.mark c.if-end-start.false c.if-h-end.false (sym c.in_ok-judge_mark.ensures) _ (sym c.room_for-room.ensures ∙ c.in-Known.is) in
    let a = k.there in
    let b = c.requires.sound.formed.laid.few in
    (omega arith, (k.range.laid.canon, alter_can k.range (adding (with_bit c.in-Known.i 0)) _ _ c.requires.olens_514 c.requires.osets_514))

-- ---- a mark that is new to it
pub open_sets-requires : goal.open_sets-requires
open_sets-requires c = can_open _ c.args.mark (can_admit c.requires.sound c.args.start c.args.end c.args.mark c.if-end-start.false c.if-h-end.false (sym c.in_ok-judge_mark.ensures) _ (sym c.room_for-room.ensures ∙ c.in-New.is))

pub lay-requires-in-New : goal.lay-requires-in-New
lay-requires-in-New c =
    let q = can_admit c.requires.sound c.args.start c.args.end c.args.mark c.if-end-start.false c.if-h-end.false (sym c.in_ok-judge_mark.ensures) _ (sym c.room_for-room.ensures ∙ c.in-New.is) in
    let a = admit_done _ c.args.mark q _ _ c.open_sets.ensures refl in
    let k = can_lay_new c.requires.sound c.args.start c.args.end c.args.mark c.if-end-start.false c.if-h-end.false (sym c.in_ok-judge_mark.ensures) _ (sym c.room_for-room.ensures ∙ c.in-New.is) a in
    let i = k.there in
    let b = q.few in
    (omega arith, (k.range.laid.canon, alter_can k.range (adding (with_bit c.in-New.i 0)) _ _ c.requires.olens_514 c.requires.osets_514))

pub overflow_add-result : goal.overflow_add-result
overflow_add-result c = let b = c.requires.sound.formed.laid.few in omega arith

pub returns-in-Clash : goal.returns-in-Clash
returns-in-Clash c =
    kept_leaves {h = c.args.h} refl
    (refused_7 c.requires.sound c.args.start c.args.end c.args.mark c.if-end-start.false c.if-h-end.false (sym c.in_ok-judge_mark.ensures) (sym c.room_for-room.ensures ∙ c.in-Clash.is)) refl refl

pub returns-in-Full : goal.returns-in-Full
returns-in-Full c =
    kept_leaves {h = c.args.h} refl
    (refused_8 c.requires.sound c.args.start c.args.end c.args.mark c.if-end-start.false c.if-h-end.false (sym c.in_ok-judge_mark.ensures) (sym c.room_for-room.ensures ∙ c.in-Full.is)) refl refl

pub returns-in-Known : goal.returns-in-Known
returns-in-Known c =
    let k = can_lay c.requires.sound c.args.start c.args.end c.args.mark c.if-end-start.false c.if-h-end.false (sym c.in_ok-judge_mark.ensures) _ (sym c.room_for-room.ensures ∙ c.in-Known.is) in
    let l = c.lay in
    plain_leaves refl refl
    (known_done c.requires.sound c.args.start c.args.end c.args.mark c.if-end-start.false c.if-h-end.false (sym c.in_ok-judge_mark.ensures) _ (sym c.room_for-room.ensures ∙ c.in-Known.is)
    (lay_done c.args.start c.args.end _ k _ _ _ l.ensures.joined (spare_behind c.requires.blank l.ensures.same_behind) (l.auto.olens ∙ c.requires.olens_514) (l.auto.osets ∙ c.requires.osets_514)))
    tt refl refl

pub returns-in-New : goal.returns-in-New
returns-in-New c =
    let q = can_admit c.requires.sound c.args.start c.args.end c.args.mark c.if-end-start.false c.if-h-end.false (sym c.in_ok-judge_mark.ensures) _ (sym c.room_for-room.ensures ∙ c.in-New.is) in
    let a = admit_done _ c.args.mark q _ _ c.open_sets.ensures refl in
    let k = can_lay_new c.requires.sound c.args.start c.args.end c.args.mark c.if-end-start.false c.if-h-end.false (sym c.in_ok-judge_mark.ensures) _ (sym c.room_for-room.ensures ∙ c.in-New.is) a in
    let l = c.lay-in-New in
    plain_leaves refl refl
    (new_done c.requires.sound c.args.start c.args.end c.args.mark c.if-end-start.false c.if-h-end.false (sym c.in_ok-judge_mark.ensures) _ (sym c.room_for-room.ensures ∙ c.in-New.is) a
    (lay_done c.args.start c.args.end _ k _ _ _ l.ensures.joined (spare_behind c.requires.blank l.ensures.same_behind) (l.auto.olens ∙ c.requires.olens_514) (l.auto.osets ∙ c.requires.osets_514)))
    tt refl refl
