-- `Tank::annotate` meets its contract: each test by its number, and the mark laid where the table has it, or has been given it.
use mathlib.Core.Path.{sym, ◌∙◌}
use Rattle.std.proofs.lemmas.Result.{err_from_is_err_and}
use Rattle.tank.proofs.AnnotateLaws.{refused_3, refused_4, refused_as, refused_7, refused_8, can_lay, known_done, can_admit, can_lay_new, new_done}
use Rattle.tank.proofs.Tank.annotate.Goals as goal

pub returns-then-end-start : goal.returns-then-end-start
returns-then-end-start c = refused_3 c.requires c.args.start c.args.end c.args.mark c.if-end-start.true

pub returns-then-self-end : goal.returns-then-self-end
returns-then-self-end c = refused_4 c.requires c.args.start c.args.end c.args.mark c.if-end-start.false c.if-self-end.true

pub returns-in_err-judge_mark : goal.returns-in_err-judge_mark
returns-in_err-judge_mark c =
    let p = err_from_is_err_and c.from_residual.result c.from_residual.ensures.1 in
    rw (p.1, p.2) (refused_as c.requires c.args.start c.args.end c.args.mark c.if-end-start.false c.if-self-end.false _ c.in_err-judge_mark.ensures)

pub room_for-room-requires : goal.room_for-room-requires
room_for-room-requires c = (c.requires.formed.laid.few, c.requires.formed.laid.sorted)

pub lay-requires : goal.lay-requires
lay-requires c =
    can_lay c.requires c.args.start c.args.end c.args.mark c.if-end-start.false c.if-self-end.false
    (sym c.in_ok-judge_mark.ensures) _ (sym c.room_for-room.ensures ∙ c.in-Known.is)

pub admit-requires : goal.admit-requires
admit-requires c =
    can_admit c.requires c.args.start c.args.end c.args.mark c.if-end-start.false c.if-self-end.false
    (sym c.in_ok-judge_mark.ensures) _ (sym c.room_for-room.ensures ∙ c.in-New.is)

pub lay-requires-in-New : goal.lay-requires-in-New
lay-requires-in-New c =
    can_lay_new c.requires c.args.start c.args.end c.args.mark c.if-end-start.false c.if-self-end.false
    (sym c.in_ok-judge_mark.ensures) _ (sym c.room_for-room.ensures ∙ c.in-New.is)
    c.admit.ensures

pub returns-in-Clash : goal.returns-in-Clash
returns-in-Clash c =
    refused_7 c.requires c.args.start c.args.end c.args.mark c.if-end-start.false c.if-self-end.false
    (sym c.in_ok-judge_mark.ensures) (sym c.room_for-room.ensures ∙ c.in-Clash.is)

pub returns-in-Full : goal.returns-in-Full
returns-in-Full c =
    refused_8 c.requires c.args.start c.args.end c.args.mark c.if-end-start.false c.if-self-end.false
    (sym c.in_ok-judge_mark.ensures) (sym c.room_for-room.ensures ∙ c.in-Full.is)

pub returns-in-Known : goal.returns-in-Known
returns-in-Known c =
    known_done c.requires c.args.start c.args.end c.args.mark c.if-end-start.false c.if-self-end.false
    (sym c.in_ok-judge_mark.ensures) _ (sym c.room_for-room.ensures ∙ c.in-Known.is)
    c.lay.ensures

pub returns-in-New : goal.returns-in-New
returns-in-New c =
    new_done c.requires c.args.start c.args.end c.args.mark c.if-end-start.false c.if-self-end.false
    (sym c.in_ok-judge_mark.ensures) _ (sym c.room_for-room.ensures ∙ c.in-New.is)
    c.admit.ensures c.lay-in-New.ensures
