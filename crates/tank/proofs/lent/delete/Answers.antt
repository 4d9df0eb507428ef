-- `lent::delete` meets its contract: each test by its number; an untouched tank stays; else the positions go, and with them marks that nothing carries.
use mathlib.Core.Path.{refl, sym, ◌∙◌}
use native.Mathlib.Omega.{arith}
use borrow.Author.Tests.{not-true, not-false}
use Rattle.runs.proofs.BehindLaws.{spare_behind}
use Rattle.tank.proofs.CutLaws.{cut_can, cut_done}
use Rattle.tank.proofs.DeleteLaws.{refused_16, refused_3, refused_4, untouched, can_cut, delete_done}
use Rattle.tank.proofs.LentLaws.{kept_leaves, plain_leaves}
use Rattle.tank.proofs.lent.delete.Goals as goal

pub returns-then-is_lab : goal.returns-then-is_lab
returns-then-is_lab c = kept_leaves {h = c.args.h} refl (refused_16 c.requires.sound c.args.who c.args.start c.args.end (sym c.is_lab.ensures ∙ c.if-is_lab.true)) refl refl

pub returns-then-end-start : goal.returns-then-end-start
returns-then-end-start c = kept_leaves {h = c.args.h} refl (refused_3 c.requires.sound c.args.who (sym c.is_lab.ensures ∙ c.if-is_lab.false) c.args.start c.args.end c.if-end-start.true) refl refl

pub returns-then-h-end : goal.returns-then-h-end
returns-then-h-end c = kept_leaves {h = c.args.h} refl (refused_4 c.requires.sound c.args.who (sym c.is_lab.ensures ∙ c.if-is_lab.false) c.args.start c.args.end c.if-end-start.false c.if-h-end.true) refl refl

pub returns-then-not-h : goal.returns-then-not-h
returns-then-not-h c = kept_leaves {h = c.args.h} c.kept.ensures (untouched c.requires.sound c.args.who (sym c.is_lab.ensures ∙ c.if-is_lab.false) c.args.start c.args.end c.if-end-start.false c.if-h-end.false (not-true _ c.if-not-h.true)) refl refl

pub delete-n-requires : goal.delete-n-requires
delete-n-requires c = (c.requires.sound.formed.laid.canon, cut_can c.args.start c.args.end (can_cut c.requires.sound c.args.who (sym c.is_lab.ensures ∙ c.if-is_lab.false) c.args.start c.args.end c.if-end-start.false c.if-h-end.false (not-false _ c.if-not-h.false)) _ _ c.requires.olens_514 c.requires.osets_514)

pub trim-requires : goal.trim-requires
trim-requires c =
    let l = c.delete-n in
    let d = cut_done c.args.start c.args.end (can_cut c.requires.sound c.args.who (sym c.is_lab.ensures ∙ c.if-is_lab.false) c.args.start c.args.end c.if-end-start.false c.if-h-end.false (not-false _ c.if-not-h.false)) _ _ _ l.ensures.joined (spare_behind c.requires.blank l.ensures.same_behind) (l.auto.olens ∙ c.requires.olens_514) (l.auto.osets ∙ c.requires.osets_514) in
    let a = d.0.most in
    let b = d.0.sets_514 in
    omega arith

pub returns : goal.returns
returns c =
    let l = c.delete-n in
    let d = cut_done c.args.start c.args.end (can_cut c.requires.sound c.args.who (sym c.is_lab.ensures ∙ c.if-is_lab.false) c.args.start c.args.end c.if-end-start.false c.if-h-end.false (not-false _ c.if-not-h.false)) _ _ _ l.ensures.joined (spare_behind c.requires.blank l.ensures.same_behind) (l.auto.olens ∙ c.requires.olens_514) (l.auto.osets ∙ c.requires.osets_514) in
    let q = c.trim.ensures _ _ d.0 refl in
    plain_leaves q.number_is q.changed_is
    (delete_done c.requires.sound c.args.who (sym c.is_lab.ensures ∙ c.if-is_lab.false) c.args.start c.args.end c.if-end-start.false c.if-h-end.false (not-false _ c.if-not-h.false) d q.trimmed)
    q.table_fits q.shown_is q.first_is
