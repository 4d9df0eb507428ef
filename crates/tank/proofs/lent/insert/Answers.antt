-- `lent::insert` meets its contract: each test by its number; an untouched tank stays; else the positions get what their neighbours have in common.
use mathlib.Core.Path.{refl, sym, ap, ◌∙◌}
use borrow.Author.Tests.{not-true, not-false}
use Rattle.styles.specs.Answers.{styles_of}
use Rattle.runs.proofs.BehindLaws.{spare_behind}
use Rattle.tank.proofs.GrowLaws.{grow_can, grow_done}
use Rattle.tank.proofs.InsertLaws.{insert_16, insert_3, insert_4, insert_untouched, insert_5, set_inside, can_grow, insert_done}
use Rattle.tank.proofs.Shape.{can_find}
use Rattle.tank.proofs.LentLaws.{kept_leaves, made_leaves, insert_kept}
use Rattle.tank.proofs.lent.insert.Goals as goal

pub returns-then-is_lab : goal.returns-then-is_lab
returns-then-is_lab c =
    let q = insert_kept 16 (λ r. insert_16 c.requires.sound c.args.who c.args.pos c.args.len {r = r} (sym c.is_lab.ensures ∙ c.if-is_lab.true)) in
    kept_leaves {h = c.args.h} refl q.0 q.1 refl

pub returns-then-len-eq0 : goal.returns-then-len-eq0
returns-then-len-eq0 c =
    let q = insert_kept 3 (λ r. insert_3 c.requires.sound c.args.who (sym c.is_lab.ensures ∙ c.if-is_lab.false) c.args.pos c.args.len {r = r} c.if-len-eq0.true) in
    kept_leaves {h = c.args.h} refl q.0 q.1 refl

pub returns-then-h-pos : goal.returns-then-h-pos
returns-then-h-pos c =
    let q = insert_kept 4 (λ r. insert_4 c.requires.sound c.args.who (sym c.is_lab.ensures ∙ c.if-is_lab.false) c.args.pos c.args.len c.if-len-eq0.false {r = r} c.if-h-pos.true) in
    kept_leaves {h = c.args.h} refl q.0 q.1 refl

pub returns-then-not-h : goal.returns-then-not-h
returns-then-not-h c =
    let q = insert_kept 0 (λ r. insert_untouched c.requires.sound c.args.who (sym c.is_lab.ensures ∙ c.if-is_lab.false) c.args.pos c.args.len c.if-len-eq0.false c.if-h-pos.false (not-true _ c.if-not-h.true) {r = r}) in
    kept_leaves {h = c.args.h} c.kept.ensures q.0 q.1 refl

pub returns-then-h-len : goal.returns-then-h-len
returns-then-h-len c =
    let q = insert_kept 5 (λ r. insert_5 c.requires.sound c.args.who (sym c.is_lab.ensures ∙ c.if-is_lab.false) c.args.pos c.args.len c.if-len-eq0.false c.if-h-pos.false (not-false _ c.if-not-h.false) {r = r} c.if-h-len.true) in
    kept_leaves {h = c.args.h} refl q.0 q.1 refl

pub common_at-set-requires : goal.common_at-set-requires
common_at-set-requires c = can_find c.requires.sound.formed.laid

pub shown_bits-shown-requires : goal.shown_bits-shown-requires
shown_bits-shown-requires c = (c.requires.sound.formed.laid.few, set_inside c.requires.sound c.args.who (sym c.is_lab.ensures ∙ c.if-is_lab.false) c.args.pos c.args.len c.if-len-eq0.false c.if-h-pos.false (not-false _ c.if-not-h.false) c.if-h-len.false _ c.common_at-set.ensures)

pub insert-n-requires : goal.insert-n-requires
insert-n-requires c = (c.requires.sound.formed.laid.canon, grow_can c.args.pos c.args.len _ (can_grow c.requires.sound c.args.who (sym c.is_lab.ensures ∙ c.if-is_lab.false) c.args.pos c.args.len c.if-len-eq0.false c.if-h-pos.false (not-false _ c.if-not-h.false) c.if-h-len.false _ c.common_at-set.ensures) _ _ c.requires.olens_514 c.requires.osets_514)

pub returns : goal.returns
returns c =
    let l = c.insert-n in
    let a = c.shown_bits-shown.ensures in
    let q =
    insert_done c.requires.sound c.args.who (sym c.is_lab.ensures ∙ c.if-is_lab.false) c.args.pos c.args.len c.if-len-eq0.false c.if-h-pos.false (not-false _ c.if-not-h.false) c.if-h-len.false _ c.common_at-set.ensures
    (ap styles_of a.1) (grow_done c.args.pos c.args.len _ (can_grow c.requires.sound c.args.who (sym c.is_lab.ensures ∙ c.if-is_lab.false) c.args.pos c.args.len c.if-len-eq0.false c.if-h-pos.false (not-false _ c.if-not-h.false) c.if-h-len.false _ c.common_at-set.ensures) _ _ _ l.ensures.joined (spare_behind c.requires.blank l.ensures.same_behind) (l.auto.olens ∙ c.requires.olens_514) (l.auto.osets ∙ c.requires.osets_514)) in
    made_leaves refl refl q.0 tt a.0 q.1 refl
