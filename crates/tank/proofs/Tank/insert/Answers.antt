-- `Tank::insert` meets its contract: each test by its number; an untouched tank stays; else the positions get what their neighbours have in common.
use mathlib.Core.Path.{sym, ◌∙◌}
use Rattle.tank.proofs.InsertLaws.{insert_16, insert_3, insert_4, insert_untouched, insert_5, set_inside, can_grow, insert_done}
use Rattle.tank.proofs.LentLaws.{insert_kept}
use Rattle.tank.proofs.Shape.{can_find}
use Rattle.tank.proofs.Tank.insert.Goals as goal

pub returns-then-is_lab : goal.returns-then-is_lab
returns-then-is_lab c =
    let made =
    insert_kept 16 (λ r. insert_16 c.requires c.args.who c.args.pos c.args.len (sym c.is_lab.ensures ∙ c.if-is_lab.true)) in
    record { called = made.0; styles_value = made.1 }

pub returns-then-len-eq0 : goal.returns-then-len-eq0
returns-then-len-eq0 c =
    let plant = sym c.is_lab.ensures ∙ c.if-is_lab.false in
    let made =
    insert_kept 3 (λ r. insert_3 c.requires c.args.who plant c.args.pos c.args.len c.if-len-eq0.true) in
    record { called = made.0; styles_value = made.1 }

pub returns-then-self-pos : goal.returns-then-self-pos
returns-then-self-pos c =
    let plant = sym c.is_lab.ensures ∙ c.if-is_lab.false in
    let made =
    insert_kept 4 (λ r. insert_4 c.requires c.args.who plant c.args.pos c.args.len c.if-len-eq0.false c.if-self-pos.true) in
    record { called = made.0; styles_value = made.1 }

pub returns-then-not-self : goal.returns-then-not-self
returns-then-not-self c =
    let plant = sym c.is_lab.ensures ∙ c.if-is_lab.false in
    let made =
    insert_kept 0 (λ r. insert_untouched c.requires c.args.who plant c.args.pos c.args.len c.if-len-eq0.false c.if-self-pos.false (c.if-not-self.true)) in
    record { called = made.0; styles_value = c.no_marks.ensures ∙ made.1 }

pub returns-then-self-len : goal.returns-then-self-len
returns-then-self-len c =
    let plant = sym c.is_lab.ensures ∙ c.if-is_lab.false in
    let made =
    insert_kept 5 (λ r. insert_5 c.requires c.args.who plant c.args.pos c.args.len c.if-len-eq0.false c.if-self-pos.false (c.if-not-self.false) c.if-self-len.true) in
    record { called = made.0; styles_value = made.1 }

pub common_at-set-requires : goal.common_at-set-requires
common_at-set-requires c = can_find c.requires.formed.laid

pub shown_of-styles-requires : goal.shown_of-styles-requires
shown_of-styles-requires c =
    let plant = sym c.is_lab.ensures ∙ c.if-is_lab.false in
    (c.requires.formed.laid.few, set_inside c.requires c.args.who plant c.args.pos c.args.len c.if-len-eq0.false c.if-self-pos.false (c.if-not-self.false) c.if-self-len.false _ c.common_at-set.ensures)

pub grow-requires : goal.grow-requires
grow-requires c =
    let plant = sym c.is_lab.ensures ∙ c.if-is_lab.false in
    can_grow c.requires c.args.who plant c.args.pos c.args.len c.if-len-eq0.false c.if-self-pos.false (c.if-not-self.false) c.if-self-len.false _ c.common_at-set.ensures

pub returns : goal.returns
returns c =
    let plant = sym c.is_lab.ensures ∙ c.if-is_lab.false in
    let made =
    insert_done c.requires c.args.who plant c.args.pos c.args.len c.if-len-eq0.false c.if-self-pos.false (c.if-not-self.false) c.if-self-len.false _ c.common_at-set.ensures c.shown_of-styles.ensures c.grow.ensures in
    record { called = made.0; styles_value = made.1 }
