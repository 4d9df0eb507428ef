-- `styles_at` meets its contract: no such tank, 4, or the marks that are shown.
use Prim.Native.Nat.{ℕ}
use Rattle.tank.specs.Rules.{View}
use mathlib.Core.List.{[]}
use Rattle.questions.specs.Questions.{set_of, styles_at}
use Rattle.ask.proofs.Standing.{none_there, over_at, within_at}
use Rattle.ask.proofs.parts.styles_at.Goals as goal

pub returns-then-tank-ge8 : goal.returns-then-tank-ge8
returns-then-tank-ge8 c =
    let a = c.args in
    none_there a.heads a.pool a.table a.tank a.who (set_of 1 []) (styles_at a.pos) c.if-tank-ge8.true c.no_set.ensures

pub returns-then-length_in-pos : goal.returns-then-length_in-pos
returns-then-length_in-pos c =
    let a = c.args in
    over_at a.heads a.pool a.table a.tank a.who (λ (c : ℕ) (v : View). set_of c (v.at a.pos)) (set_of 1 []) a.pos c.if-tank-ge8.false c.length_in.ensures c.if-length_in-pos.true c.no_set-then-length_in-pos.ensures

pub styles_at-styles-requires : goal.styles_at-styles-requires
styles_at-styles-requires c = c.requires c.if-tank-ge8.false

pub returns : goal.returns
returns c =
    let a = c.args in
    within_at a.heads a.pool a.table a.tank a.who (λ (c : ℕ) (v : View). set_of c (v.at a.pos)) (set_of 1 []) a.pos c.if-tank-ge8.false c.length_in.ensures c.if-length_in-pos.false
    (λ j. record { number = 0; styles = c.styles_at-styles.ensures j })
