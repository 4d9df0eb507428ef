-- `style_for_insert` meets its contract: no such tank, 4, or the mark of the rank among those that an insertion would get.
use mathlib.Core.Path.{refl, ap, ◌∙◌}
use native.Mathlib.Omega.{arith}
use Prim.Native.Nat.{ℕ}
use Rattle.tank.specs.Rules.{View, for_insert}
use Rattle.styles.specs.Answers.{rank_of}
use Rattle.questions.specs.declared.Asked.{Asked}
use Rattle.questions.specs.Questions.{asked_of, style_for_insert}
use Rattle.ask.proofs.Standing.{none_there, over_insert, within_insert}
use Rattle.ask.proofs.parts.style_for_insert.Goals as goal

pub returns-then-tank-ge8 : goal.returns-then-tank-ge8
returns-then-tank-ge8 c =
    let a = c.args in
    none_there a.heads a.pool a.table a.tank a.who (Asked.Refused 1) (style_for_insert a.pos a.rank) c.if-tank-ge8.true refl

pub returns-then-length_in-pos : goal.returns-then-length_in-pos
returns-then-length_in-pos c =
    let a = c.args in
    over_insert a.heads a.pool a.table a.tank a.who (λ (c : ℕ) (v : View). asked_of c (rank_of (for_insert a.pos v) a.rank)) (Asked.Refused 1) a.pos c.if-tank-ge8.false c.length_in.ensures c.if-length_in-pos.true refl

pub ranked_for_insert-requires : goal.ranked_for_insert-requires
ranked_for_insert-requires c = (c.requires c.if-tank-ge8.false, omega (arith, c.length_in.ensures, c.if-length_in-pos.false))

pub returns : goal.returns
returns c =
    let a = c.args in
    within_insert a.heads a.pool a.table a.tank a.who (λ (c : ℕ) (v : View). asked_of c (rank_of (for_insert a.pos v) a.rank)) (Asked.Refused 1) a.pos c.if-tank-ge8.false c.length_in.ensures c.if-length_in-pos.false
    (c.found.ensures ∙ ap (asked_of 0) c.ranked_for_insert.ensures)
