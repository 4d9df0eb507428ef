-- `style_at` meets its contract: no such tank, 4, or the mark of the rank.
use mathlib.Core.Path.{refl, ap, ◌∙◌}
use Prim.Native.Nat.{ℕ}
use Rattle.tank.specs.Rules.{View}
use Rattle.styles.specs.Answers.{rank_of}
use Rattle.questions.specs.declared.Asked.{Asked}
use Rattle.questions.specs.Questions.{asked_of, style_at}
use Rattle.ask.proofs.Standing.{none_there, over_at, within_at}
use Rattle.ask.proofs.parts.style_at.Goals as goal

pub returns-then-tank-ge8 : goal.returns-then-tank-ge8
returns-then-tank-ge8 c =
    let a = c.args in
    none_there a.heads a.pool a.table a.tank a.who (Asked.Refused 1) (style_at a.pos a.rank) c.if-tank-ge8.true refl

pub returns-then-length_in-pos : goal.returns-then-length_in-pos
returns-then-length_in-pos c =
    let a = c.args in
    over_at a.heads a.pool a.table a.tank a.who (λ (c : ℕ) (v : View). asked_of c (rank_of (v.at a.pos) a.rank)) (Asked.Refused 1) a.pos c.if-tank-ge8.false c.length_in.ensures c.if-length_in-pos.true refl

pub ranked_at-requires : goal.ranked_at-requires
ranked_at-requires c = c.requires c.if-tank-ge8.false

pub returns : goal.returns
returns c =
    let a = c.args in
    within_at a.heads a.pool a.table a.tank a.who (λ (c : ℕ) (v : View). asked_of c (rank_of (v.at a.pos) a.rank)) (Asked.Refused 1) a.pos c.if-tank-ge8.false c.length_in.ensures c.if-length_in-pos.false
    (c.found.ensures ∙ ap (asked_of 0) c.ranked_at.ensures)
