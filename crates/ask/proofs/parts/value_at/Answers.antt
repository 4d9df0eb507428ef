-- `value_at` meets its contract: no such tank, 4, or what the winner shows.
use mathlib.Core.Path.{refl, ap, ◌∙◌}
use Prim.Native.Nat.{ℕ}
use Rattle.tank.specs.Rules.{View}
use Rattle.styles.specs.Marks.{winner}
use Rattle.questions.specs.declared.Shown.{Shown}
use Rattle.questions.specs.Questions.{shown_of, value_at}
use Rattle.ask.proofs.Standing.{none_there, over_at, within_at}
use Rattle.ask.proofs.parts.value_at.Goals as goal

pub returns-then-tank-ge8 : goal.returns-then-tank-ge8
returns-then-tank-ge8 c =
    let a = c.args in
    none_there a.heads a.pool a.table a.tank a.who (Shown.Refused 1) (value_at a.pos a.key) c.if-tank-ge8.true refl

pub returns-then-length_in-pos : goal.returns-then-length_in-pos
returns-then-length_in-pos c =
    let a = c.args in
    over_at a.heads a.pool a.table a.tank a.who (λ (c : ℕ) (v : View). shown_of c (winner a.key (v.at a.pos))) (Shown.Refused 1) a.pos c.if-tank-ge8.false c.length_in.ensures c.if-length_in-pos.true refl

pub winner_at-requires : goal.winner_at-requires
winner_at-requires c = c.requires c.if-tank-ge8.false

pub returns : goal.returns
returns c =
    let a = c.args in
    within_at a.heads a.pool a.table a.tank a.who (λ (c : ℕ) (v : View). shown_of c (winner a.key (v.at a.pos))) (Shown.Refused 1) a.pos c.if-tank-ge8.false c.length_in.ensures c.if-length_in-pos.false
    (c.show.ensures ∙ ap (shown_of 0) c.winner_at.ensures)
