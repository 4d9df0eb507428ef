-- `shared_in` meets its contract: by whether all agree.
use mathlib.Core.Bool.{Bool, true}
use mathlib.Core.Path.{sym, ap, ◌∙◌}
use Rattle.questions.specs.Questions.{shared_of}
use Rattle.tanks.specs.Looks.{shown_in}
use Rattle.ask.proofs.parts.shared_in.Goals as goal

pub styles_at-styles-requires : goal.styles_at-styles-requires
styles_at-styles-requires c = c.requires.0

pub returns-then-agree : goal.returns-then-agree
returns-then-agree c =
    let a = c.args in
    (λ j. record { number = 0; agree = true; styles = c.styles_at-styles.ensures j })
    ∙ ap (λ (b : Bool). shared_of 0 b ((shown_in a.heads a.pool a.table a.t a.who).at a.start)) (sym c.if-agree.true ∙ c.agree.ensures)

pub returns : goal.returns
returns c =
    let a = c.args in
    c.not_shared.ensures
    ∙ ap (λ (b : Bool). shared_of 0 b ((shown_in a.heads a.pool a.table a.t a.who).at a.start)) (sym c.if-agree.false ∙ c.agree.ensures)
