-- `value_at` meets its contract: 4, or what the winner of the position's marks shows.
use Rattle.styles.specs.Marks.{winner}
use Rattle.questions.proofs.QuestionLaws.{at_4, at_done}
use Rattle.questions.specs.Questions.{shown_of}
use mathlib.Core.Path.{ap, ◌∙◌}
use Rattle.questions.proofs.value_at.Goals as goal

pub returns-then-t-pos : goal.returns-then-t-pos
returns-then-t-pos c = at_4 c.requires (λ n ms. shown_of n (winner c.args.key ms)) c.args.pos c.if-t-pos.true

pub returns : goal.returns
returns c =
    c.show.ensures ∙ ap (shown_of 0) c.winner_of.ensures
    ∙ at_done c.requires (λ n ms. shown_of n (winner c.args.key ms)) c.args.pos c.if-t-pos.false c.set_at.ensures.0
