-- `style_for_insert` meets its contract: 4, or the rank among the marks that an insertion would get.
use Rattle.styles.specs.Answers.{rank_of}
use Rattle.questions.proofs.QuestionLaws.{insert_4, insert_done}
use Rattle.questions.specs.Questions.{asked_of}
use mathlib.Core.Path.{ap, ◌∙◌}
use Rattle.questions.proofs.style_for_insert.Goals as goal

pub returns-then-t-pos : goal.returns-then-t-pos
returns-then-t-pos c = insert_4 c.requires (λ n ms. asked_of n (rank_of ms c.args.rank)) c.args.pos c.if-t-pos.true

pub returns : goal.returns
returns c =
    c.found.ensures ∙ ap (asked_of 0) c.ranked.ensures
    ∙ insert_done c.requires (λ n ms. asked_of n (rank_of ms c.args.rank)) c.args.pos _ c.if-t-pos.false c.set_for_insert.ensures.0
