-- `style_at` meets its contract: 4, or the rank among the position's marks.
use Rattle.styles.specs.Answers.{rank_of}
use Rattle.questions.proofs.QuestionLaws.{at_4, at_done}
use Rattle.questions.specs.Questions.{asked_of}
use mathlib.Core.Path.{ap, ◌∙◌}
use Rattle.questions.proofs.style_at.Goals as goal

pub returns-then-t-pos : goal.returns-then-t-pos
returns-then-t-pos c = at_4 c.requires (λ n ms. asked_of n (rank_of ms c.args.rank)) c.args.pos c.if-t-pos.true

pub returns : goal.returns
returns c =
    c.found.ensures ∙ ap (asked_of 0) c.ranked.ensures
    ∙ at_done c.requires (λ n ms. asked_of n (rank_of ms c.args.rank)) c.args.pos c.if-t-pos.false c.set_at.ensures.0
