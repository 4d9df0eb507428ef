-- `get_styles_for_insert` meets its contract: 4, or the marks that an insertion would get.
use Rattle.questions.proofs.QuestionLaws.{insert_4, insert_done}
use Rattle.questions.specs.Questions.{set_of}
use mathlib.Core.Path.{◌∙◌}
use Rattle.questions.proofs.get_styles_for_insert.Goals as goal

pub returns-then-t-pos : goal.returns-then-t-pos
returns-then-t-pos c = c.no_set.ensures ∙ insert_4 c.requires set_of c.args.pos c.if-t-pos.true

pub returns : goal.returns
returns c = (λ i. record { number = 0; styles = c.styles_of-styles.ensures i }) ∙ insert_done c.requires set_of c.args.pos _ c.if-t-pos.false c.set_for_insert.ensures.0
