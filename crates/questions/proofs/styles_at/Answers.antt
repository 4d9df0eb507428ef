-- `styles_at` meets its contract: 4, or the position's marks.
use Rattle.questions.proofs.QuestionLaws.{at_4, at_done}
use Rattle.questions.specs.Questions.{set_of}
use mathlib.Core.Path.{◌∙◌}
use Rattle.questions.proofs.styles_at.Goals as goal

pub returns-then-t-pos : goal.returns-then-t-pos
returns-then-t-pos c = c.no_set.ensures ∙ at_4 c.requires set_of c.args.pos c.if-t-pos.true

pub returns : goal.returns
returns c = (λ i. record { number = 0; styles = c.styles_of-styles.ensures i }) ∙ at_done c.requires set_of c.args.pos c.if-t-pos.false c.set_at.ensures.0
