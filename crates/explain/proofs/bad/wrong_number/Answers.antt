-- By the tests in their order.
use mathlib.Core.Path.{sym, ◌∙◌}
use Rattle.explain.proofs.Choices.{no_text, zero_first, no_zero, no_digits}
use Rattle.explain.proofs.bad.wrong_number.Goals as goal

pub returns-then-t-eq0 : goal.returns-then-t-eq0
returns-then-t-eq0 c = no_text c.args.t.now c.if-t-eq0.true

pub returns-then-t-eq48 : goal.returns-then-t-eq48
returns-then-t-eq48 c = zero_first c.args.t.now c.if-t-eq0.false (sym c.figures.ensures ∙ c.if-figures.true) c.if-t-eq48.true

pub returns-then-figures : goal.returns-then-figures
returns-then-figures c = no_zero c.args.t.now c.if-t-eq0.false (sym c.figures.ensures ∙ c.if-figures.true) c.if-t-eq48.false

pub returns : goal.returns
returns c = no_digits c.args.t.now c.if-t-eq0.false (sym c.figures.ensures ∙ c.if-figures.false)
