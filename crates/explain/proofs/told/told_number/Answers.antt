-- The number stands between the name and the newline.
use mathlib.Core.Path.{ap, ◌∙◌}
use native.Mathlib.Omega.{arith}
use Rattle.text.specs.Number.{decimal_of}
use Rattle.text.proofs.Finding.{front_part, front_inside}
use Rattle.explain.proofs.Telling.{no_number, some_number}
use Rattle.explain.proofs.told.told_number.Goals as goal

pub returns-then-answer-from : goal.returns-then-answer-from
returns-then-answer-from c = no_number c.args.answer.now c.if-answer-from.true

pub slice_bounds-decimal-end : goal.slice_bounds-decimal-end
slice_bounds-decimal-end c = front_inside 10 c.args.answer.now 8 _ c.find-to.ensures (omega arith)

pub returns : goal.returns
returns c = c.decimal.ensures ∙ ap decimal_of (front_part 10 c.args.answer.now 8 _ c.find-to.ensures) ∙ some_number c.args.answer.now c.if-answer-from.false
