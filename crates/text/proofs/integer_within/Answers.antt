-- `integer_within` meets its contract: a minus in front hands what is behind it to `minus`, and any other text goes to `plus` whole.
use mathlib.Core.Path.{ap, ◌∙◌}
use Rattle.text.proofs.Prefix.{rest_part}
use Rattle.text.proofs.Integers.{empty}
use borrow.Author.Tests.{eq-eqb, ne_eqb}
use Rattle.text.specs.Number.{decimal_of}
use Rattle.text.specs.Signed.{signed_within, plus_of, minus_of}
use Rattle.text.proofs.integer_within.Goals as goal

pub returns-then-s-lt1 : goal.returns-then-s-lt1
returns-then-s-lt1 c = empty _ _ c.if-s-lt1.true

pub returns-then-s-eq45 : goal.returns-then-s-eq45
unfolding signed_within
returns-then-s-eq45 c = simp (eq-eqb _ _ c.if-s-eq45.true) (c.minus.ensures ∙ ap (minus_of _) (c.decimal.ensures ∙ ap decimal_of (rest_part 1 c.args.s.now)))

pub returns : goal.returns
unfolding signed_within
returns c = simp (ne_eqb _ _ c.if-s-eq45.false) (c.plus.ensures ∙ ap (plus_of _) c.decimal-2.ensures)
