-- One of two texts, or none of them.
use mathlib.Core.Path.{sym, ◌∙◌}
use Rattle.script.specs.Reading.{value_of}
use Rattle.script.proofs.reading.flag_of.Goals as goal

pub returns-then-same : goal.returns-then-same
unfolding value_of
returns-then-same c = rw (sym c.same.ensures ∙ c.if-same.true)

pub returns-then-same-2 : goal.returns-then-same-2
unfolding value_of
returns-then-same-2 c = rw (sym c.same.ensures ∙ c.if-same.false, sym c.same-2.ensures ∙ c.if-same-2.true)

pub returns : goal.returns
unfolding value_of
returns c = rw (sym c.same.ensures ∙ c.if-same.false, sym c.same-2.ensures ∙ c.if-same-2.false)
