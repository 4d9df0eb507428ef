-- One name after the other.
use mathlib.Core.Path.{sym, ◌∙◌}
use Rattle.saved.proofs.words.party_told.Goals as goal

pub returns-then-same : goal.returns-then-same
returns-then-same c = rw (sym c.same.ensures ∙ c.if-same.true) c.party_at.ensures

pub returns-then-same-2 : goal.returns-then-same-2
returns-then-same-2 c = rw (sym c.same.ensures ∙ c.if-same.false) (rw (sym c.same-2.ensures ∙ c.if-same-2.true) c.party_at-then-same-2.ensures)

pub returns : goal.returns
returns c = rw (sym c.same.ensures ∙ c.if-same.false) (rw (sym c.same-2.ensures ∙ c.if-same-2.false))
