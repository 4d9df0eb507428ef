-- Nothing is kept of a line, and an op is what comes next.
use mathlib.Core.Path.{sym, ◌∙◌}
use borrow.Author.Tests.{eq-eqb, ne_eqb}
use Rattle.script.specs.Lines.{ending_of}
use Rattle.script.proofs.CutLaws.{length_kept}
use Rattle.script.proofs.lines.ended.Goals as goal

pub returns-then-kept-eq0 : goal.returns-then-kept-eq0
unfolding ending_of
returns-then-kept-eq0 c = rw (eq-eqb _ _ (length_kept c.kept.ensures ∙ c.if-kept-eq0.true)) (rw (c.ending.ensures, c.field_holds.ensures, c.field_at.ensures))

pub returns : goal.returns
unfolding ending_of
returns c = rw (ne_eqb _ _ (λ e. c.if-kept-eq0.false (sym (length_kept c.kept.ensures) ∙ e)))
