-- By whether bytes came.
use mathlib.Core.Path.{ap, ◌∙◌}
use Rattle.script.specs.Grammar.{Field}
use Rattle.explain.specs.Told.{came_of}
use Rattle.explain.proofs.Telling.{some_came, none_came}
use Rattle.explain.proofs.told.came_at.Goals as goal

pub returns-then-some : goal.returns-then-some
returns-then-some c = c.came.ensures ∙ ap (λ (f : Field). came_of f c.args.line.now) c.field_at.ensures ∙ some_came c.args.call c.args.line.now c.if-some.true

pub returns : goal.returns
returns c = c.came_end.ensures ∙ none_came c.args.call c.args.line.now c.if-some.false
