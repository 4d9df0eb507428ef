-- In the lines, at the start.
use mathlib.Core.Path.{ap, ◌∙◌}
use Rattle.script.specs.Bodies.{resting}
use Rattle.script.proofs.bodies.begin_inlet.Goals as goal

pub returns : goal.returns
returns c = c.in_lines.ensures ∙ ap resting c.begin.ensures
