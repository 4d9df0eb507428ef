-- By whether anything is left.
use borrow.Author.Tests.{eq-eqb, ne_eqb}
use Rattle.script.specs.Bodies.{part_taken}
use Rattle.script.proofs.bodies.after_part.Goals as goal

pub returns-then-left-eq0 : goal.returns-then-left-eq0
unfolding part_taken
returns-then-left-eq0 c = rw (eq-eqb _ _ c.if-left-eq0.true) c.in_lines_with.ensures

pub returns : goal.returns
unfolding part_taken
returns c = rw (ne_eqb _ _ c.if-left-eq0.false) c.in_body.ensures
