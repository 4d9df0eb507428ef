-- By what the line brings.
use Rattle.script.specs.Bodies.{end_taken}
use Rattle.script.proofs.bodies.after_line.Goals as goal

pub returns-in-Nothing : goal.returns-in-Nothing
unfolding end_taken
returns-in-Nothing c = rw c.in-Nothing.is c.in_lines_with.ensures

pub returns-in-Bad : goal.returns-in-Bad
unfolding end_taken
returns-in-Bad c = rw c.in-Bad.is c.in_lines_with-in-Bad.ensures

pub returns-in-Call : goal.returns-in-Call
returns-in-Call c = rw c.in-Call.is c.called.ensures
