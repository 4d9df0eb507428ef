-- By whether there is something of a line.
use Rattle.explain.proofs.Choices.{ended, cut}
use Rattle.explain.proofs.bad.came_end.Goals as goal

pub returns-then-line-eq0 : goal.returns-then-line-eq0
returns-then-line-eq0 c = ended c.args.line.now c.if-line-eq0.true

pub returns : goal.returns
returns c = cut c.args.line.now c.if-line-eq0.false
