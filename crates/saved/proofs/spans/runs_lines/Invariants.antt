-- Run after run: j of them are read, and the rest is to come.
use Rattle.saved.proofs.RunsRead.{Underway}
use Rattle.saved.proofs.spans.runs_lines.Given as goal

abbrev pub invariant-loop-j : goal.invariant-loop-j
invariant-loop-j l = Underway l.most l.bytes l.from l.n l.count l.lens l.sets l.at l.before l.sum l.all l.j
