-- Mark after mark: j of them are read, and the rest is to come.
use Rattle.saved.proofs.MarksRead.{MarksUnderway}
use Rattle.saved.proofs.marks.marks_lines.Given as goal

abbrev pub invariant-loop-j : goal.invariant-loop-j
invariant-loop-j l = MarksUnderway l.version l.bytes l.from l.n l.count l.table l.at l.lines l.before l.j
