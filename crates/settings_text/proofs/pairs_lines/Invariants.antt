-- Pair after pair: t of them are read, and the rest is to come.
use Rattle.settings_text.proofs.Laws.{Underway}
use Rattle.settings_text.proofs.pairs_lines.Given as goal

abbrev pub invariant-loop-t : goal.invariant-loop-t
invariant-loop-t l = Underway l.ordered l.bytes l.from l.n l.settings l.at l.t
