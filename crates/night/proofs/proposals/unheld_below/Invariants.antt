-- `proposals::unheld_below` meets its contract. The invariant: k ranges are gathered, and the rest is sought from `at` on.
use Rattle.night.proofs.UnheldLaws.{Gathered}
use Rattle.night.proofs.proposals.unheld_below.Given as goal

abbrev pub invariant-loop-k : goal.invariant-loop-k
invariant-loop-k l = Gathered l.t l.hold l.below l.ranges l.k l.at
