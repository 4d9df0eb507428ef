-- `sets::open_sets` meets its contract. The invariant: the first k sets are renumbered.
use mathlib.Core.Path.{◌≡◌}
use Rattle.styles.specs.Bits.{open_bit}
use Rattle.runs.specs.Gather.{Renumbered}
use Rattle.runs.proofs.sets.open_sets.Given as goal

abbrev pub invariant-loop-k : goal.invariant-loop-k
invariant-loop-k l = Renumbered (λ s r. r ≡ open_bit l.i s) l.k l.initial.sets l.sets
