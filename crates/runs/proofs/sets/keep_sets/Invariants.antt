-- `sets::keep_sets` meets its contract. The invariant: the first k sets are renumbered.
use mathlib.Core.Path.{◌≡◌}
use lib.Bits.{bit_and}
use Rattle.runs.specs.Gather.{Renumbered}
use Rattle.runs.proofs.sets.keep_sets.Given as goal

abbrev pub invariant-loop-k : goal.invariant-loop-k
invariant-loop-k l = Renumbered (λ s r. r ≡ bit_and s l.mask) l.k l.initial.sets l.sets
