-- `sets::union_of` meets its contract. The invariant: `all` is the union of the first k sets.
use Prim.Native.Nat.{ℕ}
use mathlib.Core.Path.{◌≡◌}
use mathlib.Core.List.{List}
use Rattle.runs.specs.Runs.{runs}
use Rattle.runs.specs.Gather.{gather}
use Rattle.runs.proofs.sets.union_of.Given as goal

abbrev pub invariant-loop-k : goal.invariant-loop-k
invariant-loop-k l = ((lens : List ℕ) → l.all ≡ gather (runs lens l.sets l.k))
