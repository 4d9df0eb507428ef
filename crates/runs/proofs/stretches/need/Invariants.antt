-- `stretches::need` meets its contract. The invariant: `count` is the length of the list of the first k runs.
use Prim.Native.Nat.{ℕ}
use mathlib.Core.Path.{◌≡◌}
use mathlib.Core.List.{List}
use lib.ListN.{length}
use Rattle.runs.specs.Runs.{runs, total}
use Rattle.runs.proofs.Clipped.{clipped_list}
use Rattle.runs.proofs.stretches.need.Given as goal

pub record Needed (lens sets : List ℕ) (n from to least k start count : ℕ) : Type 0 where
  pub begun : start ≡ total (runs lens sets k)
  pub place : count ≡ length (clipped_list least from to lens sets k)

abbrev pub invariant-loop-k : goal.invariant-loop-k
invariant-loop-k l = Needed l.lens l.sets l.n l.from l.to l.least l.k l.start l.count
