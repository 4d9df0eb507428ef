-- `stretches::list` meets its contract. The invariant: the list of the first k runs stands in front, and the rest of the buffer is as it was.
use Prim.Native.Nat.{ℕ}
use mathlib.Core.Path.{◌≡◌}
use mathlib.Core.List.{List}
use lib.ListN.{length}
use Rattle.runs.specs.Runs.{runs, total}
use Rattle.runs.specs.Stretches.{in_front}
use Rattle.runs.proofs.Clipped.{clipped_list}
use Rattle.runs.proofs.stretches.list.Given as goal

pub record Listed (lens sets : List ℕ) (n from to least : ℕ) (out₀ out : List ℕ) (k start at : ℕ) : Type 0 where
  pub begun : start ≡ total (runs lens sets k)
  pub place : at ≡ length (clipped_list least from to lens sets k)
  pub done : out ≡ in_front (clipped_list least from to lens sets k) out₀

abbrev pub invariant-loop-k : goal.invariant-loop-k
invariant-loop-k l = Listed l.lens l.sets l.n l.from l.to l.least l.initial.out l.out l.k l.start l.at
