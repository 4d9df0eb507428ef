-- `scan::some_in` meets its contract. The invariant: no position before run k passes.
use Prim.Native.Nat.{ℕ, ◌≤◌, ◌<◌}
use mathlib.Core.Path.{◌≡◌}
use mathlib.Core.Bool.{Bool, false}
use mathlib.Core.List.{List}
use Rattle.runs.specs.Runs.{runs, total, set_at}
use Rattle.runs.specs.Scan.{passes}
use Rattle.runs.proofs.scan.some_in.Given as goal

pub record Scanned (test : ℕ → Bool) (lens sets : List ℕ) (n from to k start : ℕ) : Type 0 where
  pub begun : start ≡ total (runs lens sets k)
  pub clear : (p : ℕ) → from ≤ p → p < to → p < start → test (set_at (runs lens sets n) p) ≡ false

abbrev pub invariant-loop-k : goal.invariant-loop-k
invariant-loop-k l = Scanned (passes l.test) l.lens l.sets l.n l.from l.to l.k l.start
