-- `scan::back` meets its contract. The invariant: `from` is where the stretch that ends before run k starts, as far as `last` goes.
use Prim.Native.Nat.{ℕ, ◌+◌, ◌-◌, ◌≤◌, min}
use mathlib.Core.Path.{◌≡◌}
use mathlib.Core.List.{List}
use Rattle.runs.specs.Runs.{runs, total, set_at}
use Rattle.runs.specs.Positions.{stretch_to}
use Rattle.runs.specs.Scan.{meets}
use Rattle.runs.proofs.scan.back.Given as goal

pub record Walked (lens sets : List ℕ) (n mask last k start from : ℕ) : Type 0 where
  pub within : k ≤ n
  pub begun : start ≡ total (runs lens sets k)
  pub so_far : from ≡ stretch_to (λ p. meets mask (set_at (runs lens sets n) p)) (min start (last + 1))

abbrev pub invariant-loop-start : goal.invariant-loop-start
invariant-loop-start l = Walked l.lens l.sets l.n l.mask l.last l.i l.start l.from

abbrev pub decreases-loop-start : goal.decreases-loop-start
decreases-loop-start l = l.n - l.i
