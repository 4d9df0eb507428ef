-- `runs::copy` meets its contract. The invariant: the output's runs are the copy of the source's first k runs, and a copy is the joined list (`copied_joined`).
-- The runs before `from` and those from `to` on add nothing (`copy_early`, `copy_late`).
use Prim.Native.Nat.{ℕ, ◌≤◌}
use mathlib.Core.Path.{◌≡◌}
use mathlib.Core.List.{List}
use lib.ListN.{length}
use Rattle.runs.specs.Runs.{runs, total, changing, SameBehind}
use Rattle.runs.proofs.Copies.{copy_runs}
use Rattle.runs.proofs.copy.Given as goal

pub record Copied (olens₀ osets₀ : List ℕ) (n : ℕ) (lens sets : List ℕ) (m from to bits gone : ℕ) (olens osets : List ℕ) (k start at : ℕ) : Type 0 where
  pub within : k ≤ m
  pub begun : start ≡ total (runs lens sets k)
  pub done : runs olens osets at ≡ copy_runs (changing bits gone) (runs olens₀ osets₀ n) from to (runs lens sets k)
  pub kept : length olens ≡ length olens₀
  pub kept' : length osets ≡ length osets₀
  pub behind : SameBehind at olens₀ osets₀ olens osets

abbrev pub invariant-loop-k : goal.invariant-loop-k
invariant-loop-k l = Copied l.initial.olens l.initial.osets l.n l.lens l.sets l.m l.from l.to l.bits l.gone l.olens l.osets l.k l.start l.at
