-- `runs::first_runs` meets its contract. The invariant: the first i runs end at `end`, and the last of them begins below `before`.
use Prim.Native.Nat.{ℕ, suc, ◌<◌}
use mathlib.Core.Path.{◌≡◌}
use Rattle.runs.specs.Runs.{sums}
use Rattle.runs.proofs.first_runs.Given as goal

abbrev pub invariant-loop-i : goal.invariant-loop-i
invariant-loop-i l = (l.end ≡ sums l.lens l.i) × ((j : ℕ) → l.i ≡ suc j → sums l.lens j < l.before)
