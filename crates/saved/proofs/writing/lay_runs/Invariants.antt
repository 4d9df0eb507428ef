-- A run to a turn.
use Prim.Native.Nat.{◌*◌}
use mathlib.Core.Path.{◌≡◌}
use lib.ListN.{length}
use Rattle.runs.specs.Runs.{runs}
use Rattle.saved.specs.Saved.{runs_text}
use Rattle.saved.specs.Writes.{Lays}
use Rattle.saved.proofs.writing.lay_runs.Given as goal

abbrev pub invariant-loop-j : goal.invariant-loop-j
invariant-loop-j l = (length l.out ≡ length l.initial.out) × Lays l.initial.out l.at (runs_text (runs l.lens l.sets l.j)) (46 * l.j) l.k l.out
