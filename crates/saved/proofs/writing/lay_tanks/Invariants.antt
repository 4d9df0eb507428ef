-- A tank to a turn.
use Prim.Native.Nat.{ℕ, ◌*◌, ◌<◌}
use mathlib.Core.Path.{◌≡◌}
use mathlib.Core.List.{map}
use lib.ListN.{length, take}
use Rattle.tank.specs.Rules.{carried}
use Rattle.tanks.specs.House.{tank_at}
use Rattle.tanks.specs.Pool.{meaning}
use Rattle.saved.specs.Saved.{tanks_text, saved_of}
use Rattle.saved.specs.Saying.{newest}
use Rattle.saved.specs.Writes.{Lays, FitsMarks}
use Rattle.saved.proofs.writing.lay_tanks.Given as goal

abbrev pub invariant-loop-t : goal.invariant-loop-t
invariant-loop-t l =
    (length l.out ≡ length l.initial.out)
    × Lays l.initial.out l.at (tanks_text newest 0 (map saved_of (take l.t (meaning l.s).tanks))) (36260 * l.t) l.k l.out
    × ((u : ℕ) → u < l.t → FitsMarks (carried (tank_at (meaning l.s) u)))
