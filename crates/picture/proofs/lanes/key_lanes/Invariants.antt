-- A key to a turn; what is left to say stays the same.
use Prim.Native.Nat.{ℕ, ◌-◌, ◌≤◌}
use mathlib.Core.Path.{◌≡◌}
use lib.ListN.{get_or}
use Rattle.answers.proofs.Laws.{Left}
use Rattle.tank.specs.State.{view}
use Rattle.picture.specs.Elements.{each_from}
use Rattle.picture.specs.Lanes.{lanes_below, lane_says}
use Rattle.picture.proofs.lanes.key_lanes.Given as goal

abbrev pub invariant-loop-j : goal.invariant-loop-j
invariant-loop-j l = (l.r ≡ lanes_below (view l.t) l.key-items l.j) × (l.r ≤ l.j) × Left l.initial.out l.initial.k (each_from (λ (j : ℕ). lane_says (view l.t) l.rows l.list (get_or l.key-items j 0) j (lanes_below (view l.t) l.key-items j)) 0 12) l.k l.out (each_from (λ (j : ℕ). lane_says (view l.t) l.rows l.list (get_or l.key-items j 0) j (lanes_below (view l.t) l.key-items j)) l.j (12 - l.j))
