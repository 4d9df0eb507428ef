-- A stretch to a turn; what is left to say stays the same.
use Prim.Native.Nat.{ℕ}
use mathlib.Core.Bool.{cond}
use mathlib.Core.List.{[]}
use lib.ListN.{length}
use Rattle.answers.proofs.Laws.{Left}
use Rattle.tank.specs.State.{view}
use Rattle.windows.specs.Windows.{shows_at}
use Rattle.picture.specs.Elements.{each_stretch}
use Rattle.picture.specs.Lanes.{bar_says}
use Rattle.picture.proofs.lanes.key_bars.Given as goal

abbrev pub invariant-loop-left : goal.invariant-loop-left
invariant-loop-left l = Left l.initial.out l.initial.k (each_stretch (λ (from to marks : ℕ). cond (shows_at (view l.t) l.lane.key from) (bar_says l.lane from to) []) l.list) l.k l.out (each_stretch (λ (from to marks : ℕ). cond (shows_at (view l.t) l.lane.key from) (bar_says l.lane from to) []) l.left)

abbrev pub decreases-loop-left : goal.decreases-loop-left
decreases-loop-left l = length l.left
