-- The stretches of a range as the code lists them: run by run, clipped to it. That they are those by position is `clipped_is` (PositionLaws).
use Prim.Native.Nat.{ℕ, ◌+◌, ◌≤◌, min, max}
use mathlib.Core.Bool.{cond}
use mathlib.Core.List.{List, [], ◌∷◌}
use lib.Count.{ones}
use lib.Dec.{ltb}
use lib.ListN.{length}
use Rattle.runs.specs.Positions.{Stretch, stretch, as_numbers}
use Rattle.runs.specs.Runs.{Run, runs, total}
use Rattle.runs.specs.Scan.{CanLook}

-- the runs that have a position in from .. to, clipped to it, as stretches; the last first
unfoldable pub clipped : ℕ → ℕ → List Run → List Stretch
unfolding total
clipped from to [] = []
clipped from to (r ∷ rs) =
    cond (ltb (max from (total rs)) (min to (total rs + r.len)))
    (stretch (max from (total rs)) (min to (total rs + r.len)) (ones r.set) ∷ clipped from to rs)
    (clipped from to rs)

-- the list of the first n runs
abbrev pub clipped_list : ℕ → ℕ → ℕ → List ℕ → List ℕ → ℕ → List ℕ
clipped_list least from to lens sets n = as_numbers least (clipped from to (runs lens sets n))

-- there is room for it
pub record Fits (least from to : ℕ) (lens sets : List ℕ) (n : ℕ) (out : List ℕ) : Type 0 where
  pub look : CanLook lens sets n
  pub room : length (clipped_list least from to lens sets n) ≤ length out
