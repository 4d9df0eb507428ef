-- `masks` meets its contract. From the last mark down: a bit for each, in the mask of each key.
use Prim.Native.Nat.{ℕ, ◌<◌}
use mathlib.Core.Path.{◌≡◌}
use mathlib.Core.List.{List}
use lib.ListN.{get_or, take, drop}
use Rattle.styles.specs.declared.Mark.{Mark}
use Rattle.styles.specs.Marks.{key_is}
use Rattle.styles.proofs.Built.{mask_of}
use Rattle.windows.proofs.masks.Given as goal

-- the masks of the marks from the i-th on
pub record Masked (table : List Mark) (n : ℕ) (keys out : List ℕ) (i : ℕ) : Type 0 where
  pub each : (j : ℕ) → j < 8 → get_or out j 0 ≡ mask_of (key_is (get_or keys j 0)) (drop i (take n table))

abbrev pub invariant-loop-i : goal.invariant-loop-i
invariant-loop-i l = Masked l.table l.n l.keys l.out l.i
