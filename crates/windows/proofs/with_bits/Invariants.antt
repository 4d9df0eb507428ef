-- `with_bits` meets its contract: a mask a turn.
use Prim.Native.Nat.{ℕ, ◌+◌, ◌*◌, ◌<◌}
use mathlib.Core.Path.{◌≡◌}
use mathlib.Core.Bool.{cond}
use mathlib.Core.List.{List}
use lib.Dec.{eqb}
use lib.ListN.{length, get_or}
use Rattle.windows.proofs.with_bits.Given as goal

-- the first j of eight numbers are those of f
pub record Laid (f : ℕ → ℕ) (out : List ℕ) (j : ℕ) : Type 0 where
  pub long : length out ≡ 8
  pub each : (i : ℕ) → i < j → get_or out i 0 ≡ f i

abbrev pub lifted : List ℕ → List ℕ → ℕ → ℕ → ℕ
lifted before keys key i = get_or before i 0 * 2 + cond (eqb key (get_or keys i 0)) 1 0

abbrev pub invariant-loop-j : goal.invariant-loop-j
invariant-loop-j l = Laid (lifted l.before l.keys l.key) l.out l.j
