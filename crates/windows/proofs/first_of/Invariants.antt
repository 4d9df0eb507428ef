-- `first_of` meets its contract. The invariant: no key before the j-th shows a value.
use Prim.Native.Nat.{ℕ, ◌<◌}
use mathlib.Core.Path.{◌≡◌}
use mathlib.Core.Bool.{false}
use mathlib.Core.List.{List}
use lib.ListN.{get_or}
use Rattle.windows.specs.Windows.{shows_bits}
use Rattle.windows.proofs.first_of.Given as goal

pub record Missed (keyed : List ℕ) (nulls set j : ℕ) : Type 0 where
  pub none : (i : ℕ) → i < j → shows_bits (get_or keyed i 0) nulls set ≡ false

abbrev pub invariant-loop-j : goal.invariant-loop-j
invariant-loop-j l = Missed l.keyed l.nulls l.set l.j
