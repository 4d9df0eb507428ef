-- `spell` meets its contract. The invariant: i letters stand at the front of the buffer.
use Prim.Native.Nat.{ℕ}
use mathlib.Core.Path.{◌≡◌}
use lib.ListN.{get_or}
use Rattle.laws.proofs.Lists.{stored}
use Rattle.strip.specs.Cells.{letter_of}
use Rattle.strip.proofs.spell.Given as goal

abbrev pub invariant-loop-i : goal.invariant-loop-i
invariant-loop-i l = l.out ≡ stored (λ (j : ℕ). letter_of l.letters (get_or l.firsts j 0)) l.initial.out l.i
