-- A key to a turn; what is left to say stays the same.
use Prim.Native.Nat.{ℕ, ◌-◌}
use lib.ListN.{get_or}
use Rattle.answers.proofs.Laws.{Left}
use Rattle.key_names.specs.Names.{names_of}
use Rattle.picture.specs.Elements.{each_from}
use Rattle.picture.specs.Picture.{entry_says}
use Rattle.picture.proofs.entries.entries.Given as goal

abbrev pub invariant-loop-i : goal.invariant-loop-i
invariant-loop-i l = Left l.initial.out l.initial.k (each_from (λ (j : ℕ). entry_says (names_of l.names) j (get_or l.key-items j 0)) 0 12) l.k l.out (each_from (λ (j : ℕ). entry_says (names_of l.names) j (get_or l.key-items j 0)) l.i (12 - l.i))
