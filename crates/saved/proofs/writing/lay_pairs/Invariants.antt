-- A pair to a turn.
use Prim.Native.Nat.{◌*◌}
use mathlib.Core.Path.{◌≡◌}
use lib.ListN.{length, take}
use Rattle.settings_text.specs.Text.{pairs_text}
use Rattle.saved.specs.Writes.{Lays}
use Rattle.saved.proofs.writing.lay_pairs.Given as goal

abbrev pub invariant-loop-t : goal.invariant-loop-t
invariant-loop-t l = (length l.out ≡ length l.initial.out) × Lays l.initial.out l.at (pairs_text 0 (take l.t l.fn.settings)) (56 * l.t) l.k l.out
