-- The rows are tried in their order: those from the i-th on give what all of them do.
use mathlib.Core.Path.{◌≡◌}
use mathlib.Core.List.{List}
use Prim.Native.Nat.{ℕ}
use lib.ListN.{drop}
use Rattle.script.specs.Grammar.{op_rows}
use Rattle.script.specs.Reading.{op_from, op_named}
use Rattle.script.proofs.names.row_in.Given as goal

-- those from the i-th on give what all do
unfoldable pub left : ℕ → List ℕ → Type 0
left i t = op_from i (drop i op_rows) t ≡ op_named t

abbrev pub invariant-loop-i : goal.invariant-loop-i
invariant-loop-i l = left l.i l.word
