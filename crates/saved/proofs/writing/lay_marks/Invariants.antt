-- A mark to a turn.
use Prim.Native.Nat.{◌*◌}
use mathlib.Core.Path.{◌≡◌}
use lib.ListN.{length, take}
use Rattle.saved.specs.Saved.{marks_text}
use Rattle.saved.specs.Saying.{newest}
use Rattle.saved.specs.Writes.{Lays, FitsMarks}
use Rattle.saved.proofs.writing.lay_marks.Given as goal

abbrev pub invariant-loop-j : goal.invariant-loop-j
invariant-loop-j l = (length l.out ≡ length l.initial.out) × Lays l.initial.out l.at (marks_text newest (take l.j l.table)) (195 * l.j) l.k l.out × FitsMarks (take l.j l.table)
