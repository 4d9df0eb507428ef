-- After i turns the buffer has the first i bytes of the line as they are shown.
use mathlib.Core.Path.{◌≡◌}
use mathlib.Core.List.{map}
use lib.ListN.{length}
use lib.Seq.{paste}
use Rattle.explain.specs.Told.{byte_shown}
use Rattle.explain.proofs.bad.put_bytes.Given as goal

abbrev pub invariant-loop-i : goal.invariant-loop-i
invariant-loop-i l = (length l.out ≡ length l.initial.out) × (l.out ≡ paste l.initial.out l.at (map byte_shown l.line) l.i)
