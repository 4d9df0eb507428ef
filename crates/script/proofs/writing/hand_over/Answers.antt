-- The front of the buffer is as long as it says.
use mathlib.Core.Path.{sym}
use native.Mathlib.Omega.{arith}
use lib.Seq.{length-take-le}
use Rattle.script.proofs.writing.hand_over.Goals as goal

pub slice_bounds-write_out-end : goal.slice_bounds-write_out-end
slice_bounds-write_out-end c = sym (length-take-le _ _ (omega (arith, c.least-n.ensures)))
