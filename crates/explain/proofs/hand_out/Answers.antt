-- The answer is the front of the buffer, as long as what was written out.
use mathlib.Core.Path.{sym}
use native.Mathlib.Omega.{arith}
use lib.Seq.{length-take-le}
use Rattle.explain.proofs.hand_out.Goals as goal

pub slice_bounds-tell-end-2 : goal.slice_bounds-tell-end-2
slice_bounds-tell-end-2 c = sym (length-take-le _ _ (omega (arith, c.hand_over-n.ensures)))
