-- What is told fits the buffer.
use mathlib.Core.Path.{sym}
use native.Mathlib.Omega.{arith}
use lib.Seq.{length-take-le}
use Rattle.explain.proofs.tell.Goals as goal

pub slice_bounds-write_all-end-2 : goal.slice_bounds-write_all-end-2
slice_bounds-write_all-end-2 c = sym (length-take-le _ _ (omega (arith, c.put_told-n.ensures.few, c.put_told-n.auto.out)))
