-- All of it, nothing of it, or as much as there is room for.
use mathlib.Core.Path.{sym}
use native.Mathlib.Omega.{arith}
use Prim.Native.Nat.{◌-◌}
use lib.ListN.{length}
use lib.Seq.{length-take-le}
use Rattle.saved.proofs.Laying.{lays_whole, lays_past, lays_part}
use Rattle.saved.proofs.writing.lay.Goals as goal

pub returns-then-end-out : goal.returns-then-end-out
returns-then-end-out c = lays_whole (omega arith) c.put.ensures

pub returns-then-out-at : goal.returns-then-out-at
returns-then-out-at c = lays_past (omega arith)

pub slice_bounds-put-end : goal.slice_bounds-put-end
slice_bounds-put-end c = sym (length-take-le _ _ (omega arith))

pub put-requires-2 : goal.put-requires-2
put-requires-2 c =
    let a = c.args in
    omega (arith, length-take-le (length a.out.now - a.at) a.src.now (omega arith))

pub returns : goal.returns
returns c = lays_part (omega arith) (omega arith) c.put-2.ensures.1
