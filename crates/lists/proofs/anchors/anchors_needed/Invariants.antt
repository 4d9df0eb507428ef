-- `anchors::anchors_needed` meets its contract. The invariant: what has been counted, with what comes behind the cursor, is the whole count.
use Prim.Native.Nat.{◌-◌}
use Rattle.lists.proofs.CursorLaws.{Tallied}
use Rattle.lists.proofs.anchors.anchors_needed.Given as goal

abbrev pub invariant-loop-c : goal.invariant-loop-c
invariant-loop-c l = Tallied l.t l.c l.count

abbrev pub decreases-loop-c : goal.decreases-loop-c
decreases-loop-c l = l.t.runs - l.c.index
