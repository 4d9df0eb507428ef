-- Line after line: what is left of the bytes leads where all of them do.
use Prim.Native.Nat.{◌-◌}
use lib.ListN.{length}
use Rattle.day_log.proofs.Turns.{Underway}
use Rattle.day_log.proofs.take.Given as goal

abbrev pub invariant-loop-from : goal.invariant-loop-from
invariant-loop-from l = Underway l.bytes l.initial.tanks l.initial.reader l.initial.edits l.tanks l.reader l.edits l.from

abbrev pub decreases-loop-from : goal.decreases-loop-from
decreases-loop-from l = length l.bytes - l.from
