-- Line by line: so many names are read, and the rest is to come.
use Prim.Native.Nat.{◌-◌}
use lib.ListN.{length}
use Rattle.key_names.proofs.Lines.{Underway}
use Rattle.key_names.proofs.read.Given as goal

abbrev pub invariant-loop-from : goal.invariant-loop-from
invariant-loop-from l = Underway l.bytes l.names l.from

abbrev pub decreases-loop-from : goal.decreases-loop-from
decreases-loop-from l = length l.bytes - l.from
