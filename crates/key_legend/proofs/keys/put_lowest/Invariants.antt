-- The first keys stand, and those behind the last of them are to come.
use Rattle.std.proofs.Common.{length}
use Rattle.tanks.specs.Pool.{meaning}
use Rattle.key_legend.proofs.Lowest.{Underway}
use Rattle.key_legend.proofs.keys.put_lowest.Given as goal

abbrev pub invariant-loop-key : goal.invariant-loop-key
invariant-loop-key l = Underway l.whose (meaning l.s) (length l.initial.keys) l.keys l.least l.key-index
