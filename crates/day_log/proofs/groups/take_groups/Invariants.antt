-- Line after line: where the log stands, and where it last stood between two groups.
use Prim.Native.Nat.{◌-◌}
use lib.ListN.{length}
use Rattle.tanks.specs.Pool as pool
use Rattle.day_log.proofs.Grouping.{Grouping}
use Rattle.day_log.proofs.groups.take_groups.Given as goal

abbrev pub invariant-loop-from : goal.invariant-loop-from
invariant-loop-from l = Grouping l.bytes (pool.meaning l.initial.tanks) l.tanks l.reader l.edits l.lines l.at l.from

abbrev pub decreases-loop-from : goal.decreases-loop-from
decreases-loop-from l = length l.bytes - l.from
