-- One row to a turn; what is left to say stays the same.
use Rattle.std.proofs.Common.{◌-◌}
use Rattle.tanks.specs.Pool.{meaning}
use Rattle.answers.proofs.Laws.{Left}
use Rattle.glance.specs.Glance.{each_from, of_eight, row_at}
use Rattle.glance.proofs.table.table.Given as goal

abbrev pub invariant-loop-t : goal.invariant-loop-t
invariant-loop-t l = Left l.initial.out l.initial.at (of_eight (row_at (meaning l.s))) l.at l.out (each_from (row_at (meaning l.s)) (8 - l.t) l.t)
