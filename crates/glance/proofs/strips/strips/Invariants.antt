-- One strip to a turn; what is left to say stays the same.
use Rattle.std.proofs.Common.{◌-◌}
use Rattle.tanks.specs.Pool.{meaning}
use Rattle.answers.proofs.Laws.{Left}
use Rattle.glance.specs.Glance.{each_from, of_eight, strip_of}
use Rattle.glance.proofs.strips.strips.Given as goal

abbrev pub invariant-loop-t : goal.invariant-loop-t
invariant-loop-t l = Left l.initial.out l.initial.at (of_eight (strip_of (meaning l.s) l.keys l.letters)) l.at l.out (each_from (strip_of (meaning l.s) l.keys l.letters) (8 - l.t) l.t)
