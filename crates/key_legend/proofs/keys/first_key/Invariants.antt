-- The lowest in the first t tanks.
use Rattle.std.proofs.Common.{◌≡◌}
use Rattle.tanks.specs.Pool.{meaning}
use Rattle.key_legend.specs.Keys.{first_below}
use Rattle.key_legend.proofs.keys.first_key.Given as goal

abbrev pub invariant-loop-t : goal.invariant-loop-t
invariant-loop-t l = l.first ≡ first_below l.whose l.least (meaning l.s) l.t
