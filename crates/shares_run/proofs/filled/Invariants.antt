-- The tanks are sound, as each annotate leaves them so; at most 100 turns keep the positions within 64 bits.
use Rattle.std.proofs.Common.{◌≤◌}
use Rattle.tanks.specs.Pool.{Sound}
use Rattle.shares_run.proofs.filled.Given as goal

abbrev pub invariant-loop-i : goal.invariant-loop-i
invariant-loop-i l = (l.start ≤ 10) × (l.n ≤ 100) × Sound l.u
