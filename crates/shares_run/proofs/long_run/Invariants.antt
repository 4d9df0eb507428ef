-- The tanks are sound, as each turn leaves them so.
use Rattle.tanks.specs.Pool.{Sound}
use Rattle.shares_run.proofs.long_run.Given as goal

abbrev pub invariant-loop : goal.invariant-loop
invariant-loop l = Sound l.r.tanks
