-- `calls::fill` leaves a sound map: each insertion does. Assumes nothing.
use Rattle.config.specs.Meaning.{Sound}
use Rattle.flags_run.proofs.calls.fill.Given as goal

abbrev pub invariant-loop-letter : goal.invariant-loop-letter
invariant-loop-letter l = Sound l.map
