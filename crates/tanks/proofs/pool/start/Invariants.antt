-- `start` meets its contract. The loop's invariant: `at` is how many runs the tanks before h hold; all eight hold at most 512, so it fits.
use mathlib.Core.Path.{◌≡◌}
use Rattle.tanks.specs.Pool.{runs_below}
use Rattle.tanks.proofs.pool.start.Given as goal

abbrev pub invariant-loop-h : goal.invariant-loop-h
invariant-loop-h l = l.at ≡ runs_below l.fn.heads l.h-index
