-- `spots` meets its contract: a tank's runs end no later than those of all eight, so no difference is below 0.
use native.Mathlib.Omega.{arith}
use Rattle.runs.proofs.SumLaws.{sum_next}
use Rattle.tanks.specs.Pool.{runs_in}
use Rattle.tanks.proofs.pool.spots.Goals as goal

pub overflow_add-from : goal.overflow_add-from
overflow_add-from c = omega (arith, sum_next (runs_in c.args.heads) c.args.t 8 c.requires.0, c.start-at.ensures, c.start-all.ensures)

pub overflow_sub-left : goal.overflow_sub-left
overflow_sub-left c = omega (arith, sum_next (runs_in c.args.heads) c.args.t 8 c.requires.0, c.start-at.ensures, c.start-all.ensures)

pub overflow_add-result-2 : goal.overflow_add-result-2
overflow_add-result-2 c = omega (arith, sum_next (runs_in c.args.heads) c.args.t 8 c.requires.0, c.start-at.ensures, c.start-all.ensures)
