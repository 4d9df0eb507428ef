-- `first_stretches` meets its contract: the tank's first runs are its first stretches.
use native.Mathlib.Omega.{arith}
use Rattle.runs.proofs.ScanLaws.{can_find as can_ask}
use Rattle.tank.proofs.Shape.{can_find}
use Rattle.night.proofs.AgeLaws.{budget_part, budget_count}
use Rattle.night.proofs.first_stretches.Goals as goal

pub first_runs-requires : goal.first_runs-requires
first_runs-requires c =
    let g = can_ask (can_find c.requires.0.formed.laid) in
    let e = g.1 in
    let l = g.2 in
    let h = c.requires.1 in
    (g.0, omega arith, omega arith)

pub returns : goal.returns
returns c = (budget_part c.requires.0 c.requires.1 c.first_runs.ensures, budget_count c.requires.0 c.requires.1 c.first_runs.ensures)
