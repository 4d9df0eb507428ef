-- `proposals::works_below` meets its contract: the ranges are tried as any plan is.
use Rattle.night.specs.Proposing.{unheld_below}
use Rattle.tanks.specs.House.{tank_at}
use Rattle.tanks.specs.Pool.{meaning}
use Rattle.night.proofs.ProposalLaws.{can_below, below_is, said}
use Rattle.night.proofs.proposals.works_below.Goals as goal

pub unheld_below-plan-requires : goal.unheld_below-plan-requires
unheld_below-plan-requires c = can_below c.args.s c.args.tank c.take.ensures c.requires.fits

pub returns : goal.returns
returns c =
    let a = c.args in
    said a.s a.tank a.hold a.most c.requires.tank (unheld_below a.hold (tank_at (meaning a.s) a.tank) a.below)
    (below_is a.s a.tank a.hold a.most a.below c.take.ensures c.unheld_below-plan.ensures)
    c.apply_as_plant-done.ensures
