-- `steps::admit` meets its contract: a bit opened in every set where the mark is put into the table changes no position.
use Rattle.tank.proofs.AdmitLaws.{can_open, admit_done}
use Rattle.tank.proofs.steps.admit.Goals as goal

pub open_sets-requires : goal.open_sets-requires
open_sets-requires c = can_open c.args.i c.args.mark c.requires

pub returns : goal.returns
returns c = admit_done c.args.i c.args.mark c.requires _ _ c.open_sets.ensures c.insert_mark-next.ensures
