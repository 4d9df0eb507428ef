-- `scan::any_in` meets its contract: it is the scan for a mask.
use Rattle.runs.specs.Scan.{passes}
use Rattle.runs.proofs.scan.any_in.Goals as goal

pub returns : goal.returns
unfolding passes
returns c = c.some_in.ensures
