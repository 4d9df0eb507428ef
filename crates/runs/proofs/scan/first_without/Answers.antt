-- `scan::first_without` meets its contract.
use Rattle.runs.specs.Scan.{passes}
use Rattle.runs.proofs.scan.first_without.Goals as goal

pub returns : goal.returns
unfolding passes
returns c = c.first_from.ensures
