-- `scan::holds` meets its contract, variant by variant.
use mathlib.Core.Path.{ap}
use mathlib.Core.Bool.{not}
use lib.Bits.{bit_and}
use Rattle.runs.specs.Scan.{passes}
use Rattle.runs.proofs.ScanLaws.{some_bit, no_bit}
use Rattle.runs.proofs.scan.holds.Goals as goal

pub returns-in-Meets : goal.returns-in-Meets
unfolding passes
returns-in-Meets c = rw c.in-Meets.is (some_bit (bit_and c.args.set c.in-Meets.mask))

pub returns-in-Misses : goal.returns-in-Misses
unfolding passes
returns-in-Misses c = rw c.in-Misses.is (no_bit (bit_and c.args.set c.in-Misses.mask))

pub returns-in-Hides : goal.returns-in-Hides
unfolding passes
returns-in-Hides c = rw c.in-Hides.is (ap not c.top_in.ensures)

pub returns-in-Differs : goal.returns-in-Differs
unfolding passes
returns-in-Differs c = rw c.in-Differs.is
