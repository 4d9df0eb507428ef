-- Two lines, one behind the other.
use native.Mathlib.Omega.{arith}
use Rattle.saved.proofs.Laying.{lays_then, lays_more}
use Rattle.saved.proofs.writing.lay_run.Goals as goal

pub returns : goal.returns
returns c = lays_more (omega arith) (lays_then c.lay_number-a.ensures c.lay_digits.ensures)
