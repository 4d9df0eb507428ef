-- `runs::change` meets its contract: what two sets have in common is no more than the first.
use mathlib.Core.Path.{refl}
use lib.Bits.{and_le_l}
use Rattle.runs.specs.Runs.{changing}
use Rattle.runs.proofs.change.Goals as goal

pub overflow_sub-result : goal.overflow_sub-result
overflow_sub-result c = and_le_l _ _

pub returns : goal.returns
unfolding changing
returns c = refl
