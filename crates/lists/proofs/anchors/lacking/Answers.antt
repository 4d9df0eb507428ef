-- `anchors::lacking` meets its contract: what is taken off is part of the set.
use lib.Bits.{and_le_l}
use Rattle.lists.proofs.anchors.lacking.Goals as goal

pub overflow_sub-result : goal.overflow_sub-result
overflow_sub-result c = and_le_l c.args.set c.args.other
