-- `anchors::boundary` meets its contract, field by field.
use Rattle.lists.proofs.anchors.boundary.Goals as goal

pub returns : goal.returns
returns c =
    λ i.
    record {
      index = c.args.index;
      at = c.args.at;
      ends = c.lacking.ensures i;
      starts = c.lacking-2.ensures i;
    }
