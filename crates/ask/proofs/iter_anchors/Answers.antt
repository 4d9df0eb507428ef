-- `iter_anchors` meets its contract: the list of one tank, refused where there is no such tank.
use Rattle.ask.proofs.RecordLaws.{anchors_asked}
use Rattle.ask.proofs.iter_anchors.Goals as goal

pub returns : goal.returns
returns c =
    anchors_asked c.args.s c.args.spot c.missing-number.result c.placed-place.result c.args.out.now _ _ c.placed-place.ensures c.missing-number.ensures c.iter_anchors.ensures
