-- `steps::cut` meets its contract: the run edit takes the positions away, and the table stays.
use mathlib.Core.Path.{refl}
use Rattle.runs.proofs.BehindLaws.{spare_behind}
use Rattle.tank.proofs.Shape.{all_spare}
use Rattle.tank.proofs.CutLaws.{cut_can, cut_done}
use Rattle.tank.proofs.steps.cut.Goals as goal

pub delete-n-requires : goal.delete-n-requires
delete-n-requires c = cut_can c.args.start c.args.end c.requires _ _ refl refl

pub returns : goal.returns
returns c =
    cut_done c.args.start c.args.end c.requires _ _ _ c.delete-n.ensures.joined (spare_behind (all_spare 514) c.delete-n.ensures.same_behind) c.delete-n.auto.olens
    c.delete-n.auto.osets
