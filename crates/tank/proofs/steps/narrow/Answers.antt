-- `steps::narrow` meets its contract: the run edit takes the other party's bits off every position, and those bits are its marks.
use mathlib.Core.Path.{refl}
use Rattle.runs.proofs.BehindLaws.{spare_behind}
use Rattle.runs.specs.Runs.{changing}
use Rattle.tank.proofs.Shape.{all_spare}
use Rattle.tank.proofs.AlterLaws.{alter_can}
use Rattle.tank.proofs.NarrowLaws.{narrow_done}
use Rattle.tank.proofs.steps.narrow.Goals as goal

pub alter-n-requires : goal.alter-n-requires
alter-n-requires c = alter_can c.requires.range (changing 0 c.args.gone) _ _ refl refl

pub returns : goal.returns
returns c =
    narrow_done c.args.who c.args.gone c.requires _ _ _ c.alter-n.ensures.joined
    (spare_behind (all_spare 514) c.alter-n.ensures.same_behind) c.alter-n.auto.olens c.alter-n.auto.osets
