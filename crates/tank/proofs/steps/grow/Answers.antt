-- `steps::grow` meets its contract: the run edit puts the positions in, and the marks of their set are the inherited ones.
use mathlib.Core.Path.{refl}
use Rattle.runs.proofs.BehindLaws.{spare_behind}
use Rattle.tank.proofs.Shape.{all_spare}
use Rattle.tank.proofs.GrowLaws.{grow_can, grow_done}
use Rattle.tank.proofs.steps.grow.Goals as goal

pub insert-n-requires : goal.insert-n-requires
insert-n-requires c = grow_can c.args.pos c.args.len c.args.set c.requires _ _ refl refl

pub returns : goal.returns
returns c =
    grow_done c.args.pos c.args.len c.args.set c.requires _ _ _ c.insert-n.ensures.joined (spare_behind (all_spare 514) c.insert-n.ensures.same_behind)
    c.insert-n.auto.olens c.insert-n.auto.osets
