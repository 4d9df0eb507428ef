-- `lent::trim` meets its contract: the union of all sets is what is carried; where that is not the whole table, the sets are squeezed to it.
use Rattle.tank.proofs.LentLaws.{trims_none, trims_some}
use Rattle.tank.proofs.lent.trim.Goals as goal

pub returns-then-held-h : goal.returns-then-held-h
returns-then-held-h c =
    λ lens table f e.
    trims_none c.args.h c.args.first lens _ table f e _ _ (c.union_of-carried.ensures lens) c.count-held.ensures.0 c.if-held-h.true

pub returns : goal.returns
returns c =
    λ lens table f e.
    trims_some c.args.h c.args.first lens _ table f e _ _ (c.union_of-carried.ensures lens) c.count-held.ensures.0 _ c.squeeze_sets.ensures
