-- The lines are made apart, and laid.
use native.Mathlib.Omega.{arith}
use mathlib.Core.Path.{sym}
use lib.ListN.{length-take}
use lib.Seq.{length-take-le}
use Rattle.saved.proofs.Laying.{lays_more, lays_as, front_put}
use Rattle.saved.proofs.writing.lay_value.Goals as goal

pub slice_bounds-lay-end : goal.slice_bounds-lay-end
slice_bounds-lay-end c = let p = c.put_value-k in sym (length-take-le _ _ (omega (arith, p.ensures.few, p.auto.out)))

pub lay-requires : goal.lay-requires
lay-requires c = let p = c.put_value-k in omega (arith, p.ensures.few, length-take p.result p.new.out)

pub returns : goal.returns
returns c =
    let p = c.put_value-k in
    lays_as (front_put p.ensures) (lays_more (omega (arith, p.ensures.few, length-take p.result p.new.out)) c.lay.ensures)
