-- The lines are made apart, and laid.
use native.Mathlib.Omega.{arith}
use mathlib.Core.Path.{sym, ap, ◌∙◌}
use mir.Facts.{to_z-of_z}
use lib.ListN.{length-take}
use lib.Seq.{length-take-le}
use Rattle.script.specs.Writing.{counter_text}
use Rattle.saved.proofs.Laying.{lays_more, lays_as, front_put}
use Rattle.saved.proofs.writing.lay_counter.Goals as goal

pub slice_bounds-lay-end : goal.slice_bounds-lay-end
slice_bounds-lay-end c = let p = c.put_counter-k in sym (length-take-le _ _ (omega (arith, p.ensures.few, p.auto.out)))

pub lay-requires : goal.lay-requires
lay-requires c = let p = c.put_counter-k in omega (arith, p.ensures.few, length-take p.result p.new.out)

pub returns : goal.returns
returns c =
    let p = c.put_counter-k in
    lays_as (front_put p.ensures ∙ ap counter_text (to_z-of_z c.ranges.cnt)) (lays_more (omega (arith, p.ensures.few, length-take p.result p.new.out)) c.lay.ensures)
