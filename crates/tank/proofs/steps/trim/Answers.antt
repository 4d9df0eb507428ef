-- `steps::trim` meets its contract: the union of all sets is what is carried; where that is not the whole table, both are squeezed to it.
use mathlib.Core.Path.{sym, ◌∙◌}
use Rattle.tank.proofs.TrimLaws.{carried_inside, trim_none, trim_done}
use Rattle.tank.proofs.steps.trim.Goals as goal

pub returns-then-count-marks : goal.returns-then-count-marks
returns-then-count-marks c = trim_none c.requires.0 c.requires.1 _ (c.union_of-carried.ensures c.args.t.lens) (sym c.count.ensures.0 ∙ c.if-count-marks.true)

pub styles_of-kept-requires : goal.styles_of-kept-requires
styles_of-kept-requires c = carried_inside c.requires.0 c.requires.1 _ (c.union_of-carried.ensures c.args.t.lens)

pub returns : goal.returns
returns c = trim_done c.requires.0 c.requires.1 _ (c.union_of-carried.ensures c.args.t.lens) _ c.squeeze_sets.ensures _ c.styles_of-kept.ensures
