use Rattle.answers.proofs.Laws.{left_more, left_none}
use Rattle.tanks.specs.Pool.{meaning}
use Rattle.picture.specs.Bands.{tank_says, tanks_say}
use Rattle.picture.proofs.Turns.{each_more, each_none}
use Rattle.picture.proofs.bands.tanks_drawn.Goals as goal

pub loop-t-preserved : goal.loop-t-preserved
loop-t-preserved c =
    let a = c.args in
    let w = c.loop-t in
    left_more (each_more (tank_says (meaning a.s) a.keys a.hold) 8 w.t c.loop-t-test.true) c.tank_drawn-k.ensures w.invariant

pub returns : goal.returns
unfolding tanks_say
returns c =
    let a = c.args in
    let w = c.loop-t in
    left_none (each_none (tank_says (meaning a.s) a.keys a.hold) 8 w.t c.loop-t-test.false) w.invariant
