use Rattle.answers.proofs.Laws.{and_then, left_more, left_none}
use Rattle.picture.proofs.BandLaws.{edges_more, edges_none}
use Rattle.picture.proofs.bands.edges_of.Goals as goal

pub loop-left-preserved : goal.loop-left-preserved
loop-left-preserved c =
    let a = c.args in
    let w = c.loop-left in
    (c.last_after-next.ensures.1, left_more (edges_more a.end a.y w.last c.last_after-middle.result c.last_after-next.result w.left.now c.in-len3-up.len_at_least c.last_after-middle.ensures.0 c.last_after-next.ensures.0) (and_then c.edge-k.ensures c.edge-k-in-len3-up.ensures) w.invariant.1)

pub returns : goal.returns
returns c = let a = c.args in left_none (edges_none a.end a.y c.loop-left.last c.loop-left.left.now c.in_default.len_below) c.loop-left.invariant.1
