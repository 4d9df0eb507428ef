use Rattle.answers.proofs.Laws.{and_then, left_more, left_none}
use Rattle.answers.proofs.Loops.{stretch_more, stretch_none}
use Rattle.answers.proofs.listing.put_stretches.Goals as goal

pub loop-left-preserved : goal.loop-left-preserved
loop-left-preserved c =
    let w = c.loop-left in
    left_more (stretch_more w.left.now c.in-len3-up.len_at_least) (and_then (and_then c.say-k-in-len3-up.ensures c.say-k-in-len3-up-2.ensures) c.say-k-in-len3-up-3.ensures) w.invariant

pub returns : goal.returns
returns c =
    let w = c.loop-left in
    and_then c.say-k.ensures (left_none (stretch_none w.left.now c.in_default.len_below) w.invariant)
