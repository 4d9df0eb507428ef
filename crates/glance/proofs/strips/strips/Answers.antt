use native.Mathlib.Omega.{arith}
use Rattle.tanks.specs.Pool.{meaning}
use Rattle.answers.proofs.Laws.{and_then, left_all, left_more, left_none}
use Rattle.glance.specs.Glance.{strip_of, strips_say}
use Rattle.glance.proofs.Laws.{each_more, each_none}
use Rattle.glance.proofs.strips.strips.Goals as goal

pub loop-t-preserved : goal.loop-t-preserved
loop-t-preserved c =
    let a = c.args in
    let w = c.loop-t in
    left_more (each_more (strip_of (meaning a.s) a.keys a.letters) w.t (omega arith)) c.strip_of-at.ensures w.invariant

pub returns : goal.returns
unfolding strips_say
returns c =
    let a = c.args in
    let w = c.loop-t in
    and_then c.say-at.ensures (left_none (each_none (strip_of (meaning a.s) a.keys a.letters) w.t (omega arith)) w.invariant)
