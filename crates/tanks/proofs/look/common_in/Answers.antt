use mathlib.Core.Path.{◌∙◌}
use native.Mathlib.Omega.{arith}
use Rattle.tanks.proofs.LookLaws.{walk_fits, walk_on, walk_begins, set_first, set_next, common_found, common_none}
use Rattle.tanks.proofs.look.common_in.Goals as goal

pub start-at-requires : goal.start-at-requires
start-at-requires c = let p = c.requires in (omega (arith, p.inside), p.room)

pub loop-i-init : goal.loop-i-init
loop-i-init c = (walk_begins c.args.heads c.args.pool c.args.t c.requires c.start-at.ensures, omega arith, set_first _ _)

pub overflow_add-r : goal.overflow_add-r
overflow_add-r c = let w = c.loop-i.invariant.0 in omega (arith, w.inside)

pub overflow_add-end : goal.overflow_add-end
overflow_add-end c = omega (arith, walk_fits c.loop-i.invariant.0 c.loop-i-test.true)

pub returns-then-pos-end : goal.returns-then-pos-end
returns-then-pos-end c =
    c.joint.ensures
    ∙ common_found c.args.heads c.args.pool c.args.t c.requires c.start-at.ensures c.loop-i.invariant.0 c.loop-i.invariant.2 c.args.pos c.loop-i.invariant.1 c.loop-i-test.true
    c.if-pos-end.true

pub loop-i-preserved : goal.loop-i-preserved
loop-i-preserved c = (walk_on c.loop-i.invariant.0 c.loop-i-test.true, c.if-pos-end.false, set_next _ _ _)

pub returns : goal.returns
returns c = common_none c.args.heads c.args.pool c.args.t c.requires c.start-at.ensures c.loop-i.invariant.0 c.loop-i.invariant.2 c.args.pos c.loop-i.invariant.1 c.loop-i-test.false
