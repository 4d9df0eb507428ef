use native.Mathlib.Omega.{arith}
use Rattle.tanks.proofs.LookLaws.{few_in}
use Rattle.ask.proofs.Borders.{tally_begins, tally_on, tally_all}
use Rattle.ask.proofs.anchored.count_in.Goals as goal

pub own_bits-own-requires : goal.own_bits-own-requires
own_bits-own-requires c = (c.requires.inside, few_in c.requires)

pub start-at-requires : goal.start-at-requires
start-at-requires c = let p = c.requires in (omega (arith, p.inside), p.room)

pub loop-i-init : goal.loop-i-init
loop-i-init c = tally_begins c.requires c.start-at.ensures c.own_bits-own.result

pub overflow_add-r : goal.overflow_add-r
overflow_add-r c = let w = c.loop-i.invariant in omega (arith, w.inside, c.loop-i-test.true)

pub overflow_add-count : goal.overflow_add-count
overflow_add-count c =
    let w = c.loop-i.invariant in
    omega (arith, w.inside, w.few, c.loop-i-test.true, c.changes-count.ensures.1)

pub loop-i-preserved : goal.loop-i-preserved
loop-i-preserved c = tally_on c.loop-i.invariant c.loop-i-test.true c.changes-count.ensures

pub overflow_add-result : goal.overflow_add-result
overflow_add-result c =
    let w = c.loop-i.invariant in
    omega (arith, w.within, w.inside, w.few, c.count.ensures.1)

pub returns : goal.returns
returns c = tally_all c.requires c.args.who c.own_bits-own.ensures c.start-at.ensures c.loop-i.invariant c.loop-i-test.false c.count.ensures.0
