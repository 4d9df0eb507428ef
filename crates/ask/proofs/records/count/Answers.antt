use native.Mathlib.Omega.{arith}
use Rattle.ask.proofs.Borders.{tally_on}
use Rattle.ask.proofs.RecordLaws.{tally_first, tally_whole}
use Rattle.ask.proofs.records.count.Goals as goal

pub loop-i-init : goal.loop-i-init
loop-i-init c = tally_first c.requires

pub overflow_add-r : goal.overflow_add-r
overflow_add-r c = let w = c.loop-i.invariant in omega (arith, w.inside, c.loop-i-test.true)

pub overflow_add-count : goal.overflow_add-count
overflow_add-count c =
    let w = c.loop-i.invariant in
    omega (arith, w.inside, w.few, c.loop-i-test.true, c.changes-count.ensures.1)

pub loop-i-preserved : goal.loop-i-preserved
loop-i-preserved c = tally_on c.loop-i.invariant c.loop-i-test.true c.changes-count.ensures

pub overflow_add-result : goal.overflow_add-result
overflow_add-result c =
    let w = c.loop-i.invariant in
    omega (arith, w.within, w.inside, w.few, c.count.ensures.1)

pub returns : goal.returns
returns c = tally_whole c.requires c.loop-i.invariant c.loop-i-test.false c.count.ensures.0
