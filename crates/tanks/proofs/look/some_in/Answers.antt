use mathlib.Core.Path.{sym, ap, ◌∙◌}
use native.Mathlib.Omega.{arith}
use Rattle.runs.specs.Runs.{total}
use Rattle.runs.specs.Scan.{passes}
use Rattle.tanks.proofs.LookLaws.{walk_fits, walk_on, walk_begins}
use Rattle.tanks.proofs.RangeLaws.{from_in, some_from, any_from, missed_on, met, missed_all, walked_all}
use Rattle.tanks.proofs.look.some_in.Goals as goal

pub start-at-requires : goal.start-at-requires
start-at-requires c = let p = c.requires.0 in (omega (arith, p.inside), p.room)

pub loop-i-init : goal.loop-i-init
loop-i-init c = (walk_begins c.args.heads c.args.pool c.args.t c.requires.0 c.start-at.ensures, λ p g h. absurd (omega arith))

pub returns-then-to-end : goal.returns-then-to-end
returns-then-to-end c =
    let a = c.args in
    sym (missed_all c.loop-i.invariant.0 (passes a.test) a.from a.to c.loop-i.invariant.1 c.if-to-end.true)
    ∙ any_from a.heads a.pool a.t c.start-at.ensures (passes a.test) a.from a.to

pub overflow_add-r : goal.overflow_add-r
overflow_add-r c = let w = c.loop-i.invariant.0 in omega (arith, w.inside, c.loop-i-test.true)

pub overflow_add-end : goal.overflow_add-end
overflow_add-end c = omega (arith, walk_fits c.loop-i.invariant.0 c.loop-i-test.true)

pub returns-then-passes_from : goal.returns-then-passes_from
returns-then-passes_from c =
    let a = c.args in
    let p = c.requires in
    sym
    (met c.loop-i.invariant.0 (passes a.test) a.from a.to c.loop-i-test.true p.1.some c.if-to-end.false
    (some_from a.heads a.pool a.t c.start-at.ensures p.0 c.loop-i.i c.loop-i-test.true) (sym c.passes_from.ensures ∙ c.if-passes_from.true))
    ∙ any_from a.heads a.pool a.t c.start-at.ensures (passes a.test) a.from a.to

pub loop-i-preserved : goal.loop-i-preserved
loop-i-preserved c =
    let a = c.args in (
      walk_on c.loop-i.invariant.0 c.loop-i-test.true,
      missed_on c.loop-i.invariant.0 (passes a.test) a.from c.loop-i-test.true c.loop-i.invariant.1 (sym c.passes_from.ensures ∙ c.if-passes_from.false),
    )

pub returns : goal.returns
returns c =
    let a = c.args in
    let w = c.loop-i.invariant.0 in
    let all = ap total (from_in a.heads a.pool a.t c.start-at.ensures) in
    sym (missed_all w (passes a.test) a.from a.to c.loop-i.invariant.1 (omega (arith, c.requires.1.reach, walked_all w c.loop-i-test.false, all)))
    ∙ any_from a.heads a.pool a.t c.start-at.ensures (passes a.test) a.from a.to
