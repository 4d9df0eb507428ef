use Prim.Native.Nat.{min, max}
use mathlib.Core.Path.{ap}
use lib.Count.{ones}
use lib.ListN.{length}
use native.Mathlib.Omega.{arith}
use Rattle.runs.proofs.ListLaws.{entry_most}
use Rattle.tanks.specs.Pool.{runs_in}
use Rattle.tanks.proofs.LookLaws.{walk_fits}
use Rattle.tanks.proofs.Closing.{in_begins, in_same, in_new, told_length, told_none, told_all}
use Rattle.tanks.proofs.stretches.count_in.Goals as goal
use Rattle.tanks.proofs.stretches.count_in.Goals.{then-bits-one, else-bits-one}

pub start-at-requires : goal.start-at-requires
start-at-requires c = let p = c.requires.walk in (omega (arith, p.inside), p.room)

pub loop-i-init : goal.loop-i-init
loop-i-init c = (in_begins c.requires.walk c.start-at.ensures c.args.own, ap length (told_none c.args.least c.args.from c.args.to c.args.pool c.start-at.result (runs_in c.args.heads c.args.t) c.args.own), omega arith)

pub overflow_add-r : goal.overflow_add-r
overflow_add-r c = let w = c.loop-i.invariant.0.walked in omega (arith, w.inside, c.loop-i-test.true)

pub overflow_add-end : goal.overflow_add-end
overflow_add-end c = omega (arith, walk_fits c.loop-i.invariant.0.walked c.loop-i-test.true)

-- a stretch takes three numbers or none
pub overflow_add-count : goal.overflow_add-count
overflow_add-count c =
    let a = c.args in
    let w = c.loop-i.invariant.0.walked in
    omega (arith, c.loop-i.invariant.2, w.within, w.inside, c.part_width-count.ensures, entry_most a.least (max a.from c.loop-i.first) (min a.to c.loop-i.end) (ones c.loop-i.one))

pub loop-i-preserved : goal.loop-i-preserved
loop-i-preserved c =
    let a = c.args in
    let v = c.loop-i.invariant in
    elim c.if-bits-one.branch [
      | then-bits-one w ↦
          rw (w.first-is, w.one-is, w.count-is) (
            in_new c.requires.walk c.start-at.ensures a.own v.0 c.loop-i-test.true w.if-bits-one.true,
            omega (arith, v.1, w.part_width-count.ensures, told_length v.0 a.least a.from a.to),
            omega (arith, v.2, w.part_width-count.ensures, entry_most a.least (max a.from c.loop-i.first) (min a.to c.loop-i.end) (ones c.loop-i.one)),
          )
      | else-bits-one w ↦
          rw (w.first-is, w.one-is, w.count-is)
          (in_same c.requires.walk c.start-at.ensures a.own v.0 c.loop-i-test.true w.if-bits-one.false, v.1, omega (arith, v.2))
    ]

pub overflow_add-result : goal.overflow_add-result
overflow_add-result c =
    let a = c.args in
    let w = c.loop-i.invariant.0.walked in
    omega (arith, c.loop-i.invariant.2, w.within, w.inside, c.part_width.ensures, entry_most a.least (max a.from c.loop-i.first) (min a.to c.loop-i.end) (ones c.loop-i.one))

pub returns : goal.returns
returns c =
    let a = c.args in
    let v = c.loop-i.invariant in
    omega (
      arith,
      v.1,
      c.part_width.ensures,
      told_length v.0 a.least a.from a.to,
      ap length (told_all c.requires c.start-at.ensures a.own a.least a.from v.0 c.loop-i-test.false),
    )
