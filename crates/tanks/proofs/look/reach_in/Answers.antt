use Prim.Native.Nat.{◌<◌}
use mathlib.Core.Path.{ap, ◌∙◌}
use mathlib.Core.List.{List}
use native.Mathlib.Omega.{arith}
use Rattle.runs.specs.Positions.{first_of, last_of}
use Rattle.runs.specs.Runs.{Run, total}
use Rattle.tanks.specs.Looks.{alike_by}
use Rattle.tanks.proofs.LookLaws.{walk_fits, walk_on, walk_begins}
use Rattle.tanks.proofs.RangeLaws.{from_in, some_from, walked_all, walked_within}
use Rattle.tanks.proofs.ReachLaws.{first_is, last_is, level_begins, level_on, level_new, level_ends}
use Rattle.tanks.proofs.look.reach_in.Goals as goal
use Rattle.tanks.proofs.look.reach_in.Goals.{then-bits-one+else-pos-begun, else-bits-one}

pub start-at-requires : goal.start-at-requires
start-at-requires c = let p = c.requires.0 in (omega (arith, p.inside), p.room)

pub loop-i-init : goal.loop-i-init
loop-i-init c = (walk_begins c.args.heads c.args.pool c.args.t c.requires.0 c.start-at.ensures, omega arith, omega arith, level_begins _)

pub overflow_add-r : goal.overflow_add-r
overflow_add-r c = let w = c.loop-i.invariant.0 in omega (arith, w.inside, c.loop-i-test.true)

pub overflow_add-end : goal.overflow_add-end
overflow_add-end c = omega (arith, walk_fits c.loop-i.invariant.0 c.loop-i-test.true)

pub overflow_sub-result : goal.overflow_sub-result
overflow_sub-result c = omega (arith, c.if-pos-begun.true)

pub returns-then-pos-begun : goal.returns-then-pos-begun
returns-then-pos-begun c =
    let a = c.args in
    let v = c.loop-i.invariant in
    let e = from_in a.heads a.pool a.t c.start-at.ensures in
    let long = some_from a.heads a.pool a.t c.start-at.ensures c.requires.0 c.loop-i.i c.loop-i-test.true in (
      first_is _ v.3 a.pos v.1 c.if-pos-begun.true ∙ ap (λ (rs : List Run). first_of (alike_by a.own rs) a.pos) e,
      last_is _ v.3 a.pos v.1 c.if-pos-begun.true _ (walked_within v.0) (λ g. level_ends v.0 c.loop-i-test.true long a.own v.3 c.if-bits-one.true)
          ∙ ap (λ (rs : List Run). last_of (alike_by a.own rs) (total rs) a.pos) e,
    )

pub loop-i-preserved : goal.loop-i-preserved
loop-i-preserved c =
    let a = c.args in
    let v = c.loop-i.invariant in
    let long = some_from a.heads a.pool a.t c.start-at.ensures c.requires.0 c.loop-i.i c.loop-i-test.true in
    elim c.if-bits-one.branch [
      | then-bits-one+else-pos-begun w ↦
          rw (w.first-is, w.one-is)
          (walk_on v.0 c.loop-i-test.true, w.if-pos-begun.false, omega arith, level_new v.0 c.loop-i-test.true long a.own v.3 w.if-bits-one.true)
      | else-bits-one w ↦
          rw (w.first-is, w.one-is)
          (walk_on v.0 c.loop-i-test.true, v.1, omega (arith, v.2), level_on v.0 c.loop-i-test.true long a.own v.3 v.2 w.if-bits-one.false)
    ]

pub overflow_sub-result-2 : goal.overflow_sub-result-2
overflow_sub-result-2 c =
    omega (
      arith,
      (let h : (c.args.pos < c.loop-i.end) = let a = c.args in
          omega (arith, c.requires.1, walked_all c.loop-i.invariant.0 c.loop-i-test.false, ap total (from_in a.heads a.pool a.t c.start-at.ensures)) in h),
    )

pub returns : goal.returns
returns c =
    let a = c.args in
    let v = c.loop-i.invariant in
    let e = from_in a.heads a.pool a.t c.start-at.ensures in
    let all = walked_all v.0 c.loop-i-test.false in (
      first_is _ v.3 a.pos v.1 ((let h : (c.args.pos < c.loop-i.end) = let a = c.args in
          omega (arith, c.requires.1, walked_all c.loop-i.invariant.0 c.loop-i-test.false, ap total (from_in a.heads a.pool a.t c.start-at.ensures)) in h)) ∙ ap (λ (rs : List Run). first_of (alike_by a.own rs) a.pos) e,
      last_is _ v.3 a.pos v.1 ((let h : (c.args.pos < c.loop-i.end) = let a = c.args in
          omega (arith, c.requires.1, walked_all c.loop-i.invariant.0 c.loop-i-test.false, ap total (from_in a.heads a.pool a.t c.start-at.ensures)) in h)) _ (walked_within v.0) (λ g. absurd (omega (arith, g, all)))
          ∙ ap (λ (rs : List Run). last_of (alike_by a.own rs) (total rs) a.pos) e,
    )
