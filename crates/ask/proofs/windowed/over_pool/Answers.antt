use Prim.Native.Nat.{ℕ, ◌+◌, min, max}
use mathlib.Core.Path.{◌≡◌, ap, ap₂, ◌∙◌}
use mathlib.Core.Bool.{cond}
use native.Mathlib.Omega.{arith}
use lib.Bits.{bit_and}
use lib.Dec.{ltb}
use lib.ListN.{get_or}
use Rattle.windows.specs.Windows.{first_of_set}
use Rattle.tanks.specs.Pool.{no_run}
use Rattle.tanks.proofs.LookLaws.{len_from, walk_fits}
use Rattle.ask.proofs.WindowLaws.{fill_begins, fill_passed, fill_within, fill_behind, fill_all}
use Rattle.ask.proofs.windowed.over_pool.Goals as goal

pub start-at-requires : goal.start-at-requires
start-at-requires c = let p = c.requires in (omega (arith, p.inside), p.room)

pub loop-w-init : goal.loop-w-init
loop-w-init c = fill_begins c.requires c.start-at.ensures c.args.own _ _ _ _ _ (omega (arith, c.ranges.first))

pub overflow_add-r : goal.overflow_add-r
overflow_add-r c = let w = c.loop-w.invariant.walked in omega (arith, w.inside, c.if-i-n.true)

pub overflow_add-end : goal.overflow_add-end
overflow_add-end c = omega (arith, walk_fits c.loop-w.invariant.walked c.if-i-n.true)

pub loop-w-smaller-then-end-to : goal.loop-w-smaller-then-end-to
loop-w-smaller-then-end-to c = omega (arith, c.if-i-n.true)

pub loop-w-preserved-then-end-to : goal.loop-w-preserved-then-end-to
loop-w-preserved-then-end-to c =
    fill_passed c.requires c.start-at.ensures c.args.own c.loop-w.invariant c.plus-to.ensures c.if-i-n.true ((let h : let a = c.args in
    c.sooner-best.result
    ≡ min c.loop-w.best
    (cond (ltb (max c.loop-w.from c.loop-w.begun) (min c.plus-to.result (c.loop-w.begun + len_from a.pool c.start-at.result c.loop-w.i)))
    (first_of_set a.keyed.now a.nulls (bit_and (get_or a.pool (c.start-at.result + c.loop-w.i) no_run).set a.own)) 8) = let a = c.args in
    c.sooner-best.ensures
    ∙ ap (λ (x : ℕ). min c.loop-w.best x)
    (c.seen.ensures
    ∙ ap₂ (λ (x y : ℕ). cond (ltb x y) (first_of_set a.keyed.now a.nulls (bit_and (get_or a.pool (c.start-at.result + c.loop-w.i) no_run).set a.own)) 8) c.later.ensures c.sooner.ensures) in h)) c.if-end-to.true

pub bounds-out-w : goal.bounds-out-w
bounds-out-w c = omega (arith, c.loop-w.invariant.filling.room, c.loop-w-test.true)

pub overflow_add-w : goal.overflow_add-w
overflow_add-w c = omega (arith, c.loop-w-test.true)

pub loop-w-smaller-else-end-to : goal.loop-w-smaller-else-end-to
loop-w-smaller-else-end-to c = omega (arith, c.loop-w.invariant.filling.room, c.loop-w-test.true)

pub loop-w-preserved-else-end-to : goal.loop-w-preserved-else-end-to
loop-w-preserved-else-end-to c =
    fill_within c.requires c.start-at.ensures c.args.own c.loop-w.invariant c.plus-to.ensures c.if-i-n.true ((let h : let a = c.args in
    c.sooner-best.result
    ≡ min c.loop-w.best
    (cond (ltb (max c.loop-w.from c.loop-w.begun) (min c.plus-to.result (c.loop-w.begun + len_from a.pool c.start-at.result c.loop-w.i)))
    (first_of_set a.keyed.now a.nulls (bit_and (get_or a.pool (c.start-at.result + c.loop-w.i) no_run).set a.own)) 8) = let a = c.args in
    c.sooner-best.ensures
    ∙ ap (λ (x : ℕ). min c.loop-w.best x)
    (c.seen.ensures
    ∙ ap₂ (λ (x y : ℕ). cond (ltb x y) (first_of_set a.keyed.now a.nulls (bit_and (get_or a.pool (c.start-at.result + c.loop-w.i) no_run).set a.own)) 8) c.later.ensures c.sooner.ensures) in h))
    (omega (arith, c.loop-w.invariant.filling.room, c.loop-w-test.true)) c.if-end-to.false

pub bounds-out-w-else-i-n : goal.bounds-out-w-else-i-n
bounds-out-w-else-i-n c = omega (arith, c.loop-w.invariant.filling.room, c.loop-w-test.true)

pub loop-w-smaller : goal.loop-w-smaller
loop-w-smaller c = omega (arith, c.loop-w.invariant.filling.room, c.loop-w-test.true)

pub loop-w-preserved : goal.loop-w-preserved
loop-w-preserved c = fill_behind c.requires c.start-at.ensures c.args.own c.loop-w.invariant c.plus-to.ensures c.if-i-n.false (omega (arith, c.loop-w.invariant.filling.room, c.loop-w-test.true))

pub shape_of-out : goal.shape_of-out
shape_of-out c = c.loop-w.invariant.filling.room

pub returns : goal.returns
returns c = fill_all c.requires c.start-at.ensures c.args.own c.loop-w.invariant c.loop-w-test.false
