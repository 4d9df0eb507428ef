use Prim.Native.Nat.{◌<◌}
use mathlib.Core.Path.{refl, ap}
use lib.Count.{ones}
use native.Mathlib.Omega.{arith}
use borrow.Author.Rules.{rules}
use Rattle.styles.specs.Bits.{without_bit}
use Rattle.styles.proofs.CountLaws.{lowest_fewer, without_le}
use Rattle.lists.proofs.CursorLaws.{lowest_in}
use Rattle.answers.specs.Replies.{anchor_says}
use Rattle.answers.proofs.Laws.{left_all, left_more, left_none, adds_as}
use Rattle.clerk.proofs.Lists.{side_more, side_none}
use Rattle.clerk.proofs.borders.put_side.Goals as goal

pub loop-left-init : goal.loop-left-init
loop-left-init c = (refl, omega arith, left_all _ _ _)

pub offset_bounds-marks-i : goal.offset_bounds-marks-i
offset_bounds-marks-i c =
    omega (
      arith,
      (let h : c.lowest-i.result < 64 = let l = c.loop-left in
          omega (arith, c.lowest-i.ensures.0, lowest_in 64 l.left (omega arith) l.invariant.1 c.loop-left-test.true) in h),
    )

pub bounds-marks-i : goal.bounds-marks-i
bounds-marks-i c =
    omega (
      arith,
      (let h : c.lowest-i.result < 64 = let l = c.loop-left in
          omega (arith, c.lowest-i.ensures.0, lowest_in 64 l.left (omega arith) l.invariant.1 c.loop-left-test.true) in h),
    )

pub loop-left-smaller : goal.loop-left-smaller
loop-left-smaller c =
    let l = c.loop-left in
    omega (
      arith,
      ap ones c.without_bit-left.ensures,
      ap (λ x. ones (without_bit x l.left)) c.lowest-i.ensures.0,
      lowest_fewer 64 l.left (lowest_in 64 l.left (omega arith) l.invariant.1 c.loop-left-test.true),
    )

pub loop-left-preserved : goal.loop-left-preserved
loop-left-preserved c =
    let l = c.loop-left in
    let e = c.args in (
      search rules,
      omega (arith, l.invariant.1, c.without_bit-left.ensures, without_le c.lowest-i.result l.left),
      left_more
          (side_more e.table.marks e.pos e.side l.left c.lowest-i.result c.without_bit-left.result c.requires.0 l.invariant.1 c.loop-left-test.true c.lowest-i.ensures.0 c.without_bit-left.ensures)
          (adds_as (ap anchor_says c.mark_anchor.ensures) c.put_anchor-k.ensures)
          l.invariant.2,
    )

pub returns : goal.returns
returns c =
    let l = c.loop-left in
    let e = c.args in
    left_none (side_none e.table.marks e.pos e.side l.left (omega (arith, c.loop-left-test.false))) l.invariant.2
