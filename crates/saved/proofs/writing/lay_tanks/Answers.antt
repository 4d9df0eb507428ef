use native.Mathlib.Omega.{arith}
use Prim.Native.Nat.{ℕ}
use mathlib.Core.Path.{refl, subst}
use Rattle.tank.specs.Rules.{View, carried}
use Rattle.tank.specs.State.{view}
use Rattle.tanks.specs.House.{tank_at}
use Rattle.tanks.specs.Pool.{meaning}
use Rattle.saved.specs.Saved.{tanks_text}
use Rattle.saved.specs.Saying.{newest}
use Rattle.saved.specs.Writes.{FitsMarks, FitsHouse}
use Rattle.saved.proofs.Laying.{lays_none, lays_then, lays_more, lays_as}
use Rattle.saved.proofs.Pieces.{tanks_more, tanks_eight, tanks_all}
use Rattle.saved.proofs.Widths.{below_more}
use borrow.Author.Rules.{rules}
use Rattle.saved.proofs.writing.lay_tanks.Goals as goal

pub loop-t-init : goal.loop-t-init
unfolding tanks_text
loop-t-init c = (refl, lays_none, λ u h. absurd (omega arith))

pub lay_tank-k-requires : goal.lay_tank-k-requires
lay_tank-k-requires c = (omega arith, c.take-x.ensures.sound.formed)

pub loop-t-preserved : goal.loop-t-preserved
loop-t-preserved c =
    let w = c.loop-t in
    let s = c.args.s in
    let x = c.take-x in
    let l = c.lay_tank-k.ensures in
    let text = tanks_more newest (meaning s).tanks w.t (view x.result) (omega (arith, tanks_eight s)) x.ensures.is in (
      search rules,
      lays_more (omega arith) (lays_as text (lays_then w.invariant.1 l.lays)),
      below_more (λ (u : ℕ). FitsMarks (carried (tank_at (meaning s) u))) w.t w.invariant.2 (subst (λ (v : View). FitsMarks (carried v)) x.ensures.is l.fits_marks),
    )

pub returns : goal.returns
unfolding FitsHouse
returns c = let w = c.loop-t in record { lays = lays_more (omega arith) (lays_as (tanks_all newest c.args.s w.t (omega arith)) w.invariant.1); fits_house = λ u h. w.invariant.2 u (omega arith) }
