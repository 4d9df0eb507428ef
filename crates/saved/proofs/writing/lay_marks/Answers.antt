use native.Mathlib.Omega.{arith}
use Prim.Native.Nat.{ℕ}
use mathlib.Core.Path.{◌≡◌, refl, ap, subst}
use lib.ListN.{take}
use Rattle.saved.specs.Saved.{marks_text}
use Rattle.saved.specs.Saying.{newest}
use Rattle.saved.specs.Writes.{FitsMarks}
use Rattle.saved.proofs.Laying.{lays_none, lays_then, lays_more, lays_as}
use Rattle.saved.proofs.Pieces.{marks_more}
use Rattle.saved.proofs.Widths.{fits_more}
use borrow.Author.Rules.{rules}
use Rattle.saved.proofs.writing.lay_marks.Goals as goal

pub loop-j-init : goal.loop-j-init
unfolding marks_text FitsMarks
loop-j-init c = (refl, lays_none, tt)

pub loop-j-preserved : goal.loop-j-preserved
loop-j-preserved c =
    let w = c.loop-j in
    let a = c.args in
    let l = c.lay_mark-k.ensures in (
      search rules,
      lays_more (omega arith) (lays_as (marks_more newest a.table w.j (omega arith)) (lays_then w.invariant.1 l.lays)),
      fits_more a.table w.j (omega arith) w.invariant.2 l.fits_mark,
    )

pub returns : goal.returns
returns c =
    let w = c.loop-j in
    let a = c.args in
    let e : w.j ≡ a.n = omega arith in record { lays = lays_more (omega arith) (lays_as (ap (λ (i : ℕ). marks_text newest (take i a.table)) e) w.invariant.1); fits_marks = subst (λ (i : ℕ). FitsMarks (take i a.table)) e w.invariant.2 }
