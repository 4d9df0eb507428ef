-- Too short a buffer, or the text in front.
use native.Mathlib.Omega.{arith}
use mathlib.Core.Path.{refl, sym, ◌∙◌}
use Prim.Native.Nat.{◌≤◌}
use borrow.Author.Tests.{ltb-true, ltb-false}
use lib.ListN.{length}
use Rattle.lists.proofs.ListLaws.{handed_short, handed_full}
use Rattle.tanks.specs.Pool.{meaning}
use Rattle.saved.specs.Writes.{written}
use Rattle.saved.proofs.Laying.{laid_front}
use Rattle.saved.proofs.Widths.{written_back}
use Rattle.saved.proofs.writing.write.Goals as goal

pub returns-then-short : goal.returns-then-short
returns-then-short c =
    let a = c.args in
    let t = written (meaning a.s) in
    let h = handed_short 0 t a.out.now refl (ltb-true (length a.out.now) (length t) (sym c.short.ensures ∙ c.if-short.true)) in
    record { value = h.0; out_after = h.1; said_again = λ e. absurd (omega (arith, e)) }

pub returns : goal.returns
returns c =
    let a = c.args in
    let l = c.lay_all-count.ensures in
    let t = written (meaning a.s) in
    let room : length t ≤ length a.out.now = ltb-false (length a.out.now) (length t) (sym c.short.ensures ∙ c.if-short.false) in
    let h = handed_full 0 t t a.out.now c.lay_all-count.new.out c.lay_all-count.result refl refl room (l.lays.text ∙ laid_front a.out.now t room) (omega (arith, l.lays.place)) in
    record { value = h.0; out_after = h.1; said_again = λ e. written_back a.s c.requires l.fits_house }
