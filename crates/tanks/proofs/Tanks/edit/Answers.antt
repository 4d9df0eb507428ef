-- What an edit shows is made a set.
use Prim.Native.Nat.{ℕ}
use mathlib.Core.Path.{sym, ap, subst, ◌∙◌}
use lib.ListN.{get_or, take}
use Rattle.std.proofs.lemmas.Result.{err_from_is_err_and}
use Rattle.styles.specs.declared.Styles.{Styles}
use Rattle.styles.specs.Answers.{styles_of}
use Rattle.styles.specs.Bits.{pick}
use Rattle.tanks.specs.Pool.{no_head, no_table}
use Rattle.tanks.specs.Promises.{edit_of, DoneAt}
use Rattle.tanks.proofs.PartsLaws.{bits_fit}
use Rattle.tanks.proofs.Tanks.edit.Goals as goal

pub returns-in_err-shown : goal.returns-in_err-shown
returns-in_err-shown c =
    let p = err_from_is_err_and c.from_residual.result c.from_residual.ensures.1 in
    rw (p.1, p.2) c.in_err-shown.ensures.done

pub styles_of-styles-requires : goal.styles_of-styles-requires
styles_of-styles-requires c = bits_fit c.args.self.now c.args.tank c.place-t.result c.place-t.ensures.0 c.requires c.in_ok-shown.shown.bits c.in_ok-shown.ensures.fits

pub returns : goal.returns
returns c =
    let s = c.args.self.now in
    let shown = c.in_ok-shown.shown in
    let place = ap (λ (k : ℕ). styles_of (pick (take (get_or s.heads k no_head).marks (get_or s.tables k no_table).marks) shown.bits)) c.place-t.ensures.0 in
    subst (λ (m : Styles). DoneAt s c.args.tank (edit_of c.args.call) (record { tanks = c.apply.new.self; number = 0; styles = m; first = shown.first }))
    (sym (c.styles_of-styles.ensures ∙ place)) c.in_ok-shown.ensures.done
