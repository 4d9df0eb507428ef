-- `whole_in` meets its contract: too short a buffer, or the list in front.
use Prim.Native.Nat.{ℕ}
use mathlib.Core.Path.{refl, sym, ap, ◌∙◌}
use lib.ListN.{length}
use native.Mathlib.Omega.{arith}
use Rattle.lists.specs.Lists.{list_over, whole_list}
use Rattle.lists.proofs.ListLaws.{handed_short, handed_full}
use Rattle.tanks.specs.Looks.{shown_in}
use Rattle.ask.proofs.AskLaws.{listed_eq}
use Rattle.ask.proofs.Standing.{long_there}
use Rattle.ask.proofs.listed.whole_in.Goals as goal

pub returns-then-out-needed : goal.returns-then-out-needed
unfolding list_over
returns-then-out-needed c =
    let a = c.args in
    let v = shown_in a.heads a.pool a.table a.t a.who in
    let e = long_there a.heads a.pool a.table a.t a.who c.length_in-l.ensures in
    let h =
    handed_short 0 (whole_list v) a.out.now refl
    (omega (arith, c.if-out-needed.true, c.needed-needed.ensures, ap (λ (l : ℕ). length (list_over 1 0 l v)) e)) in
    record { value = c.refused.ensures ∙ h.0; out_after = h.1 }

pub returns : goal.returns
unfolding list_over
returns c =
    let a = c.args in
    let v = shown_in a.heads a.pool a.table a.t a.who in
    let e = long_there a.heads a.pool a.table a.t a.who c.length_in-l.ensures in
    let h =
    handed_full 0 (whole_list v) (list_over 1 0 c.length_in-l.result v) a.out.now _ _ refl (ap (λ (l : ℕ). list_over 1 0 l v) (sym e))
    (omega (arith, c.if-out-needed.false, c.needed-needed.ensures, ap (λ (l : ℕ). length (list_over 1 0 l v)) e)) c.list.ensures.out_after
    c.list.ensures.value in
    record { value = listed_eq _ _ _ c.counted.ensures.0 c.counted.ensures.1 ∙ h.0; out_after = h.1 }
