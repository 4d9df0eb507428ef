use Prim.Native.Nat.{ℕ, suc, ◌-◌, ◌/◌, ◌%◌, ◌^◌, ◌≤◌, ◌<◌}
use mathlib.Core.Path.{◌≡◌, sym, ap, ◌∙◌, subst}
use mathlib.Core.Logic.{◌≢◌}
use native.Mathlib.Omega.{arith}
use lib.Bits.{bit_and}
use lib.ListN.{get_or}
use Rattle.styles.specs.Bits.{close_bit, Squeezed}
use Rattle.styles.proofs.SqueezeLaws.{partly, partly_none, partly_all, partly_set, partly_clear}
use Rattle.runs.proofs.MapLaws.{renumber_self, renumber_then}
use Rattle.runs.proofs.sets.squeeze_sets.Goals as goal

-- a set within a mask that ends below w is as it was
kept_whole : (w mask s u : ℕ) → mask < 2 ^ w → u ≡ bit_and s mask → u ≡ partly w mask u
kept_whole w mask s u h e = subst (λ (x : ℕ). x ≡ partly w mask x) (sym e) (sym (partly_none w mask s h))

-- a turn at the bit i - 1
down-set : (mask i x r : ℕ) → 0 < i → i ≤ 64 → mask / 2 ^ (i - 1) % 2 ≢ 0 → r ≡ partly i mask x → r ≡ partly (i - 1) mask x
down-set mask i x r p l h e =
    let f : suc (i - 1) ≡ i = omega arith in
    let g : mask / 2 ^ (i - 1) % 2 ≡ 1 = omega (arith, h) in
    e ∙ sym (rw f at (partly_set mask x (i - 1) (omega arith) g))

down-clear : (mask i x y r : ℕ) → 0 < i → i ≤ 64 → mask / 2 ^ (i - 1) % 2 ≡ 0 → y ≡ partly i mask x → r ≡ close_bit (i - 1) y → r ≡ partly (i - 1) mask x
down-clear mask i x y r p l h e g =
    let f : suc (i - 1) ≡ i = omega arith in
    g ∙ ap (close_bit (i - 1)) e ∙ sym (rw f at (partly_clear mask x (i - 1) (omega arith) h))

pub loop-i-init : goal.loop-i-init
loop-i-init c =
    let k = c.keep_sets.ensures in
    let a = c.args in
    renumber_self _ a.n _ (λ j h. kept_whole c.width-i.result a.mask (get_or a.sets.now j 0) (get_or c.keep_sets.new.sets j 0) c.width-i.ensures.1 (k.front j h))

pub loop-i-preserved-then-mask-i-eq0 : goal.loop-i-preserved-then-mask-i-eq0
loop-i-preserved-then-mask-i-eq0 c =
    let a = c.args in
    let most = c.width-i.ensures.0 in
    renumber_then (λ x y z e g. down-clear a.mask c.loop-i.i x y z (omega arith) (omega arith) c.if-mask-i-eq0.true e g)
    c.loop-i.invariant
    c.close_sets.ensures

pub loop-i-preserved : goal.loop-i-preserved
loop-i-preserved c =
    let a = c.args in
    let s = c.loop-i.invariant in
    let most = c.width-i.ensures.0 in
    record {
      front = λ j h. down-set a.mask c.loop-i.i _ _ (omega arith) (omega arith) c.if-mask-i-eq0.false (s.front j h);
      rest = s.rest;
      kept = s.kept;
    }

pub shape_of-sets : goal.shape_of-sets
shape_of-sets c =
    let k = c.keep_sets.ensures in
    c.loop-i.invariant.kept ∙ k.kept

pub returns : goal.returns
returns c =
    let a = c.args in
    let k = c.keep_sets.ensures in
    let l = c.loop-i in
    let e : l.i ≡ 0 = omega arith in
    renumber_then (λ x y z f g. subst (Squeezed a.mask x) (sym (g ∙ rw (e, f))) (partly_all a.mask x (omega arith))) k l.invariant
