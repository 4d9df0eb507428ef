use Rattle.std.proofs.Common.{◌≡◌, length, take, sym, ◌∙◌, subst, arith, rules}
use Rattle.styles.specs.Marks.{value_is, blank}
use Rattle.styles.specs.Bits.{MaskOf}
use Rattle.styles.proofs.MaskLaws.{mask_is, mask_end, mask_turn, mask_fits}
use Rattle.styles.proofs.table.value_bits.Goals as goal

pub loop-i-init : goal.loop-i-init
loop-i-init c = sym (mask_end (value_is c.args.value) c.args.table c.args.n)

pub overflow_mul-out : goal.overflow_mul-out
overflow_mul-out c =
    let a = c.args in
    let long : length a.table ≡ 64 = search rules in
    omega (arith, mask_fits (value_is a.value) a.table a.n c.loop-i.i blank (omega arith) (omega arith) (omega arith) (omega arith))

pub overflow_add-out : goal.overflow_add-out
overflow_add-out c =
    let a = c.args in
    let long : length a.table ≡ 64 = search rules in
    omega (arith, mask_fits (value_is a.value) a.table a.n c.loop-i.i blank (omega arith) (omega arith) (omega arith) (omega arith))

pub loop-i-preserved-then-shows_as : goal.loop-i-preserved-then-shows_as
loop-i-preserved-then-shows_as c =
    let a = c.args in
    let long : length a.table ≡ 64 = search rules in
    let e = mask_turn (value_is a.value) a.table a.n c.loop-i.i blank (omega arith) (omega arith) (omega arith) (omega arith) in
    omega (arith, rw (sym c.shows_as.ensures ∙ c.if-shows_as.true) at e)

pub loop-i-preserved : goal.loop-i-preserved
loop-i-preserved c =
    let a = c.args in
    let long : length a.table ≡ 64 = search rules in
    let e = mask_turn (value_is a.value) a.table a.n c.loop-i.i blank (omega arith) (omega arith) (omega arith) (omega arith) in
    omega (arith, rw (sym c.shows_as.ensures ∙ c.if-shows_as.false) at e)

pub returns : goal.returns
returns c =
    let e : c.loop-i.i ≡ 0 = omega arith in
    let a = c.args in
    subst (MaskOf (value_is a.value) (take a.n a.table)) (sym (rw e at c.loop-i.invariant)) (mask_is (value_is a.value) (take a.n a.table))
