use Rattle.std.proofs.Common.{◌≡◌, ◌-◌, length, get_or, take, sym, subst, arith, eq-eqb, ne_eqb}
use Rattle.styles.specs.Marks.{key_is, blank}
use Rattle.styles.specs.Bits.{MaskOf}
use Rattle.styles.proofs.MaskLaws.{mask_is, mask_end, mask_turn, mask_fits}
use Rattle.std.proofs.Common.{rules}
use Rattle.styles.proofs.table.key_bits.Goals as goal

pub loop-i-init : goal.loop-i-init
loop-i-init c = sym (mask_end (key_is c.args.key) c.args.table c.args.n)

pub overflow_mul-out : goal.overflow_mul-out
overflow_mul-out c =
    let a = c.args in
    let long : length a.table ≡ 64 = search rules in
    omega (arith, mask_fits (key_is a.key) a.table a.n c.loop-i.i blank (omega arith) (omega arith) (omega arith) (omega arith))

pub overflow_add-out : goal.overflow_add-out
overflow_add-out c =
    let a = c.args in
    let long : length a.table ≡ 64 = search rules in
    omega (arith, mask_fits (key_is a.key) a.table a.n c.loop-i.i blank (omega arith) (omega arith) (omega arith) (omega arith))

pub loop-i-preserved-then-table-i : goal.loop-i-preserved-then-table-i
loop-i-preserved-then-table-i c =
    let a = c.args in
    let long : length a.table ≡ 64 = search rules in
    let e = mask_turn (key_is a.key) a.table a.n c.loop-i.i blank (omega arith) (omega arith) (omega arith) (omega arith) in
    omega (arith, rw (eq-eqb (get_or a.table (c.loop-i.i - 1) blank).key a.key c.if-table-i.true) at e)

pub loop-i-preserved : goal.loop-i-preserved
loop-i-preserved c =
    let a = c.args in
    let long : length a.table ≡ 64 = search rules in
    let e = mask_turn (key_is a.key) a.table a.n c.loop-i.i blank (omega arith) (omega arith) (omega arith) (omega arith) in
    omega (arith, rw (ne_eqb (get_or a.table (c.loop-i.i - 1) blank).key a.key c.if-table-i.false) at e)

pub returns : goal.returns
returns c =
    let e : c.loop-i.i ≡ 0 = omega arith in
    let a = c.args in
    subst (MaskOf (key_is a.key) (take a.n a.table)) (sym (rw e at c.loop-i.invariant)) (mask_is (key_is a.key) (take a.n a.table))
