use Rattle.std.proofs.Common.{◌≡◌, length, take, sym, ◌∙◌, subst, arith, rules}
use Rattle.styles.specs.Marks.{is_of, blank}
use Rattle.styles.specs.Bits.{MaskOf}
use Rattle.styles.proofs.MaskLaws.{mask_is, mask_end, mask_turn, mask_fits}
use Rattle.styles.proofs.table.party_bits.Goals as goal

pub loop-i-init : goal.loop-i-init
loop-i-init c = sym (mask_end (is_of c.args.who) c.args.table c.args.n)

pub overflow_mul-out : goal.overflow_mul-out
overflow_mul-out c =
    let a = c.args in
    let long : length a.table ≡ 64 = search rules in
    omega (arith, mask_fits (is_of a.who) a.table a.n c.loop-i.i blank (omega arith) (omega arith) (omega arith) (omega arith))

pub overflow_add-out : goal.overflow_add-out
overflow_add-out c =
    let a = c.args in
    let long : length a.table ≡ 64 = search rules in
    omega (arith, mask_fits (is_of a.who) a.table a.n c.loop-i.i blank (omega arith) (omega arith) (omega arith) (omega arith))

pub loop-i-preserved-then-same_party : goal.loop-i-preserved-then-same_party
loop-i-preserved-then-same_party c =
    let a = c.args in
    let long : length a.table ≡ 64 = search rules in
    let e = mask_turn (is_of a.who) a.table a.n c.loop-i.i blank (omega arith) (omega arith) (omega arith) (omega arith) in
    omega (arith, rw (sym c.same_party.ensures ∙ c.if-same_party.true) at e)

pub loop-i-preserved : goal.loop-i-preserved
loop-i-preserved c =
    let a = c.args in
    let long : length a.table ≡ 64 = search rules in
    let e = mask_turn (is_of a.who) a.table a.n c.loop-i.i blank (omega arith) (omega arith) (omega arith) (omega arith) in
    omega (arith, rw (sym c.same_party.ensures ∙ c.if-same_party.false) at e)

pub returns : goal.returns
returns c =
    let e : c.loop-i.i ≡ 0 = omega arith in
    let a = c.args in
    subst (MaskOf (is_of a.who) (take a.n a.table)) (sym (rw e at c.loop-i.invariant)) (mask_is (is_of a.who) (take a.n a.table))
