-- The zeros above the highest bit tell its place.
use Rattle.std.proofs.Common.{◌≡◌, ◌-◌, add-one, arith}
use lib.Count.{count_leading_zeros, leading_le, leading_top}
use Rattle.styles.proofs.bits.highest.Goals as goal

pub overflow_cast-z : goal.overflow_cast-z
overflow_cast-z c = omega (arith, leading_le 64 c.args.set)

pub overflow_sub-result : goal.overflow_sub-result
overflow_sub-result c = let t = leading_top 64 c.args.set (omega arith) (omega arith) in omega (arith, t.1)

pub returns : goal.returns
returns c =
    let t = leading_top 64 c.args.set (omega arith) (omega arith) in
    let e : 63 - count_leading_zeros 64 c.args.set ≡ t.0 = omega (arith, t.1) in
    rw (e, add-one t.0) (omega (arith, t.1), t.2, t.3)
