-- A test by a mask of one bit is the test of that bit. Assumes nothing.
use mathlib.Core.Path.{◌≡◌, ap, ◌∙◌}
use mathlib.Core.Bool.{not}
use Prim.Native.Nat.{ℕ, zero, suc, ◌+◌, ◌-◌, ◌*◌, ◌/◌, ◌%◌, ◌^◌, ◌<◌}
use native.Mathlib.Omega.{arith}
use native.Mathlib.Nat.{zero-mul, one-mul, pow-suc}
use lib.Bits.{bit_and, and_high}
use lib.Dec.{eqb}
use lib.Pow.{pow_pos, pow-add}
use borrow.Author.Tests.{ne_eqb}

-- one bit, times its weight, is zero exactly when the bit is
weighed : (d p : ℕ) → d < 2 → 0 < p → not (eqb (d * p) 0) ≡ eqb d 1
weighed zero p h k = rw zero-mul
weighed (suc zero) p h k = rw (one-mul p, ne_eqb p 0 (λ e. omega arith))
weighed (suc (suc d)) p h k = absurd (omega arith)

pub mask_bit : (i n : ℕ) → not (eqb (bit_and n (2 ^ i)) 0) ≡ eqb (n / 2 ^ i % 2) 1
mask_bit i n =
    let d : 2 ^ i ≡ 2 ^ (1 + i) - 2 ^ i = omega (arith, pow-suc 2 i, pow-add 2 1 i) in
    let e : bit_and n (2 ^ i) ≡ n / 2 ^ i % 2 * 2 ^ i = ap (bit_and n) d ∙ and_high n 1 i in
    rw e (weighed (n / 2 ^ i % 2) (2 ^ i) (omega arith) (pow_pos i))
