-- By one test, whether the bits are a NaN's.
use mathlib.Core.Path.{◌≡◌, refl, sym, ◌∙◌, subst}
use mathlib.Core.Bool.{Bool, true, false, not}
use Prim.Native.Nat.{ℕ, ◌%◌, ◌^◌, ◌<◌, ◌≤◌}
use lib.Bits.{and_mask}
use lib.Dec.{T, ltb}
use lib.Ieee.{nan, binary64, of_bits, div}
use lib.Ieee.Bits.{nan_bits_above, nan_bits_is}
use borrow.Author.Tests.{lt-ltb, le-ltb}
use Rattle.styles.proofs.Floats.{nan_of}
use Rattle.script.proofs.values.of_bits.Goals as goal

none-by-none : div binary64 (of_bits binary64 0) (of_bits binary64 0) ≡ nan
unfolding div of_bits
none-by-none = refl

pub returns-then-m-gt9218868437227405312 : goal.returns-then-m-gt9218868437227405312
returns-then-m-gt9218868437227405312 c =
    let n = c.args.n in
    let h : ltb 0x7ff0_0000_0000_0000 (n % 2 ^ 63) ≡ true = lt-ltb _ _ (subst (λ (k : ℕ). 0x7ff0_0000_0000_0000 < k) (and_mask n 63) c.if-m-gt9218868437227405312.true) in
    none-by-none ∙ sym (nan_of (of_bits binary64 n) (sym (nan_bits_is binary64 n) ∙ nan_bits_above binary64 n ∙ h))

pub float_from_bits-result : goal.float_from_bits-result
float_from_bits-result c =
    let n = c.args.n in
    let h : ltb 0x7ff0_0000_0000_0000 (n % 2 ^ 63) ≡ false = le-ltb _ _ (subst (λ (k : ℕ). k ≤ 0x7ff0_0000_0000_0000) (and_mask n 63) c.if-m-gt9218868437227405312.false) in
    subst (λ (b : Bool). T (not b)) (sym (nan_bits_above binary64 n ∙ h)) tt
