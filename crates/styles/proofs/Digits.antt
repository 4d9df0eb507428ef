-- Sets by their bits: those of an OR and of an AND, two sets with the same bits, and one set within another.
use Rattle.std.proofs.Common.{◌≡◌, ℕ, zero, suc, ◌+◌, ◌/◌, ◌%◌, ◌^◌, ◌<◌, ◌≤◌, min, max, sym, ap, ◌∙◌, pow-suc, div-one, arith, pow_mono, eq-eqb, ne_eqb, eqb-true}
use native.Mathlib.Nat.{zero-div}
use native.Mathlib.Decide.{ℕ_discrete}
use borrow.Author.Tests.{eqb-false}
use lib.Bits.{bit_and, bit_or, or_step, and_step, or_shr, and_shr}
use Rattle.styles.specs.Bits.{has_bit}
use Rattle.styles.proofs.BitLaws.{half_shr}

-- bit i of s, as 0 or 1
abbrev pub digit : ℕ → ℕ → ℕ
digit s i = s / 2 ^ i % 2

pub or_low : (a b : ℕ) → bit_or a b % 2 ≡ max (a % 2) (b % 2)
or_low a b = omega (arith, or_step a b)

and_low : (a b : ℕ) → bit_and a b % 2 ≡ min (a % 2) (b % 2)
and_low a b = omega (arith, and_step a b)

pub or_digit : (a b i : ℕ) → digit (bit_or a b) i ≡ max (digit a i) (digit b i)
or_digit a b i = ap (λ (x : ℕ). x % 2) (or_shr a b i) ∙ or_low (a / 2 ^ i) (b / 2 ^ i)

pub and_digit : (a b i : ℕ) → digit (bit_and a b) i ≡ min (digit a i) (digit b i)
and_digit a b i = ap (λ (x : ℕ). x % 2) (and_shr a b i) ∙ and_low (a / 2 ^ i) (b / 2 ^ i)

pub digit_none : (i : ℕ) → digit 0 i ≡ 0
digit_none i = ap (λ (x : ℕ). x % 2) (zero-div (2 ^ i))

-- ---- two sets with the same bits are one
pub below_pow : (n : ℕ) → n < 2 ^ n
below_pow zero = omega arith
below_pow (suc n) = omega (arith, below_pow n, pow-suc 2 n)

ext_below : (k a b : ℕ) → a < 2 ^ k → b < 2 ^ k → ((i : ℕ) → i < k → digit a i ≡ digit b i) → a ≡ b
ext_below zero a b h g e = omega arith
ext_below (suc k) a b h g e =
    let p = pow-suc 2 k in
    let rest : a / 2 ≡ b / 2 =
    ext_below k (a / 2) (b / 2) (omega arith) (omega arith)
    (λ i l. ap (λ (x : ℕ). x % 2) (sym (half_shr a i)) ∙ e (suc i) (omega arith) ∙ ap (λ (x : ℕ). x % 2) (half_shr b i))
    in
    omega (arith, e 0 (omega arith), div-one a, div-one b)

pub digits_ext : (a b : ℕ) → ((i : ℕ) → digit a i ≡ digit b i) → a ≡ b
digits_ext a b e =
    ext_below (a + b) a b (omega (arith, below_pow a, pow_mono {i = a} {j = a + b} (omega arith)))
    (omega (arith, below_pow b, pow_mono {i = b} {j = a + b} (omega arith)))
    (λ i l. e i)

-- below 2 ^ k the bits below k are enough
one_digit : (s u i : ℕ) → has_bit i s ≡ has_bit i u → digit s i ≡ digit u i
one_digit s u i e =
    elim (ℕ_discrete (digit u i) 1) [
      | yes g ↦ eqb-true (digit s i) 1 (e ∙ eq-eqb (digit u i) 1 g) ∙ sym g
      | no g ↦ let f = eqb-false (digit s i) 1 (e ∙ ne_eqb (digit u i) 1 g) in omega arith
    ]

pub same_bits : (k s u : ℕ) → s < 2 ^ k → u < 2 ^ k → ((i : ℕ) → i < k → has_bit i s ≡ has_bit i u) → s ≡ u
same_bits k s u h g e = ext_below k s u h g (λ i l. one_digit s u i (e i l))

-- ---- a set within another: each of its bits is there
pub within_digit : (a b : ℕ) → bit_and a b ≡ a → (i : ℕ) → digit a i ≤ digit b i
within_digit a b e i = omega (arith, and_digit a b i, ap (λ (x : ℕ). digit x i) e)

pub digit_within : (a b : ℕ) → ((i : ℕ) → digit a i ≤ digit b i) → bit_and a b ≡ a
digit_within a b h = digits_ext (bit_and a b) a (λ i. omega (arith, and_digit a b i, h i))

-- a set within another adds nothing to it
pub or_within : (a b : ℕ) → bit_and a b ≡ a → bit_or a b ≡ b
or_within a b e = digits_ext (bit_or a b) b (λ i. omega (arith, or_digit a b i, within_digit a b e i))
