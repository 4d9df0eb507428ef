-- A kind and a value have one text: what is accepted is what is printed, and a NaN is not.
use Rattle.std.specs.Prelude.{Option, Some, None}
use mathlib.Core.Path.{◌≡◌, refl, sym, ap, ◌∙◌}
use mathlib.Core.Bool.{Bool, true, false, not}
use mathlib.Core.List.{List, [], ◌∷◌}
use Prim.Native.Nat.{ℕ}
use native.Mathlib.Omega.{arith}
use lib.Dec.{T, eqb}
use lib.IntN.{ℤ}
use lib.Ieee.{binary64, of_bits, is_nan}
use lib.Ieee.Bits.{to_bits-of_bits}
use lib.ListN.{length}
use borrow.Author.Tests.{eqb-true}
use Rattle.laws.proofs.Cases.{cond_cases}
use Rattle.text.specs.Bytes.{bytes, same_of}
use Rattle.text.specs.Number.{hex_of, hex_text}
use Rattle.text.specs.Signed.{signed_of}
use Rattle.text.proofs.Laws.{hex_only, hex_reads}
use Rattle.text.proofs.Integers.{integer_only}
use Rattle.text.proofs.Prefix.{same_true}
use Rattle.styles.specs.declared.Value.{Value}
use Rattle.styles.specs.Values.{value_nan}
use Rattle.script.specs.declared.Kind.{Kind}
use Rattle.script.specs.Grammar.{kind_name}
use Rattle.script.specs.Reading.{kind_among, kind_named, value_of, whole_of, decimal_of_bits}
use Rattle.script.specs.Writing.{kind_of, value_word}
use Rattle.saved.specs.Saying.{kind_said, value_said}

-- ---- a kind's name
among_only : (ks : List Kind) (t : List ℕ) (k : Kind) → kind_among ks t None ≡ Some k → t ≡ kind_name k
among_only [] t k e = let z : ◌≡◌ {A = ℕ} 0 1 = cc in absurd (omega arith)
among_only (o ∷ os) t k e =
    cond_cases (λ r. r ≡ Some k → t ≡ kind_name k) (same_of t (kind_name o)) (λ h f. let q : o ≡ k = cc in same_true t (kind_name o) h ∙ ap kind_name q) (λ h. among_only os t k) e

pub kind_only : (t : List ℕ) (k : Kind) → kind_named t ≡ Some k → t ≡ kind_name k
unfolding kind_named
kind_only t k e = among_only (Kind.Null ∷ Kind.Bool ∷ Kind.Whole ∷ Kind.Decimal ∷ []) t k e

pub kind_said_lem : (r : Option Kind) (k : Kind) → kind_said r ≡ Some k → r ≡ Some k
kind_said_lem None k e = let z : ◌≡◌ {A = ℕ} 0 1 = cc in absurd (omega arith)
kind_said_lem (Some j) k e = let q : j ≡ k = cc in ap Some q

-- ---- a value
-- what is known of a value that was read
pub record OfKind (k : Kind) (t : List ℕ) (v : Value) : Type 0 where
  pub kind : kind_of v ≡ k
  pub word : t ≡ value_word v

empty_only : (t : List ℕ) → length t ≡ 0 → t ≡ []
empty_only [] e = refl
empty_only (c ∷ cs) e = absurd (omega arith)

whole_only : (s : Option ℤ) (v : Value) → whole_of s ≡ Some v → (z : ℤ) × (s ≡ Some z) × (Value.Whole z ≡ v)
whole_only None v e = let z : ◌≡◌ {A = ℕ} 0 1 = cc in absurd (omega arith)
whole_only (Some z) v e = (z, refl, cc)

decimal_only : (p : Option ℕ) (v : Value) → decimal_of_bits p ≡ Some v → (n : ℕ) × (p ≡ Some n) × (Value.Decimal (of_bits binary64 n) ≡ v)
decimal_only None v e = let z : ◌≡◌ {A = ℕ} 0 1 = cc in absurd (omega arith)
decimal_only (Some n) v e = (n, refl, cc)

no_nan : (b : Bool) → b ≡ false → T (not b)
no_nan true e = let z : ◌≡◌ {A = ℕ} 0 1 = cc in absurd (omega arith)
no_nan false e = tt

pub value_only : (k : Kind) (t : List ℕ) (v : Value) → value_of k t ≡ Some v → value_nan v ≡ false → OfKind k t v
unfolding value_of
value_only Kind.Null t v e h =
    cond_cases (λ r. r ≡ Some v → OfKind Kind.Null t v) (eqb (length t) 0)
    (λ b f. let q : Value.Null ≡ v = cc in rw (← q) record { kind = refl; word = empty_only t (eqb-true _ _ b) })
    (λ b f. let z : ◌≡◌ {A = ℕ} 0 1 = cc in absurd (omega arith))
    e
value_only Kind.Bool t v e h =
    cond_cases (λ r. r ≡ Some v → OfKind Kind.Bool t v) (same_of t (bytes "0"))
    (λ b f. let q : Value.Flag false ≡ v = cc in rw (← q) record { kind = refl; word = same_true t (bytes "0") b })
    (λ b. cond_cases (λ r. r ≡ Some v → OfKind Kind.Bool t v) (same_of t (bytes "1"))
    (λ b f. let q : Value.Flag true ≡ v = cc in rw (← q) record { kind = refl; word = same_true t (bytes "1") b })
    (λ b f. let z : ◌≡◌ {A = ℕ} 0 1 = cc in absurd (omega arith)))
    e
value_only Kind.Whole t v e h =
    let w = whole_only (signed_of t) v e in
    rw (← w.2) record { kind = refl; word = integer_only t w.0 w.1 }
value_only Kind.Decimal t v e h =
    let w = decimal_only (hex_of t) v e in
    let g : is_nan (of_bits binary64 w.0) ≡ false = ap value_nan w.2 ∙ h in
    let s = (hex_reads t w.0 w.1).1 in
    rw (← w.2) record {
      kind = refl;
      word = hex_only t w.0 w.1 ∙ ap hex_text (sym (to_bits-of_bits binary64 w.0 s (no_nan (is_nan (of_bits binary64 w.0)) g)));
    }

pub value_said_lem : (r : Option Value) (v : Value) → value_said r ≡ Some v → (r ≡ Some v) × (value_nan v ≡ false)
value_said_lem None v e = let z : ◌≡◌ {A = ℕ} 0 1 = cc in absurd (omega arith)
value_said_lem (Some w) v e =
    cond_cases (λ r. r ≡ Some v → (Some w ≡ Some v) × (value_nan v ≡ false)) (value_nan w)
    (λ b f. let z : ◌≡◌ {A = ℕ} 0 1 = cc in absurd (omega arith))
    (λ b f. let q : w ≡ v = cc in (ap Some q, ap value_nan (sym q) ∙ b))
    e
