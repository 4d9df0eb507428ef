-- The readers are exact: what is accepted is what is printed of its answer, and what is printed is accepted.
use Rattle.std.specs.Prelude.{Option, Some, None}
use mathlib.Core.Path.{◌≡◌, refl, ap, ◌∙◌}
use mathlib.Core.Bool.{Bool, true, false, cond}
use mathlib.Core.List.{List, [], ◌∷◌, ◌++◌}
use Prim.Native.Nat.{ℕ, suc, ◌+◌, ◌^◌, ◌≤◌, ◌<◌}
use native.Mathlib.Omega.{arith}
use lib.Dec.{T, leb}
use lib.Ieee.{Float, binary64, to_bits, fits}
use lib.Ieee.Bits.{to_bits-lt, of_bits-to_bits}
use lib.IntN.{ℤ}
use lib.ListN.{length, get_or, drop}
use lib.Seq.{drop-append_seam}
use borrow.Author.Tests.{le-leb, leb-true}
use mir.Syntax.{w32, w64}
use mir.Val.{SFits}
use Rattle.laws.proofs.Cases.{cond_cases}
use Rattle.text.specs.Signed.{signed32_of, signed_text}
use Rattle.text.specs.Number.{decimal_of, decimal_text}
use Rattle.text.specs.Bytes.{starts_of, same_of}
use Rattle.text.proofs.Laws.{passed, decimal_back, decimal_only, hex_back}
use Rattle.text.proofs.Integers.{integer_back, integer32_only, integer32_back}
use Rattle.text.proofs.Prefix.{starts_split, split_starts, same_true}
use Rattle.styles.specs.declared.Value.{Value}
use Rattle.script.specs.Grammar.{Field, OpRow, no_row, ops, row_at}
use Rattle.script.specs.Reading.{after_name, within_of, number_of, op_from, op_named, value_of}
use Rattle.script.specs.Writing.{kind_of, value_word}

-- ---- a field's number
within_only : (p : Option ℕ) (most n : ℕ) → within_of most p ≡ Some n → (p ≡ Some n) × (n ≤ most)
within_only None most n e = let z : ◌≡◌ {A = ℕ} 0 1 = cc in absurd (omega arith)
within_only (Some k) most n e =
    let o = passed (leb k most) n (Some k) e in
    let q : k ≡ n = cc o.1 in
    (o.1, omega (arith, leb-true k most o.0))

-- a line is accepted only where it is the field's name and the number's decimal text, and the number is in width
pub number_only : (f : Field) (most n : ℕ) (line : List ℕ) → number_of f most line ≡ Some n → (line ≡ f.name ++ decimal_text n) × (n ≤ most)
unfolding number_of
number_only f most n line e =
    let s = passed (starts_of line f.name) n (within_of most (decimal_of (drop (length f.name) line))) e in
    let w = within_only (decimal_of (drop (length f.name) line)) most n s.1 in
    (starts_split line f.name s.0 ∙ ap (λ (t : List ℕ). f.name ++ t) (decimal_only (drop (length f.name) line) n w.0), w.1)

-- and every such line is
pub number_back : (f : Field) (most n : ℕ) → n ≤ most → n < 2 ^ 64 → number_of f most (f.name ++ decimal_text n) ≡ Some n
unfolding number_of
number_back f most n h k =
    ap (λ (b : Bool). cond b (within_of most (decimal_of (drop (length f.name) (f.name ++ decimal_text n)))) None) (split_starts f.name (decimal_text n))
    ∙ ap (λ (t : List ℕ). within_of most (decimal_of t)) (drop-append_seam f.name (decimal_text n))
    ∙ ap (within_of most) (decimal_back n k)
    ∙ ap (λ (b : Bool). cond b (Some n) None) (le-leb n most h)

-- ---- a field's counter
-- a line is accepted only where it is the field's name and the counter's text
pub counter_only : (f : Field) (z : ℤ) (line : List ℕ) → after_name f None signed32_of line ≡ Some z → line ≡ f.name ++ signed_text z
counter_only f z line e =
    cond_cases (λ s. s ≡ Some z → line ≡ f.name ++ signed_text z) (starts_of line f.name)
    (λ h g. starts_split line f.name h ∙ ap (λ (t : List ℕ). f.name ++ t) (integer32_only (drop (length f.name) line) z g))
    (λ h g. let y : ◌≡◌ {A = ℕ} 0 1 = cc in absurd (omega arith))
    e

-- and every such line is, where 32 bits hold it
pub counter_back : (f : Field) (z : ℤ) → SFits w32 z → after_name f None signed32_of (f.name ++ signed_text z) ≡ Some z
counter_back f z h =
    ap (λ (b : Bool). cond b (signed32_of (drop (length f.name) (f.name ++ signed_text z))) None) (split_starts f.name (signed_text z))
    ∙ ap signed32_of (drop-append_seam f.name (signed_text z))
    ∙ integer32_back z h

-- ---- an op's name
from_only : (rs : List OpRow) (i : ℕ) (t : List ℕ) (n : ℕ) → op_from i rs t ≡ Some n → (k : ℕ) × ((n ≡ i + k) × (t ≡ (get_or rs k no_row).name))
from_only [] i t n e = let z : ◌≡◌ {A = ℕ} 0 1 = cc in absurd (omega arith)
from_only (r ∷ rs) i t n e =
    cond_cases (λ x. x ≡ Some n → (k : ℕ) × ((n ≡ i + k) × (t ≡ (get_or (r ∷ rs) k no_row).name))) (same_of t r.name)
    (λ h f. let q : i ≡ n = cc in (0, (omega arith, same_true t r.name h)))
    (λ h f. let w = from_only rs (suc i) t n f in (suc w.0, (omega (arith, w.1.0), w.1.1)))
    e

-- a text is an op only where it is the op's name; that every name is known is shown in Tests
pub op_only : (t : List ℕ) (n : ℕ) → op_named t ≡ Some n → t ≡ (row_at n).name
unfolding op_named
op_only t n e =
    let w = from_only ops 1 t n e in
    let q : suc w.0 ≡ n = omega (arith, w.1.0) in
    w.1.1 ∙ ap (λ (i : ℕ). (row_at i).name) q

-- ---- a value
-- a value that 64 bits hold
unfoldable pub Fitting : Value → Type 0
Fitting Value.Null = Unit {0}
Fitting (Value.Flag b) = Unit {0}
Fitting (Value.Whole z) = SFits w64 z
Fitting (Value.Decimal x) = T (fits binary64 x)

-- what is printed of a value reads back as the value
pub value_back : (v : Value) → Fitting v → value_of (kind_of v) (value_word v) ≡ Some v
unfolding value_of Fitting same_of starts_of
value_back Value.Null h = refl
value_back (Value.Flag true) h = refl
value_back (Value.Flag false) h = refl
value_back (Value.Whole z) h = rw (integer_back z h)
value_back (Value.Decimal x) h = rw (hex_back (to_bits binary64 x) (to_bits-lt binary64 x h)) (ap (λ (y : Float). Some (Value.Decimal y)) (of_bits-to_bits binary64 x h))
