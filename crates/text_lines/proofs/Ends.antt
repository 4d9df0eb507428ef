-- A text up to its first newline, and the text behind it: a text with no newline in it, a newline, and more.
use mathlib.Core.Path.{◌≡◌, refl, sym, ap, ◌∙◌}
use mathlib.Core.Bool.{true, false, true≢false}
use mathlib.Core.List.{List, [], ◌∷◌, ◌++◌}
use Prim.Native.Nat.{ℕ, zero, suc, ◌+◌, ◌%◌, ◌/◌, ◌≤◌, ◌<◌}
use native.Mathlib.Decide.{ℕ_discrete, dec_lt}
use native.Mathlib.Omega.{arith}
use lib.ListN.{length, drop}
use borrow.Author.Tests.{ltb-true}
use Rattle.io.specs.Digits.{hex_digit_ascii, last_digits}
use Rattle.text.specs.Bytes.{up_to, holds}
use Rattle.text.specs.Number.{decimal_text, places_from, hex_text}
use Rattle.text.proofs.Finding.{front_here, front_past, held_here, held_past, held_by_length}
use Rattle.text.proofs.Steps.{glyph_low, glyph_high}

none_cons : (c : ℕ) (cs : List ℕ) → holds 10 (c ∷ cs) ≡ false → (c ≡ 10 → ⊥) × (holds 10 cs ≡ false)
none_cons c cs e =
    elim (ℕ_discrete c 10) [
      | yes h ↦ absurd (true≢false (sym (held_here 10 c cs h) ∙ e))
      | no h ↦ (h, sym (held_past 10 c cs h) ∙ e)
    ]

-- a line and its newline, and more behind it
pub front_line : (a b : List ℕ) → holds 10 a ≡ false → up_to 10 (a ++ 10 ∷ b) ≡ a
front_line [] b e = front_here 10 10 b refl
front_line (c ∷ cs) b e = let n = none_cons c cs e in front_past 10 c (cs ++ 10 ∷ b) n.0 ∙ ap (λ (t : List ℕ). c ∷ t) (front_line cs b n.1)

pub held_line_lem : (a b : List ℕ) → holds 10 a ≡ false → holds 10 (a ++ 10 ∷ b) ≡ true
held_line_lem [] b e = held_here 10 10 b refl
held_line_lem (c ∷ cs) b e = let n = none_cons c cs e in held_past 10 c (cs ++ 10 ∷ b) n.0 ∙ held_line_lem cs b n.1

-- a text with a newline is its first line, the newline, and what is behind
pub held_split : (t : List ℕ) → holds 10 t ≡ true → t ≡ up_to 10 t ++ 10 ∷ drop (length (up_to 10 t) + 1) t
unfolding holds
held_split [] e = absurd (true≢false (sym e))
held_split (c ∷ cs) e =
    elim (ℕ_discrete c 10) [
      | yes h ↦ rw (front_here 10 c cs h) (ap (λ (d : ℕ). d ∷ cs) h)
      | no h ↦
          let u : List ℕ = up_to 10 cs in
          let k : suc (length u + 1) ≡ suc (length u) + 1 = omega arith in
          rw (front_past 10 c cs h)
          (ap (λ (l : List ℕ). c ∷ l) (held_split cs (sym (held_past 10 c cs h) ∙ e)) ∙ ap (λ (n : ℕ). (c ∷ u) ++ 10 ∷ drop n (c ∷ cs)) k)
    ]

-- the newline stands inside the text
pub held_inside : (t : List ℕ) → holds 10 t ≡ true → length (up_to 10 t) < length t
held_inside t e = ltb-true _ _ (sym (held_by_length 10 t) ∙ e)

-- two texts together
pub holds_append : (a b : List ℕ) → holds 10 a ≡ false → holds 10 (a ++ b) ≡ holds 10 b
holds_append [] b e = refl
holds_append (c ∷ cs) b e = let n = none_cons c cs e in held_past 10 c (cs ++ b) n.0 ∙ holds_append cs b n.1

-- ---- a number's text has no newline
glyph_above : (d : ℕ) → 48 ≤ hex_digit_ascii d
glyph_above d =
    elim (dec_lt d 10) [
      | yes h ↦ rw (glyph_low d h) (omega arith)
      | no h ↦ rw (glyph_high d (omega arith)) (omega arith)
    ]

pub digits_none : (b k n : ℕ) → holds 10 (last_digits b k n) ≡ false
unfolding holds
digits_none b zero n = refl
digits_none b (suc k) n =
    holds_append (last_digits b k (n / b)) (hex_digit_ascii (n % b) ∷ []) (digits_none b k (n / b))
    ∙ held_past 10 (hex_digit_ascii (n % b)) [] (λ e. omega (arith, glyph_above (n % b)))

pub decimal_none : (n : ℕ) → holds 10 (decimal_text n) ≡ false
unfolding decimal_text
decimal_none n = digits_none 10 (places_from 19 n) n

pub hex_none : (n : ℕ) → holds 10 (hex_text n) ≡ false
unfolding hex_text
hex_none n = digits_none 16 16 n
