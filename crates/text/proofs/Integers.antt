-- The parser of signed numbers is exact, whatever the bound: what is accepted is the text of its answer, which lies within the bound, and the text of each number within it is accepted.
use Rattle.std.specs.Prelude.{Option, Some, None, unsigned_abs}
use mathlib.Core.Path.{◌≡◌, refl, sym, ap, ◌∙◌, subst}
use mathlib.Core.Bool.{Bool, true, false, cond}
use mathlib.Core.List.{List, [], ◌∷◌}
use Prim.Native.Nat.{ℕ, suc, ◌+◌, ◌-◌, ◌^◌, ◌≤◌, ◌<◌}
use native.Mathlib.Numerals.{sub-one}
use native.Mathlib.Omega.{arith}
use lib.Dec.{ltb, eqb}
use lib.IntN.{ℤ, pos, negsuc}
use lib.ListN.{length, get_or, drop, set}
use lib.Signed.{mag}
use lib.Seq.{sets-eq}
use borrow.Author.Tests.{lt-ltb, le-ltb, ne_eqb, ltb-true, ltb-false, eqb-true}
use mir.Syntax.{w32, w64}
use mir.Val.{SFits, to_z, of_z}
use mir.Facts.{to_z_pos, to_z-of_z, sfits_widen}
use Rattle.text.specs.Number.{decimal_of, decimal_text, put}
use Rattle.text.specs.Signed.{plus_of, minus_of, signed_within, signed_of, narrow_of, signed32_of, signed_text}
use Rattle.laws.proofs.Cases.{cond_cases}
use Rattle.text.proofs.Laws.{decimal_back, decimal_only, first_glyph}
use Rattle.text.proofs.Putting.{put_put}

module _ (b : ℕ) where
  pub empty : (t : List ℕ) → length t < 1 → None ≡ signed_within b t
  unfolding signed_within decimal_of plus_of
  empty [] h = refl
  empty (c ∷ t) h = absurd (omega arith)

  pub plus_good : (n : ℕ) → b ≤ 2 ^ 63 → n < b → Some (to_z w64 n) ≡ plus_of b (Some n)
  unfolding plus_of
  plus_good n k h = let q : n < 2 ^ 63 = omega arith in ap Some (to_z_pos w64 q) ∙ sym (simp (lt-ltb n b h))

  -- what `plus_of` and `minus_of` accept
  plus_of_lem : (p : Option ℕ) (z : ℤ) → plus_of b p ≡ Some z → (n : ℕ) × (p ≡ Some n) × (z ≡ pos n) × (n < b)
  unfolding plus_of
  plus_of_lem None z e = let y : ◌≡◌ {A = ℕ} 0 1 = cc in absurd (omega arith)
  plus_of_lem (Some n) z e = let o = go (ltb n b) e in (n, refl, o.1, ltb-true _ _ o.0)
    where
      go : (t : Bool) → cond t (Some (pos n)) None ≡ Some z → (t ≡ true) × (z ≡ pos n)
      go true e = (refl, (cc))
      go false e = let y : ◌≡◌ {A = ℕ} 0 1 = cc in absurd (omega arith)

  minus_of_lem : (p : Option ℕ) (z : ℤ) → minus_of b p ≡ Some z → (n : ℕ) × (p ≡ Some n) × (z ≡ negsuc (n - 1)) × (1 ≤ n) × (n ≤ b)
  unfolding minus_of
  minus_of_lem None z e = let y : ◌≡◌ {A = ℕ} 0 1 = cc in absurd (omega arith)
  minus_of_lem (Some n) z e = let o = go (ltb n 1) (ltb b n) e in (n, refl, o.2, ltb-false _ _ o.0, ltb-false _ _ o.1)
    where
      go : (t u : Bool) → cond t None (cond u None (Some (negsuc (n - 1)))) ≡ Some z → (t ≡ false) × (u ≡ false) × (z ≡ negsuc (n - 1))
      go false false e = (refl, refl, (cc))
      go false true e = let y : ◌≡◌ {A = ℕ} 0 1 = cc in absurd (omega arith)
      go true u e = let y : ◌≡◌ {A = ℕ} 0 1 = cc in absurd (omega arith)

  -- what is accepted is the text of its answer
  pub within_only : (t : List ℕ) (z : ℤ) → signed_within b t ≡ Some z → t ≡ signed_text z
  unfolding signed_within signed_text
  within_only [] z e = let y : ◌≡◌ {A = ℕ} 0 1 = cc (empty [] (omega arith)) in absurd (omega arith)
  within_only (c ∷ t) z e =
      cond_cases (λ s. s ≡ Some z → c ∷ t ≡ signed_text z) (eqb c 45)
      (λ h f.
      let m = minus_of_lem (decimal_of t) z f in
      let k : suc (m.0 - 1) ≡ m.0 = omega (arith, m.3) in
      ap (λ (x : ℕ). x ∷ t) (eqb-true c 45 h) ∙ ap (λ (l : List ℕ). 45 ∷ l) (decimal_only t m.0 m.1 ∙ ap decimal_text (sym k)) ∙ ap signed_text (sym m.2))
      (λ h f. let m = plus_of_lem (decimal_of (c ∷ t)) z f in decimal_only (c ∷ t) m.0 m.1 ∙ ap signed_text (sym m.2))
      e

  -- and lies within the bound
  pub within_inside : (t : List ℕ) (z : ℤ) → signed_within b t ≡ Some z → mag z < b
  unfolding signed_within
  within_inside t z e =
      cond_cases (λ s. s ≡ Some z → mag z < b) (eqb (get_or t 0 0) 45)
      (λ h f. let m = minus_of_lem (decimal_of (drop 1 t)) z f in subst (λ (x : ℤ). mag x < b) (sym m.2) (omega (arith, m.3, m.4)))
      (λ h f. let m = plus_of_lem (decimal_of t) z f in subst (λ (x : ℤ). mag x < b) (sym m.2) m.3)
      e

  -- the text of each number within it is accepted
  pub within_back : (z : ℤ) → b ≤ 2 ^ 63 → mag z < b → signed_within b (signed_text z) ≡ Some z
  unfolding signed_within signed_text plus_of minus_of
  within_back (pos n) k h =
      let d = decimal_back n (omega arith) in
      rw (ne_eqb _ _ (first_glyph (decimal_text n) n d)) (rw d (simp (lt-ltb n b h)))
  within_back (negsuc n) k h =
      rw (decimal_back (suc n) (omega arith)) (simp (le-ltb (suc n) 1 (omega arith), le-ltb b (suc n) (omega arith)) (ap (λ (k : ℕ). Some (negsuc k)) (sub-one (suc n))))

-- ---- numbers of 64 bits
pub integer_only : (t : List ℕ) (z : ℤ) → signed_of t ≡ Some z → t ≡ signed_text z
unfolding signed_of
integer_only t z e = within_only (2 ^ 63) t z e

pub integer_back : (z : ℤ) → SFits w64 z → signed_of (signed_text z) ≡ Some z
unfolding signed_of
integer_back z h = within_back (2 ^ 63) z (omega arith) h.sfits

-- ---- and of 32
narrow_of_lem : (s : Option ℤ) (z : ℤ) → narrow_of s ≡ Some z → s ≡ Some z
narrow_of_lem None z e = let y : ◌≡◌ {A = ℕ} 0 1 = cc in absurd (omega arith)
narrow_of_lem (Some x) z e = let q : x ≡ z = cc in ap Some q

pub integer32_only : (t : List ℕ) (z : ℤ) → signed32_of t ≡ Some z → t ≡ signed_text z
unfolding signed32_of
integer32_only t z e = within_only (2 ^ 31) t z (narrow_of_lem (signed_within (2 ^ 31) t) z e)

pub integer32_back : (z : ℤ) → SFits w32 z → signed32_of (signed_text z) ≡ Some z
unfolding signed32_of
integer32_back z h = ap narrow_of (within_back (2 ^ 31) z (omega arith) h.sfits)

-- one that was read with the bound 2^31 is the same in 32 bits
module _ (t : List ℕ) (z : ℤ) (read : signed_within (2 ^ 31) t ≡ Some z) where
  fits : SFits w32 z
  fits = record { sfits = within_inside (2 ^ 31) t z read }

  same_bits : to_z w64 (of_z w64 z) ≡ z
  same_bits = to_z-of_z {w = w64} (sfits_widen {w = w32} {w' = w64} {z = z} tt fits)

  pub narrow_fits : SFits w32 (to_z w64 (of_z w64 z))
  narrow_fits = subst (SFits w32) (sym same_bits) fits

  pub narrowed : Some (to_z w32 (of_z w32 (to_z w64 (of_z w64 z)))) ≡ signed32_of t
  unfolding signed32_of
  narrowed = ap Some (to_z-of_z narrow_fits ∙ same_bits) ∙ sym (ap narrow_of read)

-- ---- printing: a minus, and the text after it
pub minus_put : (d s : List ℕ) (at : ℕ) → at < length d → put (set d at 45) (at + 1) s ≡ put d at (45 ∷ s)
minus_put d s at h = ap (λ (l : List ℕ). put l (at + 1) s) (sets-eq (45 ∷ []) d at (omega arith)) ∙ put_put d at (45 ∷ []) (omega arith) s

pub puts_minus : (d l : List ℕ) (at r size k : ℕ) (z : ℤ) → at < length d → z ≡ negsuc k → size ≡ unsigned_abs z → r ≡ at + 1 + length (decimal_text size) → r ≤ at + 1 + 20 → l ≡ put (set d at 45) (at + 1) (decimal_text size)
    → (r ≡ at + length (signed_text z)) × (r ≤ at + 21) × (l ≡ put d at (signed_text z))
unfolding signed_text
puts_minus d l at r size k z h is abs a b e =
    let s : size ≡ suc k = abs ∙ ap unsigned_abs is in
    let t : signed_text z ≡ 45 ∷ decimal_text size = ap signed_text is ∙ ap (λ (n : ℕ). 45 ∷ decimal_text n) (sym s) in
    (omega (arith, ap length t), omega arith, e ∙ minus_put d (decimal_text size) at h ∙ ap (put d at) (sym t))

pub puts_plus : (d l : List ℕ) (at r size n : ℕ) (z : ℤ) → z ≡ pos n → size ≡ unsigned_abs z → r ≡ at + length (decimal_text size) → r ≤ at + 20 → l ≡ put d at (decimal_text size)
    → (r ≡ at + length (signed_text z)) × (r ≤ at + 21) × (l ≡ put d at (signed_text z))
unfolding signed_text
puts_plus d l at r size n z is abs a b e =
    let s : size ≡ n = abs ∙ ap unsigned_abs is in
    let t : signed_text z ≡ decimal_text size = ap signed_text is ∙ ap decimal_text (sym s) in
    (omega (arith, ap length t), omega arith, e ∙ ap (put d at) (sym t))
