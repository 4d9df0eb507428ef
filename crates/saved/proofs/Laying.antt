-- Texts laid one behind the other are one text laid.
use mathlib.Core.Path.{◌≡◌, refl, sym, ap, ap₂, ◌∙◌}
use mathlib.Core.List.{List, [], ◌∷◌, ◌++◌}
use Prim.Native.Nat.{ℕ, zero, suc, ◌+◌, ◌-◌, ◌≤◌}
use native.Mathlib.Omega.{arith}
use lib.ListN.{length, take, drop, length-append}
use lib.Seq.{take-append_seam}
use Rattle.text.specs.Number.{put}
use Rattle.script.specs.Writing.{Puts}
use Rattle.runs.specs.Stretches.{in_front}
use Rattle.saved.specs.Writes.{laid, Lays}

-- ---- examples
-- within the buffer, past its end, and in one of no bytes
within_is : laid (1 ∷ 2 ∷ 3 ∷ []) 1 (9 ∷ []) ≡ 1 ∷ 9 ∷ 3 ∷ []
unfolding laid
within_is = refl

clipped_is : laid (1 ∷ 2 ∷ 3 ∷ []) 2 (9 ∷ 8 ∷ []) ≡ 1 ∷ 2 ∷ 9 ∷ []
unfolding laid
clipped_is = refl

measured_is : laid [] 2 (9 ∷ 8 ∷ []) ≡ []
unfolding laid
measured_is = refl

-- ---- the buffer
pub length_laid : (d : List ℕ) (at : ℕ) (t : List ℕ) → length (laid d at t) ≡ length d
unfolding laid
length_laid [] at t = refl
length_laid (x ∷ d) zero [] = refl
length_laid (x ∷ d) zero (c ∷ t) = ap suc (length_laid d zero t)
length_laid (x ∷ d) (suc at) t = ap suc (length_laid d at t)

pub laid_nothing : (d : List ℕ) (at : ℕ) → laid d at [] ≡ d
unfolding laid
laid_nothing [] at = refl
laid_nothing (x ∷ d) zero = refl
laid_nothing (x ∷ d) (suc at) = ap (λ (l : List ℕ). x ∷ l) (laid_nothing d at)

front_then : (d s t : List ℕ) → laid (laid d 0 s) (length s) t ≡ laid d 0 (s ++ t)
unfolding laid
front_then [] s t = refl
front_then (x ∷ d) [] t = refl
front_then (x ∷ d) (c ∷ s) t = ap (λ (l : List ℕ). c ∷ l) (front_then d s t)

pub laid_then : (d : List ℕ) (at : ℕ) (s t : List ℕ) → laid (laid d at s) (at + length s) t ≡ laid d at (s ++ t)
unfolding laid
laid_then d zero s t = let e : 0 + length s ≡ length s = omega arith in ap (λ (k : ℕ). laid (laid d 0 s) k t) e ∙ front_then d s t
laid_then [] (suc at) s t = refl
laid_then (x ∷ d) (suc at) s t =
    let e : suc at + length s ≡ suc (at + length s) = omega arith in
    ap (λ (k : ℕ). laid (x ∷ laid d at s) k t) e ∙ ap (λ (l : List ℕ). x ∷ l) (laid_then d at s t)

-- behind the buffer's end nothing is laid
pub laid_past : (d : List ℕ) (at : ℕ) (t : List ℕ) → length d ≤ at → d ≡ laid d at t
unfolding laid
laid_past [] at t h = refl
laid_past (x ∷ d) zero t h = absurd (omega arith)
laid_past (x ∷ d) (suc at) t h = ap (λ (l : List ℕ). x ∷ l) (laid_past d at t (omega arith))

-- in front of a buffer that is long enough
pub laid_front : (d t : List ℕ) → length t ≤ length d → laid d 0 t ≡ in_front t d
unfolding laid
laid_front [] [] h = refl
laid_front [] (c ∷ t) h = absurd (omega arith)
laid_front (x ∷ d) [] h = refl
laid_front (x ∷ d) (c ∷ t) h = ap (λ (l : List ℕ). c ∷ l) (laid_front d t (omega arith))

-- in front of one that is not
front_part : (d t : List ℕ) → length d ≤ length t → in_front (take (length d) t) d ≡ laid d 0 t
unfolding laid
front_part [] t h = refl
front_part (x ∷ d) [] h = absurd (omega arith)
front_part (x ∷ d) (c ∷ t) h = ap (λ (l : List ℕ). c ∷ l) (front_part d t (omega arith))

put_front : (d t : List ℕ) → put d 0 t ≡ in_front t d
put_front d t = let e : 0 + length t ≡ length t = omega arith in ap (λ (k : ℕ). t ++ drop k d) e

put_on : (x : ℕ) (d : List ℕ) (at : ℕ) (t : List ℕ) → put (x ∷ d) (suc at) t ≡ x ∷ put d at t
put_on x d at t = let e : suc at + length t ≡ suc (at + length t) = omega arith in ap (λ (k : ℕ). x ∷ (take at d ++ t ++ drop k (x ∷ d))) e

-- where there is room for all of it, it is put
pub laid_put : (d : List ℕ) (at : ℕ) (t : List ℕ) → at + length t ≤ length d → put d at t ≡ laid d at t
unfolding laid
laid_put d zero t h = put_front d t ∙ sym (laid_front d t (omega arith))
laid_put [] (suc at) t h = absurd (omega arith)
laid_put (x ∷ d) (suc at) t h = put_on x d at t ∙ ap (λ (l : List ℕ). x ∷ l) (laid_put d at t (omega arith))

-- else what there is room for
pub laid_part : (d : List ℕ) (at : ℕ) (t : List ℕ) → at ≤ length d → length d ≤ at + length t → put d at (take (length d - at) t) ≡ laid d at t
unfolding laid
laid_part d zero t h k =
    let e : length d - 0 ≡ length d = omega arith in
    ap (λ (n : ℕ). put d 0 (take n t)) e ∙ put_front d (take (length d) t) ∙ front_part d t (omega arith)
laid_part [] (suc at) t h k = absurd (omega arith)
laid_part (x ∷ d) (suc at) t h k =
    let e : suc (length d) - suc at ≡ length d - at = omega arith in
    ap (λ (n : ℕ). put (x ∷ d) (suc at) (take n t)) e ∙ put_on x d at (take (length d - at) t) ∙ ap (λ (l : List ℕ). x ∷ l) (laid_part d at t (omega arith) (omega arith))

-- ---- pieces
pub lays_none : {d : List ℕ} {at : ℕ} → Lays d at [] 0 at d
lays_none {d} {at} = record { place = omega arith; few = omega arith; text = sym (laid_nothing d at) }

pub lays_then : {d e o s t : List ℕ} {at m n a b : ℕ} → Lays d at s m a e → Lays e a t n b o → Lays d at (s ++ t) (m + n) b o
lays_then {d} {e} {o} {s} {t} {at} {m} {n} {a} {b} x y =
    record {
      place = omega (arith, x.place, y.place, length-append s t);
      few = omega (arith, x.few, y.few);
      text = y.text ∙ ap₂ (λ (l : List ℕ) (k : ℕ). laid l k t) x.text x.place ∙ laid_then d at s t;
    }

pub lays_more : {d o t : List ℕ} {at m n r : ℕ} → m ≤ n → Lays d at t m r o → Lays d at t n r o
lays_more h x = record { place = x.place; few = omega (arith, x.few); text = x.text }

pub lays_as : {d o s t : List ℕ} {at m r : ℕ} → s ≡ t → Lays d at s m r o → Lays d at t m r o
lays_as {d} {o} {s} {t} {at} {m} {r} e x =
    record { place = x.place ∙ ap (λ (l : List ℕ). at + length l) e; few = x.few; text = x.text ∙ ap (laid d at) e }

-- a text that was put in front of some bytes stands there
pub front_put : {d o t : List ℕ} {m r : ℕ} → Puts d 0 t m r o → take r o ≡ t
front_put {d} {o} {t} {m} {r} x =
    ap₂ (λ (k : ℕ) (l : List ℕ). take k l) (let e : r ≡ length t = omega (arith, x.place) in e) (x.text ∙ put_front d t) ∙ take-append_seam t (drop (length t) d)

-- bytes, by how much room there is
module _ {d t : List ℕ} {at : ℕ} where
  pub lays_whole : {o : List ℕ} {r : ℕ} → at + length t ≤ length d → (r ≡ at + length t) × (o ≡ put d at t) → Lays d at t (length t) r o
  lays_whole h x = record { place = x.0; few = omega (arith, x.0); text = x.1 ∙ laid_put d at t h }

  pub lays_past : length d ≤ at → Lays d at t (length t) (at + length t) d
  lays_past h = record { place = refl; few = omega arith; text = laid_past d at t h }

  pub lays_part : {o : List ℕ} → at ≤ length d → length d ≤ at + length t → o ≡ put d at (take (length d - at) t) → Lays d at t (length t) (at + length t) o
  lays_part h k e = record { place = refl; few = omega arith; text = e ∙ laid_part d at t h k }
