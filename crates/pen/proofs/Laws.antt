-- Blanks at the front of more blanks, and the front of a buffer into which a text was put.
use mathlib.Core.Path.{◌≡◌, refl, ap, ◌∙◌}
use mathlib.Core.List.{List, ◌∷◌}
use Prim.Native.Nat.{ℕ, zero, suc, ◌+◌, ◌≤◌}
use native.Mathlib.Omega.{arith}
use lib.ListN.{length, take, replicate}
use Rattle.text.specs.Number.{put, places_from, decimal_text}
use Rattle.text.specs.Bytes.{bytes}
use Rattle.text.proofs.Putting.{take_put}
use Rattle.pen.specs.Pen.{right_text}

-- the front of so many equal ones
front_same : (n m : ℕ) (x : ℕ) → n ≤ m → take n (replicate m x) ≡ replicate n x
front_same zero m x h = refl
front_same (suc n) zero x h = absurd (omega arith)
front_same (suc n) (suc m) x h = ap (λ (xs : List ℕ). x ∷ xs) (front_same n m x (omega arith))

-- the front of 32 blanks
pub blanks : (n : ℕ) → n ≤ 32 → take n (bytes "                                ") ≡ replicate n 32
blanks n h = front_same n 32 32 h

-- a text put at the front of 20 bytes is their front
pub front_is : (d s : List ℕ) {r : ℕ} {o : List ℕ} → length d ≡ 20 → (r ≡ 0 + length s) × (r ≤ 0 + 20) × (o ≡ put d 0 s) → take r o ≡ s
front_is d s {r} {o} l x = ap (λ (k : ℕ). take k o) x.0 ∙ ap (take (0 + length s)) x.2 ∙ take_put d 0 s (omega (arith, l, x.0, x.1))

-- a number in its column, and a word that is longer than its own
number_right : right_text 4 (decimal_text 7) ≡ bytes "   7"
unfolding decimal_text places_from
number_right = refl

long_word : right_text 2 (bytes "yes") ≡ bytes "yes"
long_word = refl
