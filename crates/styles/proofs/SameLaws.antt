-- Two sets of one sorted table are the same by identity exactly where they are one number.
use Rattle.std.proofs.Common.{◌≡◌, ℕ, zero, suc, ◌/◌, ◌%◌, ◌^◌, ◌<◌, true, false, eqb, List, [], ◌∷◌, length, sym, refl, ◌∙◌, subst, arith, eq-eqb, eqb-true}
use mathlib.Core.Bool.{false≢true}
use Rattle.styles.specs.declared.Mark.{Mark}
use Rattle.styles.specs.Order.{id_of}
use Rattle.styles.specs.Marks.{Above, Sorted, same_marks}
use Rattle.styles.specs.Bits.{keep_bit, pick}
use Rattle.styles.proofs.OrderLaws.{less_flip, same_self}
use Rattle.styles.proofs.PickLaws.{above_pick}
use Rattle.styles.proofs.BitLaws.{half_less}
use Rattle.styles.proofs.ValueLaws.{bool_of}

-- a set is the same as itself
pub same_marks_self : (l : List Mark) → same_marks l l ≡ true
unfolding same_marks
same_marks_self [] = refl
same_marks_self (m ∷ ms) = rw (same_self (id_of m)) (same_marks_self ms)

-- a mark that comes before a whole set is not its first
pub same_not_above : (m : Mark) (ms xs : List Mark) → Above (id_of m) xs → same_marks xs (m ∷ ms) ≡ false
unfolding same_marks Above
same_not_above m ms [] h = refl
same_not_above m ms (x ∷ xs) h = rw (less_flip (id_of m) (id_of x) h.0)

pub above_not_same : (m : Mark) (ms xs : List Mark) → Above (id_of m) xs → same_marks (m ∷ ms) xs ≡ false
unfolding same_marks Above
above_not_same m ms [] h = refl
above_not_same m ms (x ∷ xs) h = rw h.0

same_keep : (b c : ℕ) (m : Mark) (xs ys : List Mark) → b < 2 → c < 2 → Above (id_of m) xs → Above (id_of m) ys
    → same_marks (keep_bit b m xs) (keep_bit c m ys) ≡ true → (b ≡ c) × (same_marks xs ys ≡ true)
unfolding same_marks
same_keep zero zero m xs ys p q h k e = (refl, e)
same_keep zero (suc c) m xs ys p q h k e = absurd (false≢true (sym (same_not_above m ys xs h) ∙ e))
same_keep (suc b) zero m xs ys p q h k e = absurd (false≢true (sym (above_not_same m xs ys k) ∙ e))
same_keep (suc b) (suc c) m xs ys p q h k e = (omega arith, rw (same_self (id_of m)) at e)

same_number : (t : List Mark) (s u : ℕ) → Sorted t → s < 2 ^ length t → u < 2 ^ length t → same_marks (pick t s) (pick t u) ≡ true → s ≡ u
unfolding pick Sorted
same_number [] s u h k l e = omega arith
same_number (m ∷ ms) s u h k l e =
    let g = same_keep (s % 2) (u % 2) m (pick ms (s / 2)) (pick ms (u / 2)) (omega arith) (omega arith) (above_pick (id_of m) ms (s / 2) h.0) (above_pick (id_of m) ms (u / 2) h.0) e in
    omega (arith, g.0, same_number ms (s / 2) (u / 2) h.1 (half_less (length ms) s k) (half_less (length ms) u l) g.1)

-- two sets within a sorted table: the same by identity exactly where they are one number
pub same_pick : (t : List Mark) (s u : ℕ) → Sorted t → s < 2 ^ length t → u < 2 ^ length t → same_marks (pick t s) (pick t u) ≡ eqb s u
same_pick t s u h k l =
    bool_of (same_marks (pick t s) (pick t u)) (eqb s u)
    (λ e. eq-eqb s u (same_number t s u h k l e))
    (λ e. subst (λ (x : ℕ). same_marks (pick t s) (pick t x) ≡ true) (eqb-true s u e) (same_marks_self (pick t s)))

-- so two that pick the same marks are one
pub pick_inj : (t : List Mark) (s u : ℕ) → Sorted t → s < 2 ^ length t → u < 2 ^ length t → pick t s ≡ pick t u → s ≡ u
pick_inj t s u h k l e = same_number t s u h k l (subst (λ (x : List Mark). same_marks (pick t s) x ≡ true) e (same_marks_self (pick t s)))
