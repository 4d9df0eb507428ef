-- The j-th set bit: its place is one only, the walk over lowest bits comes to it, and the table has the j-th mark picked there.
use Rattle.std.proofs.Common.{◌≡◌, ℕ, zero, suc, ◌+◌, ◌*◌, ◌/◌, ◌%◌, ◌^◌, ◌<◌, ◌≤◌, List, [], ◌∷◌, length, get_or, sym, refl, ap, ◌∙◌, subst, true≢false, add-one, arith, eq-eqb, eqb-true}
use native.Mathlib.Decide.{dec_lt}
use lib.Count.{ones, ones_step, count_trailing_zeros, under}
use lib.Pow.{field, mod-mod-pow}
use Rattle.styles.specs.declared.Mark.{Mark}
use Rattle.styles.specs.Bits.{keep_bit, pick, without_bit, NthAt, NthBit}
use Rattle.styles.proofs.BitLaws.{without_zero, without_suc, half_less, has_past}
use Rattle.styles.proofs.CountLaws.{ones_none}
use Rattle.styles.proofs.MaskLaws.{digit_next}

-- ---- the place of a bit in a set, and in the set without its lowest place
below_suc : (s i : ℕ) → ones (s % 2 ^ suc i) ≡ s % 2 + ones (s / 2 % 2 ^ i)
below_suc s i =
    let e : s % 2 ^ suc i % 2 ≡ s % 2 = rw (add-one i) at (mod-mod-pow s i 1) in
    let f : s % 2 ^ suc i / 2 ≡ s / 2 % 2 ^ i = rw (add-one i) at (field s i 1) in
    ones_step (s % 2 ^ suc i) ∙ (rw (e, f))

none_below : (s : ℕ) → ones (s % 2 ^ 0) ≡ 0
none_below s = let e : s % 2 ^ 0 ≡ 0 = omega arith in ap ones e ∙ ones_none

pub nth_first : (s j : ℕ) → NthAt s j 0 → (s % 2 ≡ 1) × (j ≡ 0)
nth_first s j h = let e = eqb-true (s / 2 ^ 0 % 2) 1 h.there in (omega arith, sym h.below ∙ none_below s)

pub nth_down : (s j i : ℕ) → NthAt s j (suc i) → (k : ℕ) × (j ≡ s % 2 + k) × NthAt (s / 2) k i
nth_down s j i h = (ones (s / 2 % 2 ^ i), sym h.below ∙ below_suc s i, record { there = sym (digit_next s i) ∙ h.there; below = refl })

nth_up : (s j k i : ℕ) → s % 2 + k ≡ j → NthAt (s / 2) k i → NthAt s j (suc i)
nth_up s j k i e h = record { there = digit_next s i ∙ h.there; below = below_suc s i ∙ ap (◌+◌ (s % 2)) h.below ∙ e }

-- ---- where there is one
pub nth_held : (s j i : ℕ) → NthAt s j i → j < ones s
nth_held s j zero h = let f = nth_first s j h in omega (arith, ones_step s, f.0, f.1)
nth_held s j (suc i) h = let d = nth_down s j i h in omega (arith, ones_step s, d.1, nth_held (s / 2) d.0 i d.2)

pub nth_within : (n s j i : ℕ) → s < 2 ^ n → NthAt s j i → i < n
nth_within n s j i l h =
    elim (dec_lt i n) [
      | yes k ↦ k
      | no k ↦ absurd (true≢false (sym h.there ∙ has_past n i s (omega arith) l))
    ]

pub one_place : (s j i k : ℕ) → NthAt s j i → NthAt s j k → i ≡ k
one_place s j zero zero g h = refl
one_place s j zero (suc k) g h =
    let f = nth_first s j g in
    let d = nth_down s j k h in
    absurd (omega (arith, f.0, f.1, d.1))
one_place s j (suc i) zero g h =
    let f = nth_first s j h in
    let d = nth_down s j i g in
    absurd (omega (arith, f.0, f.1, d.1))
one_place s j (suc i) (suc k) g h =
    let d = nth_down s j i g in
    let e = nth_down s j k h in
    let f : e.0 ≡ d.0 = omega (arith, d.1, e.1) in
    ap suc (one_place (s / 2) d.0 i k d.2 (subst (λ (x : ℕ). NthAt (s / 2) x k) f e.2))

there_step : (b s j : ℕ) → s % 2 ≡ b → j < b + ones (s / 2) → ((l : ℕ) → l < ones (s / 2) → (i : ℕ) × NthAt (s / 2) l i) → (i : ℕ) × NthAt s j i
there_step zero s j e h ih = let n = ih j (omega arith) in (suc n.0, nth_up s j j n.0 (omega arith) n.1)
there_step (suc b) s zero e h ih = (0, record { there = eq-eqb (s / 2 ^ 0 % 2) 1 (omega arith); below = none_below s })
there_step (suc b) s (suc j) e h ih = let n = ih j (omega arith) in (suc n.0, nth_up s (suc j) j n.0 (omega arith) n.1)

pub nth_there : (k s j : ℕ) → s < 2 ^ k → j < ones s → (i : ℕ) × NthAt s j i
nth_there zero s j h l = let e : s ≡ 0 = omega arith in absurd (omega (arith, ap ones e, ones_none))
nth_there (suc k) s j h l = there_step (s % 2) s j refl (omega (arith, ones_step s)) (λ m g. nth_there k (s / 2) m (half_less k s h) g)

-- below 64 the answer of `nth_bit` is a place of the set; from there on it says that there is none
pub nth_of : (set j r : ℕ) → NthBit set j r → r < 64 → NthAt set j r
nth_of set j r h k =
    elim (dec_lt j (ones set)) [
      | yes a ↦ h.found a
      | no a ↦ absurd (omega (arith, h.past (omega arith)))
    ]

pub nth_none : (set j r : ℕ) → set < 2 ^ 64 → NthBit set j r → 64 ≤ r → ones set ≤ j
nth_none set j r l h k =
    elim (dec_lt j (ones set)) [
      | yes a ↦ absurd (omega (arith, nth_within 64 set j r l (h.found a)))
      | no a ↦ omega arith
    ]

-- ---- the walk: the lowest bit has rank 0, and in the set without it each rank is one less
low_step : (b tz k s : ℕ) → s % 2 ≡ b → under b tz < suc k → (tz < k → NthAt (s / 2) 0 tz) → NthAt s 0 (under b tz)
low_step zero tz k s e h ih = nth_up s 0 0 tz (omega arith) (ih (omega arith))
low_step (suc b) tz k s e h ih = record { there = eq-eqb (s / 2 ^ 0 % 2) 1 (omega arith); below = none_below s }

pub nth_lowest : (k s : ℕ) → count_trailing_zeros k s < k → NthAt s 0 (count_trailing_zeros k s)
unfolding count_trailing_zeros
nth_lowest zero s h = absurd (omega arith)
nth_lowest (suc k) s h = low_step (s % 2) (count_trailing_zeros k (s / 2)) k s refl h (nth_lowest k (s / 2))

turn_step : (b tz k s j i : ℕ) → s % 2 ≡ b → under b tz < suc k → (tz < k → (j i : ℕ) → NthAt (without_bit tz (s / 2)) j i → NthAt (s / 2) (suc j) i)
    → NthAt (without_bit (under b tz) s) j i → NthAt s (suc j) i
turn_step zero tz k s j zero e h ih g = let f = nth_first (without_bit tz (s / 2) * 2 + s % 2) j (rw (without_suc tz s) at g) in absurd (omega (arith, f.0))
turn_step zero tz k s j (suc i) e h ih g =
    let w : ℕ = without_bit tz (s / 2) in
    let d = nth_down (w * 2 + s % 2) j i (rw (without_suc tz s) at g) in
    let a : (w * 2 + s % 2) / 2 ≡ w = omega arith in
    nth_up s (suc j) (suc d.0) i (omega (arith, d.1)) (ih (omega arith) d.0 i (subst (λ (x : ℕ). NthAt x d.0 i) a d.2))
turn_step (suc b) tz k s j zero e h ih g = let f = nth_first (s / 2 * 2) j (rw (without_zero s) at g) in absurd (omega (arith, f.0))
turn_step (suc b) tz k s j (suc i) e h ih g =
    let d = nth_down (s / 2 * 2) j i (rw (without_zero s) at g) in
    let a : s / 2 * 2 / 2 ≡ s / 2 = omega arith in
    nth_up s (suc j) d.0 i (omega (arith, d.1)) (subst (λ (x : ℕ). NthAt x d.0 i) a d.2)

pub nth_turn : (k s j i : ℕ) → count_trailing_zeros k s < k → NthAt (without_bit (count_trailing_zeros k s) s) j i → NthAt s (suc j) i
unfolding count_trailing_zeros
nth_turn zero s j i h g = absurd (omega arith)
nth_turn (suc k) s j i h g = turn_step (s % 2) (count_trailing_zeros k (s / 2)) k s j i refl h (λ l a b x. nth_turn k (s / 2) a b l x) g

-- ---- the j-th mark picked is the table's at the j-th set bit
keep_at : (b j k : ℕ) (m d : Mark) (ms : List Mark) → b < 2 → j ≡ b + k → get_or (keep_bit b m ms) j d ≡ get_or ms k d
keep_at zero j k m d ms h e = let f : j ≡ k = omega arith in rw f
keep_at (suc b) j k m d ms h e = let f : j ≡ suc k = omega arith in rw f

pub pick_nth : (t : List Mark) (s j i : ℕ) (d : Mark) → i < length t → NthAt s j i → get_or (pick t s) j d ≡ get_or t i d
unfolding pick
pick_nth [] s j i d h g = absurd (omega arith)
pick_nth (m ∷ ms) s j zero d h g = let f = nth_first s j g in rw (f.0, f.1)
pick_nth (m ∷ ms) s j (suc i) d h g =
    let n = nth_down s j i g in
    keep_at (s % 2) j n.0 m d (pick ms (s / 2)) (omega arith) n.1 ∙ pick_nth ms (s / 2) n.0 i d (omega arith) n.2
