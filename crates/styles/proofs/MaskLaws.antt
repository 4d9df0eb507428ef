-- A question on marks as a mask over the table: one pass over the table, and then numbers alone.
use Rattle.std.proofs.Common.{◌≡◌, ℕ, zero, suc, ◌+◌, ◌-◌, ◌*◌, ◌/◌, ◌%◌, ◌^◌, ◌<◌, ◌≤◌, min, Bool, true, false, cond, ◌||◌, eqb, ltb, List, [], ◌∷◌, ◌++◌, length, get_or, Option, None, Some, take, drop, sym, refl, ap, ◌∙◌, subst, pow-suc, div-one, add-one, arith, length-drop, drop_of_length-le, length-take, drop-cons, get_or-take, pow_pos, pow_mono, le-ltb, lt-ltb, eq-eqb, ne_eqb, eqb-true}
use native.Mathlib.Nat.{zero-min, min-zero, div-eq_of_lt-le}
use native.Mathlib.Decide.{dec_lt, ℕ_discrete}
use lib.Bits.{bit_and, and_step, and_le_r}
use lib.Count.{leading_top}
use Rattle.styles.specs.declared.Identity.{Identity}
use Rattle.styles.specs.declared.Mark.{Mark}
use Rattle.styles.specs.declared.Value.{Value}
use Rattle.styles.specs.Order.{id_of}
use Rattle.styles.specs.Marks.{Above, Sorted, member, only, key_is, value_is, has_key, better, winner, shown_by, shows_value, blank}
use Rattle.styles.specs.Bits.{keep_bit, pick, has_bit, MaskOf, top_in}
use Rattle.styles.proofs.Built.{as_bit, mask_of}
use Rattle.styles.proofs.OrderLaws.{less_flip, same_self}
use Rattle.styles.proofs.PickLaws.{pick_cons, keep_by, above_pick, above_at, not_member}
use Rattle.styles.proofs.BitLaws.{half_shr, half_less, has_past}
use Rattle.styles.proofs.WalkLaws.{next_set, winner_last, sorted_pick}
use Rattle.styles.proofs.UnionLaws.{pick_none}
use Rattle.styles.proofs.Digits.{and_digit}

-- ---- an identity of the table is carried exactly where its bit is set
pub digit_next : (s i : ℕ) → has_bit (suc i) s ≡ has_bit i (s / 2)
digit_next s i = rw (half_shr s i)

member_first : (b : ℕ) (m : Mark) (ms : List Mark) → b < 2 → Above (id_of m) ms → member (id_of m) (keep_bit b m ms) ≡ eqb b 1
unfolding member
member_first zero m ms h k = not_member (id_of m) ms k
member_first (suc b) m ms h k = rw (same_self (id_of m), eq-eqb (suc b) 1 (omega arith))

pub member_pick : (t : List Mark) (i : ℕ) (d : Mark) (s : ℕ) → i < length t → Sorted t → member (id_of (get_or t i d)) (pick t s) ≡ has_bit i s
unfolding pick Sorted member
member_pick [] i d s h k = absurd (omega arith)
member_pick (m ∷ ms) zero d s h k =
    member_first (s % 2) m (pick ms (s / 2)) (omega arith) (above_pick (id_of m) ms (s / 2) k.0) ∙ sym (ap (λ (x : ℕ). eqb (x % 2) 1) (div-one s))
member_pick (m ∷ ms) (suc i) d s h k =
    let j : Identity = id_of (get_or ms i d) in
    keep_by (λ l. member j l ≡ member j (pick ms (s / 2))) (s % 2) {m = m} {ms = pick ms (s / 2)} refl (rw (less_flip (id_of m) j (above_at (id_of m) ms i d (omega arith) k.0)))
    ∙ member_pick ms i d (s / 2) (omega arith) k.1
    ∙ sym (digit_next s i)

-- ---- a mask picks the marks for which its test holds
only_keep : (b : ℕ) (a : Bool) (f : Mark → Bool) (m : Mark) (ms : List Mark) → f m ≡ a → b < 2 → keep_bit (min b (as_bit a)) m (only f ms) ≡ only f (keep_bit b m ms)
unfolding only
only_keep zero a f m ms e h = rw (zero-min (as_bit a))
only_keep (suc b) true f m ms e h = let g : min (suc b) 1 ≡ 1 = omega arith in rw (e, g)
only_keep (suc b) false f m ms e h = rw (e, min-zero (suc b))

bit_low : (a : Bool) → as_bit a < 2
bit_low true = omega arith
bit_low false = omega arith

pub pick_mask : (f : Mark → Bool) (t : List Mark) (s : ℕ) → pick t (bit_and s (mask_of f t)) ≡ only f (pick t s)
unfolding pick mask_of only
pick_mask f [] s = refl
pick_mask f (m ∷ ms) s =
    let l = bit_low (f m) in
    let e : (mask_of f ms * 2 + as_bit (f m)) / 2 ≡ mask_of f ms = omega arith in
    let g : (mask_of f ms * 2 + as_bit (f m)) % 2 ≡ as_bit (f m) = omega arith in
    let a : bit_and s (mask_of f ms * 2 + as_bit (f m)) ≡ bit_and (s / 2) (mask_of f ms) * 2 + min (s % 2) (as_bit (f m)) =
    rw (e, g) at (and_step s (mask_of f ms * 2 + as_bit (f m)))
    in
    ap (pick (m ∷ ms)) a
    ∙ pick_cons m ms (bit_and (s / 2) (mask_of f ms)) (min (s % 2) (as_bit (f m))) (omega arith)
    ∙ ap (keep_bit (min (s % 2) (as_bit (f m))) m) (pick_mask f ms (s / 2))
    ∙ only_keep (s % 2) (f m) f m (pick ms (s / 2)) refl (omega arith)

pub mask_less : (f : Mark → Bool) (t : List Mark) → mask_of f t < 2 ^ length t
unfolding mask_of
mask_less f [] = omega arith
mask_less f (m ∷ ms) = omega (arith, mask_less f ms, bit_low (f m), pow-suc 2 (length ms))

bit_first : (q : ℕ) (a : Bool) → has_bit 0 (q * 2 + as_bit a) ≡ a
bit_first q true = eq-eqb ((q * 2 + 1) / 2 ^ 0 % 2) 1 (omega arith)
bit_first q false = ne_eqb ((q * 2 + 0) / 2 ^ 0 % 2) 1 (omega arith)

pub mask_digit : (f : Mark → Bool) (t : List Mark) (i : ℕ) (d : Mark) → i < length t → has_bit i (mask_of f t) ≡ f (get_or t i d)
unfolding mask_of
mask_digit f [] i d h = absurd (omega arith)
mask_digit f (m ∷ ms) zero d h = bit_first (mask_of f ms) (f m)
mask_digit f (m ∷ ms) (suc i) d h =
    let l = bit_low (f m) in
    let e : (mask_of f ms * 2 + as_bit (f m)) / 2 ≡ mask_of f ms = omega arith in
    digit_next (mask_of f ms * 2 + as_bit (f m)) i ∙ (rw e (mask_digit f ms i d (omega arith)))

-- so it is the mask by its rule
pub mask_is : (f : Mark → Bool) (t : List Mark) → MaskOf f t (mask_of f t)
mask_is f t = record { bits = λ i h. mask_digit f t i blank h; past = mask_less f t }

-- ---- a key is there, and its winner, by the mask of the key
winner_skip : (k : ℕ) (a : Bool) (m : Mark) (l : List Mark) (w : Option Mark) → key_is k m ≡ a → winner k l ≡ w → cond a (better m w) w ≡ winner k (cond a (m ∷ l) l)
unfolding winner
winner_skip k true m l w e h = rw (e, h)
winner_skip k false m l w e h = sym h

pub winner_only : (k : ℕ) (l : List Mark) → winner k l ≡ winner k (only (key_is k) l)
unfolding winner only
winner_only k [] = refl
winner_only k (m ∷ ms) = winner_skip k (key_is k m) m (only (key_is k) ms) (winner k ms) refl (sym (winner_only k ms))

-- a set below 2 ^ n needs the table's first n marks only
pub pick_short : (n : ℕ) (t : List Mark) (s : ℕ) → s < 2 ^ n → pick t s ≡ pick (take n t) s
unfolding pick
pick_short zero t s h = let e : s ≡ 0 = omega arith in rw e (pick_none t)
pick_short (suc n) [] s h = refl
pick_short (suc n) (m ∷ ms) s h = ap (keep_bit (s % 2) m) (pick_short n ms (s / 2) (half_less n s h))

pub top_set : (j s : ℕ) → 2 ^ j ≤ s → s < 2 ^ suc j → has_bit j s ≡ true
top_set j s h k = eq-eqb (s / 2 ^ j % 2) 1 (omega (arith, div-eq_of_lt-le {k = 1} (2 ^ j) {m = s} (omega arith) (omega (arith, pow-suc 2 j))))

-- the highest bit is the last mark picked
pub pick_top : (j : ℕ) (t : List Mark) (s : ℕ) (d : Mark) → 2 ^ j ≤ s → s < 2 ^ suc j → j < length t
    → pick t s ≡ pick (take j t) s ++ get_or t j d ∷ []
pick_top j t s d h k l = pick_short (suc j) t s k ∙ (rw (add-one j) at (next_set t s j d l (top_set j s h k)))

pow_back : (j n : ℕ) → 2 ^ j < 2 ^ n → j < n
pow_back j n h = elim (dec_lt j n) [ yes l ↦ l | no l ↦ absurd (omega (arith, pow_mono {i = n} {j = j} (omega arith))) ]

and_has : (s u j : ℕ) → has_bit j (bit_and s u) ≡ true → has_bit j u ≡ true
and_has s u j h = eq-eqb (u / 2 ^ j % 2) 1 (omega (arith, and_digit s u j, eqb-true (bit_and s u / 2 ^ j % 2) 1 h))

module _ (t : List Mark) (s key : ℕ) (d : Mark) (sorted : Sorted t) where
  keyed : ℕ
  keyed = bit_and s (mask_of (key_is key) t)

  picks : winner key (pick t s) ≡ winner key (pick t keyed)
  unfolding keyed
  picks = winner_only key (pick t s) ∙ ap (winner key) (sym (pick_mask (key_is key) t s))

  pub no_winner : bit_and s (mask_of (key_is key) t) ≡ 0 → winner key (pick t s) ≡ None
  unfolding keyed winner
  no_winner e = picks ∙ ap (λ (x : ℕ). winner key (pick t x)) e ∙ ap (winner key) (pick_none t)

  -- the highest bit of the set with the key is the winner
  pub top_winner : (j : ℕ) → 2 ^ j ≤ bit_and s (mask_of (key_is key) t) → bit_and s (mask_of (key_is key) t) < 2 ^ suc j → winner key (pick t s) ≡ Some (get_or t j d)
  unfolding keyed
  top_winner j h k =
      let low : 2 ^ j < 2 ^ length t = omega (arith, and_le_r s (mask_of (key_is key) t), mask_less (key_is key) t) in
      let l : j < length t = pow_back j (length t) low in
      let f : key_is key (get_or t j d) ≡ true =
      sym (mask_digit (key_is key) t j d l) ∙ and_has s (mask_of (key_is key) t) j (top_set j keyed h k)
      in
      let e = pick_top j t keyed d h k l in
      picks ∙ ap (winner key) e ∙ winner_last key (pick (take j t) keyed) (get_or t j d) (subst Sorted e (sorted_pick t keyed sorted)) ∙ (rw f)

-- ---- a turn of the loop that makes a mask, from the last mark down
mask_step : (f : Mark → Bool) (l : List Mark) (i : ℕ) (d : Mark) → i < length l → mask_of f (drop i l) ≡ mask_of f (drop (suc i) l) * 2 + as_bit (f (get_or l i d))
unfolding mask_of
mask_step f l i d h = ap (mask_of f) (drop-cons l i d h)

pub mask_end : (f : Mark → Bool) (t : List Mark) (n : ℕ) → mask_of f (drop n (take n t)) ≡ 0
unfolding mask_of
mask_end f t n = rw (drop_of_length-le (take n t) {i = n} (omega (arith, length-take n t)))

module _ (f : Mark → Bool) (t : List Mark) (n i : ℕ) (d : Mark) (more : 0 < i) (within : i ≤ n) (few : n ≤ 64) (long : n ≤ length t) where
  pub mask_turn : mask_of f (drop i (take n t)) * 2 + as_bit (f (get_or t (i - 1) d)) ≡ mask_of f (drop (i - 1) (take n t))
  mask_turn =
      let e : suc (i - 1) ≡ i = omega arith in
      sym (rw (e, get_or-take n t (i - 1) d (omega arith)) at (mask_step f (take n t) (i - 1) d (omega (arith, length-take n t))))

  pub mask_fits : mask_of f (drop i (take n t)) < 2 ^ 63
  mask_fits =
      omega (
        arith,
        mask_less f (drop i (take n t)),
        pow_mono {i = length (drop i (take n t))} {j = 63} (omega (arith, length-drop i (take n t), length-take n t)),
      )

-- ---- questions by masks
-- the highest bit is one only
pub one_top : (i j s : ℕ) → 2 ^ i ≤ s → s < 2 ^ suc i → 2 ^ j ≤ s → s < 2 ^ suc j → i ≡ j
one_top i j s a b c e =
    let f = pow_back i (suc j) (omega arith) in
    let g = pow_back j (suc i) (omega arith) in
    omega arith

-- what it says of the second mask is the answer
pub top_in_none : (k v : ℕ) → top_in k 0 v ≡ false
unfolding top_in
top_in_none zero v = refl
top_in_none (suc k) v = simp (has_past k k 0 (omega arith) (pow_pos k)) (top_in_none k v)

pub top_in_top : (k j u v : ℕ) → u < 2 ^ k → 2 ^ j ≤ u → u < 2 ^ suc j → top_in k u v ≡ has_bit j v
unfolding top_in
top_in_top zero j u v h a b = absurd (omega (arith, pow_pos j))
top_in_top (suc k) j u v h a b =
    elim (dec_lt u (2 ^ k)) [
      | yes g ↦ simp (has_past k k u (omega arith) g) (top_in_top k j u v g a b)
      | no g ↦ simp (top_set k u (omega arith) h) (ap (λ (x : ℕ). has_bit x v) (one_top k j u (omega arith) h a b))
    ]

-- the value shown for a key, by two masks of the table
pub shows_bits_lem : (t : List Mark) (s key : ℕ) (w : Value) (d : Mark) (k : ℕ) → Sorted t → bit_and s (mask_of (key_is key) t) < 2 ^ k
    → top_in k (bit_and s (mask_of (key_is key) t)) (mask_of (value_is w) t) ≡ shows_value key w (pick t s)
shows_bits_lem t s key w d k sorted h =
    elim (ℕ_discrete (bit_and s (mask_of (key_is key) t)) 0) [
      | yes e ↦ ap (λ (x : ℕ). top_in k x (mask_of (value_is w) t)) e ∙ top_in_none k (mask_of (value_is w) t) ∙ sym (ap (shown_by w) (no_winner t s key d sorted e))
      | no e ↦
          let u : ℕ = bit_and s (mask_of (key_is key) t) in
          let q = leading_top (length t) u (omega arith) (omega (arith, and_le_r s (mask_of (key_is key) t), mask_less (key_is key) t)) in
          top_in_top k q.0 u (mask_of (value_is w) t) h q.2 q.3
          ∙ mask_digit (value_is w) t q.0 d (omega (arith, q.1))
          ∙ sym (ap (shown_by w) (top_winner t s key d sorted q.0 q.2 q.3))
    ]

-- a key is there where its mask meets the set
nonempty : List Mark → Bool
nonempty [] = false
nonempty (m ∷ ms) = true

key_step : (a : Bool) (k : ℕ) (m : Mark) (ms : List Mark) → has_key k ms ≡ nonempty (only (key_is k) ms) → (a || has_key k ms) ≡ nonempty (cond a (m ∷ only (key_is k) ms) (only (key_is k) ms))
unfolding nonempty
key_step true k m ms h = refl
key_step false k m ms h = h

has_key_is : (k : ℕ) (l : List Mark) → has_key k l ≡ nonempty (only (key_is k) l)
unfolding has_key only nonempty
has_key_is k [] = refl
has_key_is k (m ∷ ms) = key_step (key_is k m) k m ms (has_key_is k ms)

nonempty_last : (xs : List Mark) (m : Mark) → nonempty (xs ++ m ∷ []) ≡ true
unfolding nonempty
nonempty_last [] m = refl
nonempty_last (x ∷ xs) m = refl

pub has_key_bits : (t : List Mark) (s key : ℕ) (d : Mark) → has_key key (pick t s) ≡ ltb 0 (bit_and s (mask_of (key_is key) t))
unfolding nonempty
has_key_bits t s key d =
    let u : ℕ = bit_and s (mask_of (key_is key) t) in
    let e : has_key key (pick t s) ≡ nonempty (pick t u) = has_key_is key (pick t s) ∙ ap nonempty (sym (pick_mask (key_is key) t s)) in
    elim (ℕ_discrete u 0) [
      | yes z ↦ e ∙ ap (λ (x : ℕ). nonempty (pick t x)) z ∙ ap nonempty (pick_none t) ∙ sym (le-ltb 0 u (omega arith))
      | no z ↦
          let q = leading_top (length t) u (omega arith) (omega (arith, and_le_r s (mask_of (key_is key) t), mask_less (key_is key) t)) in
          e
          ∙ ap nonempty (pick_top q.0 t u d q.2 q.3 (omega (arith, q.1)))
          ∙ nonempty_last (pick (take q.0 t) u) (get_or t q.0 d)
          ∙ sym (lt-ltb 0 u (omega arith))
    ]
