-- The letters of keys that are there differ from each other. The lowest key is the key of a mark that is asked for, and no such mark has a
-- lower one; and the lowest keys stand in order.
use mathlib.Core.Path.{◌≡◌, refl, sym, ◌∙◌}
use mathlib.Core.Bool.{Bool, true, false, cond, ◌&&◌, not, true≢false, and-eq-true_iff}
use mathlib.Core.List.{List, [], ◌∷◌, ◌++◌}
use Prim.Native.Nat.{ℕ, zero, suc, ◌+◌, ◌≤◌, ◌<◌, min}
use native.Mathlib.Decide.{ℕ_discrete, dec_lt}
use native.Mathlib.Omega.{arith}
use lib.Dec.{leb}
use lib.ListN.{length, get_or}
use borrow.Author.Tests.{leb-true, le-ltb, not-true}
use Rattle.styles.specs.declared.Mark.{Mark}
use Rattle.styles.specs.Marks.{blank}
use Rattle.tank.specs.Rules.{carried}
use Rattle.tanks.specs.House.{House, tank_at}
use Rattle.text.specs.Bytes.{holds}
use Rattle.text.proofs.Finding.{held_here, held_past}
use Rattle.key_names.specs.Names.{Named, is_named}
use Rattle.styles.specs.declared.Party.{Party}
use Rattle.std.specs.Prelude.{Option}
use Rattle.key_legend.specs.Keys.{no_key, is_for, key_from, lowest_of, first_in, first_below, first_key, next_key, keys_from}
use Rattle.key_legend.specs.Letters.{is_letter, initial_of, is_free, letter_of, letters_from, letters_of}
use Rattle.key_legend.proofs.Lowest.{key_taken}

-- ---- letters
-- what the letter of a key that is there may be: one of the alphabet that none before is, or the digit of its place
pub data Fresh (before : List ℕ) (i c : ℕ) : Type 0 where
  letter : 97 ≤ c → holds c before ≡ false → Fresh before i c
  digit : c ≡ 49 + i → Fresh before i c

fresh_by : (names : List Named) (before : List ℕ) (i key : ℕ) (b : Bool) → is_free names before key ≡ b → Fresh before i (cond b (initial_of names key) (49 + i))
fresh_by names before i key true e =
    let c : ℕ = initial_of names key in
    let p = (and-eq-true_iff (is_named names key) (is_letter c && not (holds c before))).0 e in
    let q = (and-eq-true_iff (is_letter c) (not (holds c before))).0 p.1 in
    let l = (and-eq-true_iff (leb 97 c) (leb c 122)).0 q.0 in
    letter (leb-true 97 c l.0) (not-true (holds c before) q.1)
fresh_by names before i key false e = digit refl

fresh_letter : (names : List Named) (before : List ℕ) (i key : ℕ) → key ≤ 65535 → Fresh before i (letter_of names before i key)
fresh_letter names before i key h = rw (le-ltb 65535 key h) (fresh_by names before i key (is_free names before key) refl)

-- none of more is none of fewer
lacks_front : (c d : ℕ) (xs : List ℕ) → holds c (xs ++ (d ∷ [])) ≡ false → (holds c xs ≡ false) × (d ≡ c → ⊥)
unfolding holds
lacks_front c d [] e = (refl, λ q. true≢false (sym (held_here c d [] q) ∙ e))
lacks_front c d (x ∷ xs) e =
    elim (ℕ_discrete x c) [
      | yes q ↦ absurd (true≢false (sym (held_here c x (xs ++ (d ∷ [])) q) ∙ e))
      | no q ↦ let r = lacks_front c d xs (sym (held_past c x (xs ++ (d ∷ [])) q) ∙ e) in (held_past c x xs q ∙ r.0, r.1)
    ]

fewer : (before : List ℕ) (d i j c : ℕ) → suc i + j ≡ i + suc j → Fresh (before ++ (d ∷ [])) (suc i + j) c → Fresh before (i + suc j) c
fewer before d i j c e (letter h l) = letter h (lacks_front c d before l).0
fewer before d i j c e (digit h) = digit (omega arith)

-- each letter of a row
fresh_at : (names : List Named) (keys before : List ℕ) (i j : ℕ) → j < length keys → get_or keys j 0 ≤ 65535 → Fresh before (i + j) (get_or (letters_from names before i keys) j 0)
unfolding letters_from
fresh_at names [] before i j h k = absurd (omega arith)
fresh_at names (key ∷ keys) before i zero h k = let z : i + 0 ≡ i = omega arith in rw z (fresh_letter names before i key k)
fresh_at names (key ∷ keys) before i (suc j) h k =
    let c : ℕ = letter_of names before i key in
    fewer before c i j _ (omega arith) (fresh_at names keys (before ++ (c ∷ [])) (suc i) j (omega arith) k)

-- of two the later is another
other : (before : List ℕ) (i j c d : ℕ) → i < j → j < 8 → Fresh before i c → Fresh (before ++ (c ∷ [])) j d → (c ≡ d → ⊥)
other before i j c d h m f (letter l k) e = (lacks_front d c before k).1 e
other before i j c d h m (letter l k) (digit q) e = omega arith
other before i j c d h m (digit p) (digit q) e = omega arith

differ : (names : List Named) (keys before : List ℕ) (i j k : ℕ) → i + length keys ≤ 8 → j < k → k < length keys → get_or keys j 0 ≤ 65535 → get_or keys k 0 ≤ 65535
    → (get_or (letters_from names before i keys) j 0 ≡ get_or (letters_from names before i keys) k 0 → ⊥)
unfolding letters_from
differ names [] before i j k few h m p q e = omega arith
differ names (key ∷ keys) before i j zero few h m p q e = omega arith
differ names (key ∷ keys) before i zero (suc k) few h m p q e =
    let c : ℕ = letter_of names before i key in
    other before i (suc i + k) c _ (omega arith) (omega arith) (fresh_letter names before i key p) (fresh_at names keys (before ++ (c ∷ [])) (suc i) k (omega arith) q) e
differ names (key ∷ keys) before i (suc j) (suc k) few h m p q e =
    differ names keys (before ++ (letter_of names before i key ∷ [])) (suc i) j k (omega arith) (omega arith) (omega arith) p q e

pub letters_differ : (names : List Named) (keys : List ℕ) (j k : ℕ) → length keys ≤ 8 → j < k → k < length keys → get_or keys j 0 ≤ 65535 → get_or keys k 0 ≤ 65535
    → (get_or (letters_of names keys) j 0 ≡ get_or (letters_of names keys) k 0 → ⊥)
unfolding letters_of
letters_differ names keys j k few h m p q e = differ names keys [] 0 j k (omega arith) h m p q e

-- ---- keys
-- a mark that is asked for has this key, in one of the eight tanks
pub record Occurs (whose : Option Party) (h : House) (k : ℕ) : Type 0 where
  pub tank : ℕ
  pub place : ℕ
  pub among_tanks : tank < 8
  pub among_marks : place < length (carried (tank_at h tank))
  pub asked : is_for whose (get_or (carried (tank_at h tank)) place blank) ≡ true
  pub key_is_lem : (get_or (carried (tank_at h tank)) place blank).key ≡ k

-- no mark has a lower key
lowest_least : (whose : Option Party) (least : ℕ) (ms : List Mark) (i : ℕ) → i < length ms → is_for whose (get_or ms i blank) ≡ true → least ≤ (get_or ms i blank).key → lowest_of whose least ms ≤ (get_or ms i blank).key
unfolding lowest_of
lowest_least whose least [] i h a b = absurd (omega arith)
lowest_least whose least (m ∷ ms) zero h a b = omega (arith, key_taken whose least m a b)
lowest_least whose least (m ∷ ms) (suc i) h a b = omega (arith, lowest_least whose least ms i (omega arith) a b)

-- and the lowest is that of a mark
record Found (whose : Option Party) (least : ℕ) (ms : List Mark) (k : ℕ) : Type 0 where
  place : ℕ
  inside : place < length ms
  asked : is_for whose (get_or ms place blank) ≡ true
  key_is_lem : (get_or ms place blank).key ≡ k
  low : least ≤ k

found_first : (whose : Option Party) (least : ℕ) (m : Mark) (ms : List Mark) (b : Bool) → (is_for whose m && leb least m.key) ≡ b → cond b m.key no_key < no_key → Found whose least (m ∷ ms) (cond b m.key no_key)
found_first whose least m ms true e h =
    let a = (and-eq-true_iff (is_for whose m) (leb least m.key)).0 e in
    record { place = 0; inside = omega arith; asked = a.0; key_is_lem = refl; low = leb-true least m.key a.1 }
found_first whose least m ms false e h = absurd (omega arith)

lowest_there : (whose : Option Party) (least : ℕ) (ms : List Mark) → lowest_of whose least ms < no_key → Found whose least ms (lowest_of whose least ms)
unfolding lowest_of
lowest_there whose least [] h = absurd (omega arith)
lowest_there whose least (m ∷ ms) h =
    elim (dec_lt (lowest_of whose least ms) (key_from whose least m)) [
      | yes l ↦
          let z : min (key_from whose least m) (lowest_of whose least ms) ≡ lowest_of whose least ms = omega arith in
          let f = lowest_there whose least ms (omega arith) in
          rw z record { place = suc f.place; inside = omega (arith, f.inside); asked = f.asked; key_is_lem = f.key_is_lem; low = f.low }
      | no l ↦
          let z : min (key_from whose least m) (lowest_of whose least ms) ≡ key_from whose least m = omega arith in
          rw z (found_first whose least m ms (is_for whose m && leb least m.key) refl (omega arith))
    ]

next_most : (k : ℕ) → next_key k ≤ no_key
next_most k = omega arith

next_over : (k a : ℕ) → k < no_key → next_key k ≤ a → k < a
next_over k a h l = omega arith

apart : (a b : ℕ) → (a ≡ b → ⊥) → a ≤ b → a + 1 ≤ b
apart a b e h = omega arith

next_low : (k a : ℕ) → k + 1 ≤ a → next_key k ≤ a
next_low k a h = omega arith

module _ (whose : Option Party) (h : House) where
  below_least : (least n t : ℕ) → t < n → first_below whose least h n ≤ first_in whose least (tank_at h t)
  unfolding first_below
  below_least least zero t l = absurd (omega arith)
  below_least least (suc n) t l =
      elim (ℕ_discrete t n) [
        | yes e ↦ rw e (omega arith)
        | no e ↦ omega (arith, below_least least n t (omega arith))
      ]

  below_most : (least n : ℕ) → first_below whose least h n ≤ no_key
  unfolding first_below
  below_most least zero = omega arith
  below_most least (suc n) = omega (arith, below_most least n)

  below_there : (least n : ℕ) → first_below whose least h n < no_key → (t : ℕ) × (t < n) × (first_in whose least (tank_at h t) ≡ first_below whose least h n)
  unfolding first_below
  below_there least zero l = absurd (omega arith)
  below_there least (suc n) l =
      elim (dec_lt (first_below whose least h n) (first_in whose least (tank_at h n))) [
        | yes g ↦ let r = below_there least n (omega arith) in (r.0, omega (arith, r.1), omega (arith, r.2))
        | no g ↦ (n, omega arith, omega arith)
      ]

  -- no mark that is asked for has a key that is at least so much and lower
  pub key_lowest : (least k : ℕ) → Occurs whose h k → least ≤ k → first_key whose least h ≤ k
  unfolding first_key first_in
  key_lowest least k o l =
      let e = o.key_is_lem in
      omega (
        arith,
        below_least least 8 o.tank o.among_tanks,
        lowest_least whose least (carried (tank_at h o.tank)) o.place o.among_marks o.asked (omega arith),
      )

  -- and some mark has the lowest
  pub key_occurs : (least : ℕ) → first_key whose least h < no_key → Occurs whose h (first_key whose least h) × (least ≤ first_key whose least h)
  unfolding first_key first_in
  key_occurs least l =
      let r = below_there least 8 l in
      let f = lowest_there whose least (carried (tank_at h r.0)) (omega (arith, r.2)) in
      (record { tank = r.0; place = f.place; among_tanks = r.1; among_marks = f.inside; asked = f.asked; key_is_lem = f.key_is_lem ∙ r.2 }, omega (arith, f.low, r.2))

  first_most : (least : ℕ) → first_key whose least h ≤ no_key
  unfolding first_key
  first_most least = below_most least 8

  first_above : (least : ℕ) → least ≤ no_key → least ≤ first_key whose least h
  first_above least l =
      elim (dec_lt (first_key whose least h) no_key) [
        | yes g ↦ (key_occurs least g).1
        | no g ↦ omega arith
      ]

  -- the lowest keys stand in order
  pub keys_rise : (n j least : ℕ) → j + 1 < n → get_or (keys_from whose least h n) j 0 < no_key → get_or (keys_from whose least h n) j 0 < get_or (keys_from whose least h n) (j + 1) 0
  unfolding keys_from
  keys_rise zero j least l g = absurd (omega arith)
  keys_rise (suc zero) j least l g = absurd (omega arith)
  keys_rise (suc (suc n)) zero least l g =
      next_over (first_key whose least h) (first_key whose (next_key (first_key whose least h)) h) g (first_above (next_key (first_key whose least h)) (next_most (first_key whose least h)))
  keys_rise (suc (suc n)) (suc j) least l g =
      let z : suc j + 1 ≡ suc (j + 1) = omega arith in
      rw z (keys_rise (suc n) j (next_key (first_key whose least h)) (omega arith) g)

  -- and none between them is left out
  pub keys_whole : (n j least k : ℕ) → Occurs whose h k → least ≤ k → j < n → k ≤ get_or (keys_from whose least h n) j 0 → holds k (keys_from whose least h n) ≡ true
  unfolding keys_from
  keys_whole zero j least k o l m q = absurd (omega arith)
  keys_whole (suc n) j least k o l m q =
      elim (ℕ_discrete (first_key whose least h) k) [
        | yes e ↦ held_here k (first_key whose least h) (keys_from whose (next_key (first_key whose least h)) h n) e
        | no e ↦
            held_past k (first_key whose least h) (keys_from whose (next_key (first_key whose least h)) h n) e
            ∙ later (keys_from whose (next_key (first_key whose least h)) h n) j m q (apart (first_key whose least h) k e (key_lowest least k o l))
            (λ i b r. keys_whole n i (next_key (first_key whose least h)) k o (next_low (first_key whose least h) k (apart (first_key whose least h) k e (key_lowest least k o l))) b r)
      ] where
        later : (ks : List ℕ) (j : ℕ) → j < suc n → k ≤ get_or (first_key whose least h ∷ ks) j 0 → first_key whose least h + 1 ≤ k → ((i : ℕ) → i < n → k ≤ get_or ks i 0 → holds k ks ≡ true) → holds k ks ≡ true
        later ks zero m q g again = absurd (omega arith)
        later ks (suc j) m q g again = again j (omega arith) q
