-- A cell's letter is that of the first key seen in its window; 96 stores are the strip at the front of the buffer; the number by its cases.
use Prim.Native.Nat.{ℕ, zero, suc, ◌+◌, ◌*◌, ◌≤◌, ◌<◌}
use mathlib.Core.Path.{◌≡◌, refl, sym, ap, ap₂, ◌∙◌}
use mathlib.Core.Bool.{Bool, true, false, cond}
use mathlib.Core.List.{List, ◌∷◌, ◌++◌, append-nil}
use native.Mathlib.Omega.{arith}
use lib.Dec.{ltb, leb, eqb}
use lib.ListN.{length, get_or, drop, drop_of_length-le}
use borrow.Author.Tests.{le-leb, lt-leb, lt-ltb, le-ltb, eq-eqb, ne_eqb}
use Rattle.laws.proofs.Lists.{stored}
use Rattle.runs.specs.Positions.{seek_from}
use Rattle.runs.specs.Stretches.{in_front}
use Rattle.windows.specs.Windows.{list_from, shown_in, first_in, window_at, windows}
use Rattle.windows.proofs.WalkLaws.{length_from, at_from, stored_front}
use Rattle.tank.specs.Rules.{View, when_accepted}
use Rattle.tanks.specs.House.{no_tank}
use Rattle.strip.specs.Strip.{dot, letter_from, cell_at, strip, strip_number}
use Rattle.strip.specs.Cells.{letter_of, letters_of}

-- ---- a cell
module _ (v : View) (keys letters : List ℕ) (from to : ℕ) where
  shown : ℕ → Bool
  shown = shown_in v keys from to

  seek_here : (j n : ℕ) → shown j ≡ true → seek_from shown j (suc n) ≡ j
  unfolding seek_from
  seek_here j n e = ap (λ (b : Bool). cond b j (seek_from shown (suc j) n)) e

  seek_on : (j n : ℕ) → shown j ≡ false → seek_from shown j (suc n) ≡ seek_from shown (suc j) n
  unfolding seek_from
  seek_on j n e = ap (λ (b : Bool). cond b j (seek_from shown (suc j) n)) e

  -- the letter at a place before `end`
  letter_before : ℕ → ℕ → ℕ
  letter_before end first = cond (ltb first end) (get_or letters first 0) dot

  letter_seen : (j n : ℕ) → letter_from v keys letters from to j n ≡ letter_before (j + n) (seek_from shown j n)
  unfolding letter_from seek_from letter_before shown
  letter_seen j zero = sym (ap (λ (b : Bool). cond b (get_or letters j 0) dot) (le-ltb j (j + 0) (omega arith)))
  letter_seen j (suc n) = go (shown j) refl (letter_seen (suc j) n)
    where
      go : (b : Bool) → shown j ≡ b → letter_from v keys letters from to (suc j) n ≡ letter_before (suc j + n) (seek_from shown (suc j) n)
          → cond b (get_or letters j 0) (letter_from v keys letters from to (suc j) n) ≡ letter_before (j + suc n) (cond b j (seek_from shown (suc j) n))
      go true e r = sym (ap (λ (c : Bool). cond c (get_or letters j 0) dot) (lt-ltb j (j + suc n) (omega arith)))
      go false e r = let z : suc j + n ≡ j + suc n = omega arith in r ∙ ap (λ (x : ℕ). letter_before x (seek_from shown (suc j) n)) z

  pub letter_is : letter_of letters (first_in v keys from to) ≡ letter_from v keys letters from to 0 8
  unfolding letter_before shown
  letter_is = sym (letter_seen 0 8)

-- ---- the cells
pub from_within : (f g : ℕ → ℕ) (i n : ℕ) → ((j : ℕ) → j < i + n → f j ≡ g j) → list_from f i n ≡ list_from g i n
unfolding list_from
from_within f g i zero e = refl
from_within f g i (suc n) e =
    ap₂ (λ (x : ℕ) (xs : List ℕ). x ∷ xs) (e i (omega arith)) (from_within f g (suc i) n (λ j h. e j (omega arith)))

pub cells_are : (v : View) (keys letters : List ℕ) (start k : ℕ) → letters_of letters (windows v keys start k 96) ≡ strip v keys letters start k
cells_are v keys letters start k =
    from_within (λ i. letter_of letters (get_or (windows v keys start k 96) i 0)) (cell_at v keys letters start k) 0 96
    (λ i h.
    let z : 0 + i ≡ i = omega arith in
    ap (letter_of letters) (at_from (window_at v keys start k) 0 96 i (omega arith) ∙ ap (window_at v keys start k) z)
    ∙ letter_is v keys letters (start + i * k) (start + suc i * k))

-- ---- the spelling: all cells stand at the front of the buffer
pub spelt_all : (f : ℕ → ℕ) (first out : List ℕ) (i : ℕ) → out ≡ stored f first i → i ≡ 96 → 96 ≤ length first → out ≡ in_front (list_from f 0 96) first
spelt_all f first out i is e r =
    is ∙ ap (stored f first) e ∙ stored_front f first 96 r ∙ ap (λ (n : ℕ). list_from f 0 96 ++ drop n first) (sym (length_from f 0 96))

-- ---- the number
module _ (t k room : ℕ) where
  pub number_1 : 8 ≤ t → strip_number t k room ≡ 1
  unfolding strip_number
  number_1 h = rw (le-leb 8 t h) refl

  pub number_3 : t < 8 → k ≡ 0 → strip_number t k room ≡ 3
  unfolding strip_number
  number_3 h e = rw (lt-leb 8 t h, eq-eqb k 0 e) refl

  pub number_11 : t < 8 → (k ≡ 0 → ⊥) → room < 96 → strip_number t k room ≡ 11
  unfolding strip_number
  number_11 h e g = rw (lt-leb 8 t h, ne_eqb k 0 e, lt-ltb room 96 g) refl

  pub number_0 : t < 8 → (k ≡ 0 → ⊥) → 96 ≤ room → strip_number t k room ≡ 0
  unfolding strip_number
  number_0 h e g = rw (lt-leb 8 t h, ne_eqb k 0 e, le-ltb room 96 g) refl

-- what stands beside a number
pub beside : {A : Type 0} (n m : ℕ) (x y : A) → n ≡ suc m → y ≡ when_accepted n x y
beside n m x y e = rw (e, ne_eqb (suc m) 0 (λ z. omega arith)) refl

pub beside_0 : {A : Type 0} (n : ℕ) (x y : A) → n ≡ 0 → x ≡ when_accepted n x y
beside_0 n x y e = rw e refl

-- where there is no such tank it is the refused
pub by_tank : {A : Type 0} (t k room : ℕ) (x y : A) → when_accepted (strip_number t k room) x y ≡ cond (no_tank t) y (when_accepted (strip_number t k room) x y)
unfolding strip_number
by_tank t k room x y = go (no_tank t) (cond (eqb k 0) 3 (cond (ltb room 96) 11 0))
  where
    go : (b : Bool) (n : ℕ) → when_accepted (cond b 1 n) x y ≡ cond b y (when_accepted (cond b 1 n) x y)
    go true n = refl
    go false n = refl

-- a buffer of 96 bytes is the strip
pub strip_whole : (v : View) (keys letters : List ℕ) (start k : ℕ) (out : List ℕ) → length out ≡ 96 → in_front (strip v keys letters start k) out ≡ strip v keys letters start k
strip_whole v keys letters start k out h =
    let l = length_from (cell_at v keys letters start k) 0 96 in
    ap (λ (xs : List ℕ). strip v keys letters start k ++ xs) (drop_of_length-le out {i = length (strip v keys letters start k)} (omega arith)) ∙ append-nil (strip v keys letters start k)

-- it has room in 96 bytes, and in no fewer
pub number_room : (t k a b : ℕ) → 96 ≤ a → 96 ≤ b → strip_number t k a ≡ strip_number t k b
unfolding strip_number
number_room t k a b h g = rw (le-ltb a 96 h, le-ltb b 96 g) refl

pub number_short : (t k a b : ℕ) → a < 96 → b < 96 → strip_number t k a ≡ strip_number t k b
unfolding strip_number
number_short t k a b h g = rw (lt-ltb a 96 h, lt-ltb b 96 g) refl

pub short_refused : (t k room : ℕ) → room < 96 → strip_number t k room ≡ 0 → ⊥
unfolding strip_number
short_refused t k room h e = go (leb 8 t) (eqb k 0) (sym (ap (λ (b : Bool). cond {A = ℕ} (leb 8 t) 1 (cond (eqb k 0) 3 (cond b 11 0))) (lt-ltb room 96 h)) ∙ e)
  where
    go : (a b : Bool) → ◌≡◌ {A = ℕ} (cond a 1 (cond b 3 11)) 0 → ⊥
    go true b z = absurd (omega (arith, z))
    go false true z = absurd (omega (arith, z))
    go false false z = absurd (omega (arith, z))
