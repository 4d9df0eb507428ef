-- The lowest key, mark by mark and tank by tank; and the lowest keys one after another.
use mathlib.Core.Path.{◌≡◌, refl, sym, ap, ap₂, ◌∙◌}
use mathlib.Core.Bool.{true, false}
use mathlib.Core.List.{List, [], ◌∷◌, ◌++◌, append_assoc, append-nil}
use Prim.Native.Nat.{ℕ, suc, ◌+◌, ◌-◌, ◌≤◌, ◌<◌, min}
use native.Mathlib.Numerals.{add-one}
use native.Mathlib.Omega.{arith}
use lib.ListN.{length, get_or, take, set, length-set}
use lib.Seq.{take-suc, take_all, take-suc-set}
use borrow.Author.Tests.{le-leb, lt-leb}
use Rattle.styles.specs.declared.Mark.{Mark}
use Rattle.styles.specs.Marks.{blank}
use Rattle.tank.specs.declared.Tank.{Tank}
use Rattle.tank.specs.Rules.{View}
use Rattle.tank.specs.State as state
use Rattle.tank.proofs.Unique.{marks_carried}
use Rattle.tanks.specs.House.{House, tank_at}
use Rattle.styles.specs.declared.Party.{Party}
use Rattle.std.specs.Prelude.{Option}
use Rattle.key_legend.specs.Keys.{no_key, is_for, key_from, lowest_of, first_in, first_below, first_key, next_key, keys_from, lowest_keys}

-- ---- one mark
module _ (whose : Option Party) (least : ℕ) (m : Mark) where
  pub key_taken : is_for whose m ≡ true → least ≤ m.key → m.key ≡ key_from whose least m
  key_taken e h = rw e (rw (le-leb least m.key h))

-- ---- marks one after another
module _ (whose : Option Party) (least : ℕ) where
  min_over : (a b c : ℕ) → min a (min b c) ≡ min (min a b) c
  min_over a b c = omega arith

  min_turned : (a b : ℕ) → min a b ≡ min b a
  min_turned a b = omega arith

  lowest_snoc : (ms : List Mark) (m : Mark) → lowest_of whose least (ms ++ (m ∷ [])) ≡ min (lowest_of whose least ms) (key_from whose least m)
  unfolding lowest_of
  lowest_snoc [] m = min_turned (key_from whose least m) no_key
  lowest_snoc (x ∷ ms) m =
      ap (min (key_from whose least x)) (lowest_snoc ms m) ∙ min_over (key_from whose least x) (lowest_of whose least ms) (key_from whose least m)

  pub lowest_none : (ms : List Mark) → no_key ≡ lowest_of whose least (take 0 ms)
  unfolding lowest_of
  lowest_none ms = refl

  -- a mark more
  pub lowest_on : (ms : List Mark) (i first k low : ℕ) → i < length ms → k ≡ key_from whose least (get_or ms i blank)
      → first ≡ lowest_of whose least (take i ms) → low ≡ min first k → low ≡ lowest_of whose least (take (i + 1) ms)
  lowest_on ms i first k low h e f g =
      g ∙ ap₂ min f e
      ∙ sym (ap (λ (j : ℕ). lowest_of whose least (take j ms)) (add-one i) ∙ ap (lowest_of whose least) (take-suc ms i blank h) ∙ lowest_snoc (take i ms) (get_or ms i blank))

  -- all marks of a tank
  pub lowest_all : (t : Tank) → state.Sound t → (first : ℕ) → first ≡ lowest_of whose least (state.table_of t) → first ≡ first_in whose least (state.view t)
  unfolding first_in
  lowest_all t s first e = e ∙ ap (lowest_of whose least) (sym (marks_carried s.formed))

-- ---- tank by tank
module _ (whose : Option Party) (least : ℕ) (h : House) where
  pub tanks_none : no_key ≡ first_below whose least h 0
  unfolding first_below
  tanks_none = refl

  pub tanks_on : (t first k low : ℕ) (v : View) → v ≡ tank_at h t → first ≡ first_below whose least h t → k ≡ first_in whose least v → low ≡ min first k → low ≡ first_below whose least h (t + 1)
  unfolding first_below
  tanks_on t first k low v at e f g = rw (add-one t) (g ∙ ap₂ min e (f ∙ ap (first_in whose least) at))

  pub tanks_all : (t first : ℕ) → t ≤ 8 → 8 ≤ t → first ≡ first_below whose least h t → first ≡ first_key whose least h
  unfolding first_key
  tanks_all t first a b e = let z : t ≡ 8 = omega arith in e ∙ ap (first_below whose least h) z

-- ---- key after key
-- the first i of n keys stand, and those from `least` on are to come
pub record Underway (whose : Option Party) (h : House) (n : ℕ) (keys : List ℕ) (least i : ℕ) : Type 0 where
  pub long : length keys ≡ n
  pub within : i ≤ n
  pub is : take i keys ++ keys_from whose least h (n - i) ≡ lowest_keys whose h n

module _ (whose : Option Party) (h : House) where
  pub keys_on : (n : ℕ) (keys : List ℕ) (least i key next : ℕ) → Underway whose h n keys least i → i < n → key ≡ first_key whose least h → next ≡ next_key key
      → Underway whose h n (set keys i key) next (i + 1)
  unfolding keys_from
  keys_on n keys least i key next u l e f =
      let z : n - i ≡ suc (n - (i + 1)) = omega arith in
      record {
        long = length-set keys i key ∙ u.long;
        within = omega arith;
        is = ap₂ (λ (xs : List ℕ) (k : ℕ). xs ++ keys_from whose k h (n - (i + 1))) (ap (λ (j : ℕ). take j (set keys i key)) (add-one i) ∙ take-suc-set keys i key (omega (arith, u.long))) f
            ∙ append_assoc (take i keys) (key ∷ []) (keys_from whose (next_key key) h (n - (i + 1)))
            ∙ ap (λ (k : ℕ). take i keys ++ k ∷ keys_from whose (next_key k) h (n - (i + 1))) e
            ∙ ap (λ (j : ℕ). take i keys ++ keys_from whose least h j) (sym z)
            ∙ u.is;
      }

  pub keys_all : (n : ℕ) (keys : List ℕ) (least i : ℕ) → Underway whose h n keys least i → n ≤ i → keys ≡ lowest_keys whose h n
  unfolding keys_from
  keys_all n keys least i u l =
      let z : n - i ≡ 0 = omega arith in
      sym (take_all i keys (omega (arith, u.long)))
      ∙ sym (append-nil (take i keys))
      ∙ ap (λ (j : ℕ). take i keys ++ keys_from whose least h j) (sym z)
      ∙ u.is
