-- A turn of a walk over runs that fills windows: a run passed, a window closed. What a run is here is that its positions have one number of bits.
use Prim.Native.Nat.{ℕ, zero, suc, ◌+◌, ◌*◌, ◌≤◌, ◌<◌, ◌^◌, min, max}
use mathlib.Core.Path.{◌≡◌, refl, sym, ap, ap₂, ◌∙◌}
use mathlib.Core.Bool.{Bool, false, cond, ◌||◌}
use mathlib.Core.List.{List, ◌++◌, append-nil}
use native.Mathlib.Omega.{arith}
use native.Mathlib.Decide.{dec_lt}
use lib.Dec.{ltb}
use lib.ListN.{length, get_or, drop, set, length-set, drop_of_length-le}
use lib.Seq.{take_all}
use borrow.Author.Tests.{lt-ltb, le-ltb}
use Rattle.laws.proofs.Lists.{stored, stored_is}
use Rattle.runs.specs.Positions.{any_at}
use Rattle.runs.proofs.SeekLaws.{seek_to}
use Rattle.windows.specs.Windows.{list_from, shows_bits, first_of_set, first_over, over_window}
use Rattle.windows.proofs.FirstLaws.{seek_or, seek_ext, seek_none, any_empty, any_grow, any_same, any_behind, any_cap}

-- no set shows nothing
pub none_shown : (keyed nulls : ℕ) → shows_bits keyed nulls 0 ≡ false
none_shown keyed nulls = refl

-- ---- what is seen from `from` on, by the masks of the keys and the bits of each position
module _ (keyed : List ℕ) (nulls : ℕ) (bits : ℕ → ℕ) where
  shown : ℕ → ℕ → Bool
  shown j p = shows_bits (get_or keyed j 0) nulls (bits p)

  -- in no position
  pub nothing_yet : (from at : ℕ) → at ≤ from → 8 ≡ first_over keyed nulls bits from at
  unfolding shown
  nothing_yet from at h = sym (seek_none (λ j. any_at (shown j) from at) 0 8 (λ j. any_empty (shown j) from at h))

  -- with positions that have no bits
  pub seen_behind : (from at to : ℕ) → at ≤ to → ((p : ℕ) → at ≤ p → bits p ≡ 0) → first_over keyed nulls bits from to ≡ first_over keyed nulls bits from at
  unfolding shown
  seen_behind from at to h none =
      seek_ext (λ j. any_at (shown j) from to) (λ j. any_at (shown j) from at) 0 8
      (λ j. any_behind (shown j) from at to h (λ p a. ap (shows_bits (get_or keyed j 0) nulls) (none p a) ∙ none_shown (get_or keyed j 0) nulls))

  -- with numbers past the largest, behind which no position has bits
  pub seen_cap : (all : ℕ) → all ≤ 18446744073709551615 → ((p : ℕ) → all ≤ p → bits p ≡ 0) → (a b : ℕ)
      → first_over keyed nulls bits (min a 18446744073709551615) (min b 18446744073709551615) ≡ first_over keyed nulls bits a b
  unfolding shown
  seen_cap all fits none a b =
      seek_ext _ _ 0 8
      (λ j. any_cap (shown j) all 18446744073709551615 fits (λ p h. ap (shows_bits (get_or keyed j 0) nulls) (none p h) ∙ none_shown (get_or keyed j 0) nulls) a b)

  -- with a run from `at` to `end`, as far as it is asked
  module _ (from to at end first s : ℕ) (is : first ≡ first_over keyed nulls bits from at) (reached : at ≤ to) (up : at ≤ end) (on : (p : ℕ) → at ≤ p → p < end → bits p ≡ s) where
    few : first ≤ 8
    few = omega (arith, is, seek_to (λ j. any_at (λ p. shows_bits (get_or keyed j 0) nulls (bits p)) from at) 0 8)

    pub seen_run : min first (cond (ltb (max from at) (min to end)) (first_of_set keyed nulls s) 8) ≡ first_over keyed nulls bits from (min to end)
    unfolding shown
    seen_run =
        let b : ℕ = min to end in
        elim (dec_lt (max from at) b) [
          | yes h ↦
              ap (λ (x : Bool). min first (cond x (first_of_set keyed nulls s) 8)) (lt-ltb (max from at) b h)
              ∙ ap (λ (x : ℕ). min x (first_of_set keyed nulls s)) is
              ∙ sym (seek_or (λ j. any_at (shown j) from at) (λ j. shows_bits (get_or keyed j 0) nulls s) 0 8)
              ∙ sym
              (seek_ext (λ j. any_at (shown j) from b) (λ j. any_at (shown j) from at || shows_bits (get_or keyed j 0) nulls s) 0 8
              (λ j. any_grow (shown j) from at b (shows_bits (get_or keyed j 0) nulls s) (omega arith) h
              (λ p a c. ap (shows_bits (get_or keyed j 0) nulls) (on p (omega arith) (omega arith)))))
          | no h ↦
              let f = few in
              let e : min first 8 ≡ first = omega arith in
              ap (λ (x : Bool). min first (cond x (first_of_set keyed nulls s) 8)) (le-ltb (max from at) b (omega arith))
              ∙ e
              ∙ is
              ∙ sym (seek_ext (λ j. any_at (shown j) from b) (λ j. any_at (shown j) from at) 0 8 (λ j. any_same (shown j) from at b (omega arith) (omega arith)))
        ]

-- ---- the windows
-- w windows are written; the next begins at `from`, and of it the positions before `at` have been seen, where a run begins
pub record Filling (keyed : List ℕ) (nulls : ℕ) (bits : ℕ → ℕ) (start k : ℕ) (entry out : List ℕ) (at from first w : ℕ) : Type 0 where
  pub from_is : from ≡ min (start + w * k) 18446744073709551615
  pub reached : at ≤ min (from + k) 18446744073709551615
  pub seen : first ≡ first_over keyed nulls bits from at
  pub few : w ≤ length entry
  pub room : length out ≡ length entry
  pub is : out ≡ stored (over_window keyed nulls bits start k) entry w

pub filling_none : (keyed : List ℕ) (nulls : ℕ) (bits : ℕ → ℕ) (start k : ℕ) (entry : List ℕ) → start < 2 ^ 64
    → Filling keyed nulls bits start k entry entry 0 start 8 0
filling_none keyed nulls bits start k entry h =
    record {
      from_is = omega arith;
      reached = omega arith;
      seen = nothing_yet keyed nulls bits start 0 (omega arith);
      few = omega arith;
      room = refl;
      is = refl;
    }

module _ {keyed : List ℕ} {nulls : ℕ} {bits : ℕ → ℕ} {start k : ℕ} {entry out : List ℕ} {at from first w : ℕ} (inv : Filling keyed nulls bits start k entry out at from first w) {to : ℕ}
    (to_is : to ≡ min (from + k) 18446744073709551615) where
  next_is : to ≡ min (start + suc w * k) 18446744073709551615
  next_is =
      let f = inv.from_is in
      let z : start + suc w * k ≡ start + w * k + k = omega arith in
      omega (arith, z)

  -- a window closed: its first key is known, and the run that reaches further is the next window's
  module _ (all : ℕ) (fits : all ≤ 18446744073709551615) (none : (p : ℕ) → all ≤ p → bits p ≡ 0) (more : w < length entry) where
    closed : {x : ℕ} → x ≡ first_over keyed nulls bits from to → Filling keyed nulls bits start k entry (set out w x) at to 8 (w + 1)
    closed {x} e =
        let f : ℕ → ℕ = over_window keyed nulls bits start k in
        let s : w + 1 ≡ suc w = omega arith in
        let r = inv.reached in
        let here : x ≡ f w =
        e ∙ ap₂ (first_over keyed nulls bits) inv.from_is next_is ∙ seen_cap keyed nulls bits all fits none (start + w * k) (start + suc w * k) in
        record {
          from_is = next_is ∙ ap (λ (j : ℕ). min (start + j * k) 18446744073709551615) (sym s);
          reached = omega arith;
          seen = nothing_yet keyed nulls bits to at (omega arith);
          few = omega arith;
          room = length-set out w x ∙ inv.room;
          is = ap₂ (λ (xs : List ℕ) (y : ℕ). set xs w y) inv.is here ∙ ap (stored f entry) (sym s);
        }

    -- behind the last run
    pub closed_behind : ((p : ℕ) → at ≤ p → bits p ≡ 0) → Filling keyed nulls bits start k entry (set out w first) at to 8 (w + 1)
    closed_behind past =
        let r = inv.reached in
        closed (inv.seen ∙ sym (seen_behind keyed nulls bits from at to (omega arith) past))

    -- within one
    pub closed_within : {end s x : ℕ} → at ≤ end → ((p : ℕ) → at ≤ p → p < end → bits p ≡ s) → to < end
        → x ≡ min first (cond (ltb (max from at) (min to end)) (first_of_set keyed nulls s) 8)
        → Filling keyed nulls bits start k entry (set out w x) at to 8 (w + 1)
    closed_within {end} {s} up on h e =
        let r = inv.reached in
        let z : min to end ≡ to = omega arith in
        closed (e ∙ seen_run keyed nulls bits from to at end first s inv.seen (omega arith) up on ∙ ap (first_over keyed nulls bits from) z)

  -- a run passed that ends within the window
  pub passed : {end s x : ℕ} → at ≤ end → ((p : ℕ) → at ≤ p → p < end → bits p ≡ s) → end ≤ to
      → x ≡ min first (cond (ltb (max from at) (min to end)) (first_of_set keyed nulls s) 8)
      → Filling keyed nulls bits start k entry out end from x w
  passed {end} {s} up on h e =
      let r = inv.reached in
      let z : min to end ≡ end = omega arith in
      record {
        from_is = inv.from_is;
        reached = omega arith;
        seen = e ∙ seen_run keyed nulls bits from to at end first s inv.seen (omega arith) up on ∙ ap (first_over keyed nulls bits from) z;
        few = inv.few;
        room = inv.room;
        is = inv.is;
      }

-- ---- a list of numbers, one by one
module _ (f : ℕ → ℕ) where
  pub length_from : (i n : ℕ) → length (list_from f i n) ≡ n
  unfolding list_from
  length_from i zero = refl
  length_from i (suc n) = ap suc (length_from (suc i) n)

  pub at_from : (i n j : ℕ) → j < n → get_or (list_from f i n) j 0 ≡ f (i + j)
  unfolding list_from
  at_from i zero j h = absurd (omega arith)
  at_from i (suc n) zero h = let e : i ≡ i + 0 = omega arith in ap f e
  at_from i (suc n) (suc j) h = let e : suc i + j ≡ i + suc j = omega arith in at_from (suc i) n j (omega arith) ∙ ap f e

  -- n stores make its front
  pub stored_front : (ys : List ℕ) (n : ℕ) → n ≤ length ys → stored f ys n ≡ list_from f 0 n ++ drop n ys
  stored_front ys n h =
      let l = length_from 0 n in
      stored_is f (list_from f 0 n) ys 0 n (omega arith) h (λ j g. let e : j ≡ 0 + j = omega arith in ap f e ∙ sym (at_from 0 n j g))
      ∙ ap (λ (xs : List ℕ). xs ++ drop n ys) (take_all n (list_from f 0 n) (omega arith))

  pub stored_all : (ys : List ℕ) → stored f ys (length ys) ≡ list_from f 0 (length ys)
  stored_all ys =
      stored_front ys (length ys) (omega arith) ∙ ap (λ (xs : List ℕ). list_from f 0 (length ys) ++ xs) (drop_of_length-le ys {i = length ys} (omega arith)) ∙ append-nil (list_from f 0 (length ys))

pub filling_all : {keyed : List ℕ} {nulls : ℕ} {bits : ℕ → ℕ} {start k : ℕ} {entry out : List ℕ} {at from first w : ℕ}
    → Filling keyed nulls bits start k entry out at from first w → length out ≤ w
    → out ≡ list_from (over_window keyed nulls bits start k) 0 (length entry)
filling_all {keyed} {nulls} {bits} {start} {k} {entry} {w = w} inv h =
    let f : ℕ → ℕ = over_window keyed nulls bits start k in
    let g = inv.few in
    let r = inv.room in
    let e : w ≡ length entry = omega arith in
    inv.is ∙ ap (stored f entry) e ∙ stored_all f entry
