-- The questions over a range: what `any_at`, `all_at` and `stretch_to` say, and a turn of the walk back over the runs.
use Prim.Native.Nat.{ℕ, zero, suc, ◌+◌, ◌-◌, ◌^◌, ◌≤◌, ◌<◌, min}
use mathlib.Core.Path.{◌≡◌, refl, sym, ap, ap₂, ◌∙◌}
use mathlib.Core.Bool.{Bool, true, false, cond, not, ◌&&◌, ◌||◌, true≢false, and-eq-true_iff, or-true, not-not}
use mathlib.Core.List.{List}
use native.Mathlib.Omega.{arith}
use native.Mathlib.Decide.{dec_lt, dec_le}
use native.Mathlib.Numerals.{sub-one}
use lib.Dec.{ltb, leb, eqb}
use lib.Bits.{bit_and, and_zero_r, and_self}
use lib.ListN.{length, get_or}
use borrow.Author.Tests.{ltb-true, lt-ltb, le-ltb, le-leb, lt-leb, eq-eqb, ne_eqb, not-false, not-true}
use Rattle.runs.specs.Runs.{Run, runs, total, set_at, sums, Found}
use Rattle.runs.specs.Positions.{any_at, all_at, stretch_to}
use Rattle.runs.specs.Scan.{meets, common_at, CanFind}
use Rattle.runs.proofs.Copies.{clip}
use Rattle.runs.proofs.Laws.{total_sums, found_set, at_past}

-- ---- tests
pub second_fails : (a b : Bool) → a ≡ true → (a && b) ≡ false → b ≡ false
second_fails a b h e = ap (λ x. x && b) (sym h) ∙ e

-- a set that does not meet a mask, and one that does, as the code asks it
pub no_bit : (s : ℕ) → eqb s 0 ≡ not (ltb 0 s)
no_bit s = elim (dec_lt 0 s) [ yes h ↦ simp (lt-ltb 0 s h, ne_eqb s 0 (λ e. omega arith)) | no h ↦ simp (le-ltb 0 s (omega arith), eq-eqb s 0 (omega arith)) ]

pub some_bit : (s : ℕ) → not (eqb s 0) ≡ ltb 0 s
some_bit s = ap not (no_bit s) ∙ not-not _

-- ---- some position passes
module _ (test : ℕ → Bool) (from : ℕ) where
  pub any_yes : (to p : ℕ) → from ≤ p → p < to → test p ≡ true → any_at test from to ≡ true
  unfolding any_at
  any_yes zero p g h e = absurd (omega arith)
  any_yes (suc q) p g h e =
      elim (dec_lt p q) [
        | yes k ↦ simp (any_yes q p g k e)
        | no k ↦ let i : p ≡ q = omega arith in ap (λ x. any_at test from q || x) (simp (le-leb from q (omega arith)) (ap test (sym i) ∙ e)) ∙ or-true (any_at test from q)
      ]

  pub any_no : (to : ℕ) → ((p : ℕ) → from ≤ p → p < to → test p ≡ false) → any_at test from to ≡ false
  unfolding any_at
  any_no zero h = refl
  any_no (suc q) h =
      let r = any_no q (λ p a b. h p a (omega arith)) in
      elim (dec_le from q) [
        | yes k ↦ simp (r, le-leb from q k) (h q k (omega arith))
        | no k ↦ simp (r, lt-leb from q (omega arith))
      ]

  pub any_none : (to : ℕ) → any_at test from to ≡ false → (p : ℕ) → from ≤ p → p < to → test p ≡ false
  any_none to e p g h = go (test p) refl
    where
      go : (b : Bool) → test p ≡ b → test p ≡ false
      go true t = absurd (true≢false (sym (any_yes to p g h t) ∙ e))
      go false t = t

  pub any_some : (to : ℕ) → any_at test from to ≡ true → (p : ℕ) × (from ≤ p) × (p < to) × (test p ≡ true)
  unfolding any_at
  any_some zero e = absurd (true≢false (sym e))
  any_some (suc q) e = go (any_at test from q) (leb from q) (any_some q) refl e
    where
      go : (a b : Bool) → (a ≡ true → (p : ℕ) × (from ≤ p) × (p < q) × (test p ≡ true)) → leb from q ≡ b → (a || (b && test q)) ≡ true
          → (p : ℕ) × (from ≤ p) × (p < suc q) × (test p ≡ true)
      go true b x y z = let r = x refl in (r.0, r.1, omega (arith, r.2), r.3)
      go false true x y z = (q, elim (dec_le from q) [ yes k ↦ k | no k ↦ absurd (true≢false (sym y ∙ lt-leb from q (omega arith))) ], omega arith, z)
      go false false x y z = absurd (true≢false (sym z))

-- tests that agree over the range give one answer
pub any_ext : (test test' : ℕ → Bool) (from to : ℕ) → ((p : ℕ) → from ≤ p → p < to → test p ≡ test' p) → any_at test from to ≡ any_at test' from to
unfolding any_at
any_ext test test' from zero h = refl
any_ext test test' from (suc q) h =
    ap₂ (λ (x y : Bool). x || y) (any_ext test test' from q (λ p a b. h p a (omega arith)))
    (elim (dec_le from q) [
      | yes k ↦ simp (le-leb from q k) (h q k (omega arith))
      | no k ↦ simp (lt-leb from q (omega arith))
    ])

-- ---- every position passes: none does not
not_or : (a b c : Bool) → (not a && (not b || c)) ≡ not (a || (b && not c))
not_or true b c = refl
not_or false true true = refl
not_or false true false = refl
not_or false false c = refl

before_not : (from p : ℕ) → ltb p from ≡ not (leb from p)
before_not from p = elim (dec_le from p) [ yes k ↦ simp (le-leb from p k, le-ltb p from k) | no k ↦ simp (lt-leb from p (omega arith), lt-ltb p from (omega arith)) ]

pub all_is : (test : ℕ → Bool) (from to : ℕ) → all_at test from to ≡ not (any_at (λ p. not (test p)) from to)
unfolding all_at any_at
all_is test from zero = refl
all_is test from (suc q) =
    ap₂ (λ (x y : Bool). x && (y || test q)) (all_is test from q) (before_not from q)
    ∙ not_or (any_at (λ p. not (test p)) from q) (leb from q) (test q)

module _ (test : ℕ → Bool) (from : ℕ) where
  pub all_yes : (to : ℕ) → ((p : ℕ) → from ≤ p → p < to → test p ≡ true) → all_at test from to ≡ true
  all_yes to h = all_is test from to ∙ ap not (any_no (λ p. not (test p)) from to (λ p a b. ap not (h p a b)))

  pub all_every : (to : ℕ) → all_at test from to ≡ true → (p : ℕ) → from ≤ p → p < to → test p ≡ true
  all_every to e p g h = not-false (test p) (any_none (λ p. not (test p)) from to (not-true _ (sym (all_is test from to) ∙ e)) p g h)

pub all_ext : (test test' : ℕ → Bool) (from to : ℕ) → ((p : ℕ) → from ≤ p → p < to → test p ≡ test' p) → all_at test from to ≡ all_at test' from to
all_ext test test' from to h =
    all_is test from to ∙ ap not (any_ext (λ p. not (test p)) (λ p. not (test' p)) from to (λ p a b. ap not (h p a b))) ∙ sym (all_is test' from to)

-- ---- a stretch that ends just before a position
module _ (test : ℕ → Bool) where
  stretch_none : (p : ℕ) → test p ≡ false → stretch_to test (suc p) ≡ suc p
  unfolding stretch_to
  stretch_none p e = simp e

  stretch_more : (p : ℕ) → test p ≡ true → stretch_to test (suc p) ≡ stretch_to test p
  unfolding stretch_to
  stretch_more p e = simp e

  pub stretch_le : (n : ℕ) → stretch_to test n ≤ n
  unfolding stretch_to
  stretch_le zero = omega arith
  stretch_le (suc p) = go (test p) refl (stretch_le p)
    where
      go : (b : Bool) → test p ≡ b → stretch_to test p ≤ p → stretch_to test (suc p) ≤ suc p
      go true e r = omega (arith, stretch_more p e)
      go false e r = omega (arith, stretch_none p e)

  -- every position of it passes
  pub stretch_all : (n p : ℕ) → stretch_to test n ≤ p → p < n → test p ≡ true
  stretch_all zero p g h = absurd (omega arith)
  stretch_all (suc n) p g h = go (test n) refl (stretch_all n p)
    where
      go : (b : Bool) → test n ≡ b → (stretch_to test n ≤ p → p < n → test p ≡ true) → test p ≡ true
      go true e r = elim (dec_lt p n) [ yes k ↦ r (omega (arith, stretch_more n e)) k | no k ↦ let q : p ≡ n = omega arith in rw q e ]
      go false e r = absurd (omega (arith, stretch_none n e))

  -- the position before it does not
  pub stretch_stop : (n q : ℕ) → stretch_to test n ≡ suc q → test q ≡ false
  unfolding stretch_to
  stretch_stop zero q g = absurd (omega arith)
  stretch_stop (suc n) q g = go (test n) refl (stretch_stop n q)
    where
      go : (b : Bool) → test n ≡ b → (stretch_to test n ≡ suc q → test q ≡ false) → test q ≡ false
      go true e r = r (sym (stretch_more n e) ∙ g)
      go false e r = let z : q ≡ n = omega (arith, stretch_none n e) in rw z e

  -- k positions more that pass
  stretch_run : (n k : ℕ) → ((p : ℕ) → n ≤ p → p < n + k → test p ≡ true) → stretch_to test (n + k) ≡ stretch_to test n
  stretch_run n zero h = let e : n + 0 ≡ n = omega arith in rw e
  stretch_run n (suc k) h =
      let e : n + suc k ≡ suc (n + k) = omega arith in
      rw e (stretch_more (n + k) (h (n + k) (omega arith) (omega arith)) ∙ stretch_run n k (λ p a b. h p a (omega arith)))

  pub stretch_over : (n m : ℕ) → n ≤ m → ((p : ℕ) → n ≤ p → p < m → test p ≡ true) → stretch_to test m ≡ stretch_to test n
  stretch_over n m l h =
      let e : n + (m - n) ≡ m = omega arith in
      ap (stretch_to test) (sym e) ∙ stretch_run n (m - n) (λ p a b. h p a (omega arith))

  pub stretch_end : (n : ℕ) → 0 < n → test (n - 1) ≡ false → stretch_to test n ≡ n
  stretch_end zero h e = absurd (omega arith)
  stretch_end (suc n) h e = stretch_none n (rw sub-one at e)

-- tests that agree below the end give one stretch
pub stretch_ext : (test test' : ℕ → Bool) (n : ℕ) → ((p : ℕ) → p < n → test p ≡ test' p) → stretch_to test n ≡ stretch_to test' n
unfolding stretch_to
stretch_ext test test' zero h = refl
stretch_ext test test' (suc n) h =
    ap₂ (λ (b : Bool) (x : ℕ). cond b x (suc n)) (h n (omega arith)) (stretch_ext test test' n (λ p k. h p (omega arith)))

-- ---- what the positions at a place have in common
pub common_end : (rs : List Run) (pos : ℕ) → total rs ≤ pos → common_at rs pos ≡ 0
unfolding common_at
common_end rs zero h = refl
common_end rs (suc p) h = ap (bit_and (set_at rs p)) (at_past rs (suc p) h) ∙ and_zero_r (set_at rs p)

pub common_inside : (rs : List Run) (pos : ℕ) → (pos ≡ 0 → ⊥) → common_at rs pos ≡ bit_and (set_at rs (pos - 1)) (set_at rs pos)
unfolding common_at
common_inside rs zero h = absurd (h refl)
common_inside rs (suc p) h = rw sub-one

-- ---- the positions of run k have its set
pub at_run : (lens sets : List ℕ) (n k p : ℕ) → k < n → total (runs lens sets k) ≤ p → p < total (runs lens sets k) + get_or lens k 0
    → set_at (runs lens sets n) p ≡ get_or sets k 0
at_run lens sets n k p h a b =
    let s = total_sums lens sets k in
    found_set lens sets n p k (total (runs lens sets k)) (total (runs lens sets k) + get_or lens k 0)
    (record { within = omega arith; starts = s; reached = a; inside = λ _. (b, refl); past = λ z. absurd (omega arith) }) h

-- ---- a turn of the walk back
module _ (lens sets : List ℕ) (n mask last k start : ℕ) (in-turn : k < n) (begun : start ≡ total (runs lens sets k)) where
  test : ℕ → Bool
  test p = meets mask (set_at (runs lens sets n) p)

  upto : ℕ
  upto = min (start + get_or lens k 0) (last + 1)

  on_run : (p : ℕ) → start ≤ p → p < start + get_or lens k 0 → test p ≡ meets mask (get_or sets k 0)
  unfolding test
  on_run p a b = ap (meets mask) (at_run lens sets n k p in-turn (omega arith) (omega arith))

  -- a run that is asked and misses the mask: the stretch begins after it
  pub back_missed : (ltb 0 (clip 0 (last + 1) start (get_or lens k 0)) && not (meets mask (get_or sets k 0))) ≡ true
      → min (start + get_or lens k 0) (last + 1) ≡ stretch_to (λ p. meets mask (set_at (runs lens sets n) p)) (min (start + get_or lens k 0) (last + 1))
  unfolding test upto
  back_missed e =
      let b = (and-eq-true_iff (ltb 0 (clip 0 (last + 1) start (get_or lens k 0))) _).0 e in
      let some = ltb-true 0 (clip 0 (last + 1) start (get_or lens k 0)) b.0 in
      sym (stretch_end test upto (omega arith) (on_run (upto - 1) (omega arith) (omega arith) ∙ not-true (meets mask (get_or sets k 0)) b.1))

  -- one that is not asked, or has a bit of it: the stretch begins where it did
  pub back_over : (from : ℕ) → from ≡ stretch_to (λ p. meets mask (set_at (runs lens sets n) p)) (min start (last + 1))
      → (ltb 0 (clip 0 (last + 1) start (get_or lens k 0)) && not (meets mask (get_or sets k 0))) ≡ false
      → from ≡ stretch_to (λ p. meets mask (set_at (runs lens sets n) p)) (min (start + get_or lens k 0) (last + 1))
  unfolding test upto
  back_over from so_far e =
      elim (dec_lt 0 (clip 0 (last + 1) start (get_or lens k 0))) [
        | yes h ↦
            let i : min start (last + 1) ≡ start = omega arith in
            let has = not-false (meets mask (get_or sets k 0)) (second_fails (ltb 0 (clip 0 (last + 1) start (get_or lens k 0))) _ (lt-ltb 0 (clip 0 (last + 1) start (get_or lens k 0)) h) e) in
            so_far ∙ ap (stretch_to test) i ∙ sym (stretch_over test start upto (omega arith) (λ p a b. on_run p a (omega arith) ∙ has))
        | no h ↦
            let i : min start (last + 1) ≡ upto = omega arith in
            so_far ∙ ap (stretch_to test) i
      ]

-- ---- what finding a position asks
pub can_find : {lens sets : List ℕ} {n all : ℕ} → CanFind lens sets n all → (n ≤ length lens) × (all ≡ sums lens n) × (all < 2 ^ 63)
can_find {lens} {sets} {n} h =
    let a = h.all_is in
    let b = h.look.small in
    (h.look.lens_n, a ∙ total_sums lens sets n, omega arith)

-- ---- what the positions of one run have in common, and what those at a boundary have
module _ (lens sets : List ℕ) (n pos i start end : ℕ) (f : Found lens n pos i start end) where
  pub common_past : n ≤ i → common_at (runs lens sets n) pos ≡ 0
  common_past h =
      let w = f.within in
      let a = f.starts in
      let b = f.reached in
      let e : i ≡ n = omega arith in
      common_end (runs lens sets n) pos (omega (arith, total_sums lens sets n, ap (sums lens) e))

  -- the position before is in the same run
  pub common_in : i < n → start < pos → common_at (runs lens sets n) pos ≡ get_or sets i 0
  common_in h l =
      let r = runs lens sets n in
      let c = f.inside h in
      let a = c.0 in
      let b = c.1 in
      let here = found_set lens sets n pos i start end f h in
      let before = found_set lens sets n (pos - 1) i start end
      (record { within = f.within; starts = f.starts; reached = omega arith; inside = λ _. (omega arith, b); past = f.past }) h in
      common_inside r pos (λ z. omega arith) ∙ ap₂ bit_and before here ∙ and_self (get_or sets i 0)

  pub common_edge : i < n → (pos ≡ 0 → ⊥) → common_at (runs lens sets n) pos ≡ bit_and (set_at (runs lens sets n) (pos - 1)) (get_or sets i 0)
  common_edge h z = common_inside (runs lens sets n) pos z ∙ ap (bit_and (set_at (runs lens sets n) (pos - 1))) (found_set lens sets n pos i start end f h)
