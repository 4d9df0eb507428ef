-- The maximal ranges of positions that pass a test: they are in order, all of them pass, they are all where there are no more than are
-- looked for, and with more positions they take more.
use Prim.Native.Nat.{ℕ, zero, suc, ◌+◌, ◌-◌, ◌≤◌, ◌<◌, min}
use mathlib.Core.Path.{◌≡◌, refl, sym, ap, ap₂, ◌∙◌}
use mathlib.Core.Bool.{Bool, true, false, cond, not, ◌&&◌, ◌||◌, and-eq-true_iff, true≢false, false≢true}
use mathlib.Core.List.{List, [], ◌∷◌}
use native.Mathlib.Omega.{arith}
use native.Mathlib.Decide.{dec_lt, dec_le, ℕ_discrete}
use lib.Dec.{leb, ltb}
use lib.ListN.{length}
use borrow.Author.Tests.{lt-ltb, le-ltb, le-leb, leb-true, ltb-true, not-true, not-false}
use Rattle.runs.specs.Positions.{sum_below, within, seek_from}
use Rattle.runs.proofs.SumLaws.{sum_up}
use Rattle.runs.proofs.SeekLaws.{seek_from_lem, seek_to, seek_before, seek_at, seek_is}
use Rattle.night.specs.declared.Range.{Range}
use Rattle.night.specs.Plans.{range, planned, in_order}
use Rattle.night.specs.Proposing.{begins, range_count, seek, ranges_from}
use Rattle.night.proofs.PlanLaws.{ordered, in_range, past_range}

-- ---- the ranges that pass a test
module _ (test : ℕ → Bool) (n : ℕ) where
  abbrev fails : ℕ → Bool
  fails p = not (test p)

  -- a range found
  pub record FoundRange (from a b : ℕ) : Type 0 where
    pub low : from ≤ a
    pub some : a < b
    pub high : b ≤ n
    pub before : (p : ℕ) → from ≤ p → p < a → test p ≡ false
    pub inside : (p : ℕ) → a ≤ p → p < b → test p ≡ true
    pub after : b < n → test b ≡ false

  range_at : (from : ℕ) → from ≤ n → seek test n from < n → FoundRange from (seek test n from) (seek fails n (seek test n from))
  range_at from l h =
      let a = seek test n from in
      let b = seek fails n a in
      let e : from + (n - from) ≡ n = omega arith in
      let g : a + (n - a) ≡ n = omega arith in
      let here : test a ≡ true = seek_at test from (n - from) (omega arith) in
      let up = seek_from_lem fails a (n - a) in
      let differ : a ≡ b → ⊥ =
      λ z. true≢false (sym here ∙ ap test z ∙ not-true (test b) (seek_at fails a (n - a) (omega arith))) in
      record {
        low = seek_from_lem test from (n - from);
        some = omega arith;
        high = omega (arith, seek_to fails a (n - a));
        before = λ p c d. seek_before test from (n - from) p c d;
        inside = λ p c d. not-false (test p) (seek_before fails a (n - a) p c d);
        after = λ c. not-true (test b) (seek_at fails a (n - a) (omega arith));
      }

  -- from there on none passes
  none_at : (from : ℕ) → from ≤ n → n ≤ seek test n from → (p : ℕ) → from ≤ p → p < n → test p ≡ false
  none_at from l h p c d = seek_before test from (n - from) p c (omega arith)

  -- by cases: another range, or none
  pub ranges_by : (P : List Range → Type 0) (k from : ℕ) → from ≤ n
      → ((a b : ℕ) → FoundRange from a b → P (range a b ∷ ranges_from k test n b))
      → (((p : ℕ) → from ≤ p → p < n → test p ≡ false) → P [])
      → P (ranges_from (suc k) test n from)
  unfolding ranges_from
  ranges_by P k from l more over =
      elim (dec_lt (seek test n from) n) [
        | yes h ↦ rw (lt-ltb (seek test n from) n h) (more (seek test n from) (seek fails n (seek test n from)) (range_at from l h))
        | no h ↦ rw (le-ltb (seek test n from) n (omega arith)) (over (none_at from l (omega arith)))
      ]

  -- they are in order
  pub ranges_order : (k from : ℕ) → from ≤ n → in_order from n (ranges_from k test n from) ≡ true
  unfolding ranges_from in_order
  ranges_order zero from l = le-leb from n l
  ranges_order (suc k) from l =
      ranges_by (λ xs. in_order from n xs ≡ true) k from l
      (λ a b r. let s = r.low in let t = r.some in rw (le-leb from a s, lt-ltb a b t) (ranges_order k b r.high))
      (λ g. le-leb from n l)

  -- there are at most so many
  pub ranges_few : (k from : ℕ) → from ≤ n → length (ranges_from k test n from) ≤ k
  unfolding ranges_from
  ranges_few zero from l = omega arith
  ranges_few (suc k) from l =
      ranges_by (λ xs. length xs ≤ suc k) k from l (λ a b r. omega (arith, ranges_few k b r.high)) (λ g. omega arith)

  -- every position of them passes
  pub ranges_pass : (P : ℕ → ℕ → Bool) → ((a b : ℕ) → ((p : ℕ) → a ≤ p → p < b → test p ≡ true) → P a b ≡ true) → (k from : ℕ) → from ≤ n
      → (every : List Range → Bool) → (every [] ≡ true) → ((x : Range) (xs : List Range) → every (x ∷ xs) ≡ (P x.start x.end && every xs))
      → every (ranges_from k test n from) ≡ true
  unfolding ranges_from
  ranges_pass P h zero from l every nil cons = nil
  ranges_pass P h (suc k) from l every nil cons =
      ranges_by (λ xs. every xs ≡ true) k from l
      (λ a b r.
      cons (range a b) (ranges_from k test n b)
      ∙ ap₂ (λ (x y : Bool). x && y) (h a b r.inside) (ranges_pass P h k b r.high every nil cons))
      (λ g. nil)

  -- ---- where ranges begin
  -- none begins where none passes
  no_begin : (p : ℕ) → test p ≡ false → begins test p ≡ 0
  unfolding begins
  no_begin zero e = simp e
  no_begin (suc p) e = rw e (go (not (test p)))
    where
      go : (b : Bool) → ◌≡◌ {A = ℕ} (cond (b && false) 1 0) 0
      go true = refl
      go false = refl

  quiet : (from j : ℕ) → ((p : ℕ) → from ≤ p → p < from + j → test p ≡ false) → range_count test (from + j) ≡ range_count test from
  unfolding sum_below
  quiet from zero h = let e : from + 0 ≡ from = omega arith in rw e
  quiet from (suc j) h =
      let e : from + suc j ≡ suc (from + j) = omega arith in
      rw e (omega (arith, quiet from j (λ p a b. h p a (omega arith)), no_begin (from + j) (h (from + j) (omega arith) (omega arith))))

  begin_after : (q : ℕ) → test q ≡ false → test (suc q) ≡ true → begins test (suc q) ≡ 1
  unfolding begins
  begin_after q e g = rw (e, g) refl

  -- a range that is found begins there, if one may begin where it was sought from
  begun : (from a b : ℕ) → (test from ≡ true → begins test from ≡ 1) → FoundRange from a b → begins test a ≡ 1
  begun from a b may r =
      elim (ℕ_discrete from a) [
        | yes z ↦ ap (begins test) (sym z) ∙ may (ap test z ∙ r.inside a (omega arith) r.some)
        | no z ↦ let l = r.low in go a refl l z
      ]
    where
      go : (a' : ℕ) → a ≡ a' → from ≤ a → (from ≡ a → ⊥) → begins test a ≡ 1
      go zero e l z = absurd (omega arith)
      go (suc q) e l z =
          ap (begins test) e
          ∙ begin_after q (r.before q (omega arith) (omega arith)) (ap test (sym e) ∙ r.inside a (omega arith) r.some)

  -- so one more begins below its end
  one_more : (from a b : ℕ) → (test from ≡ true → begins test from ≡ 1) → FoundRange from a b → range_count test from + 1 ≤ range_count test b
  unfolding sum_below
  one_more from a b may r =
      let l = r.low in
      let s = r.some in
      let e : from + (a - from) ≡ a = omega arith in
      omega (
        arith,
        quiet from (a - from) (λ p c d. r.before p c (omega arith)),
        ap (range_count test) e,
        begun from a b may r,
        sum_up (begins test) (suc a) b s,
      )

  -- behind a range none begins at once
  may_begin : (from a b : ℕ) → FoundRange from a b → b < n → test b ≡ true → begins test b ≡ 1
  may_begin from a b r h e = absurd (true≢false (sym e ∙ r.after h))

  -- where there are no more ranges than are looked for, every position that passes is in one of them
  pub ranges_cover : (k from : ℕ) → from ≤ n → (from < n → test from ≡ true → begins test from ≡ 1) → range_count test n ≤ range_count test from + k
      → (p : ℕ) → from ≤ p → p < n → test p ≡ true → planned (ranges_from k test n from) p ≡ true
  unfolding ranges_from planned
  ranges_cover zero from l may few p c d e =
      elim (dec_lt (seek test n from) n) [
        | no h ↦ absurd (true≢false (sym e ∙ none_at from l (omega arith) p c d))
        | yes h ↦
            let a = seek test n from in
            let b = seek fails n a in
            let r = range_at from l h in
            absurd (omega (arith, one_more from a b (may (omega arith)) r, sum_up (begins test) b n r.high))
      ]
  ranges_cover (suc k) from l may few p c d e =
      ranges_by (λ xs. planned xs p ≡ true) k from l
      (λ a b r.
      elim (dec_lt p b) [
        | yes h ↦
            elim (dec_le a p) [
              | yes g ↦ rw (in_range a b p g h) refl
              | no g ↦ absurd (true≢false (sym e ∙ r.before p c (omega arith)))
            ]
        | no h ↦
            rw (past_range a b p (omega arith))
            (ranges_cover k b r.high (may_begin from a b r) (omega (arith, one_more from a b (may (omega arith)) r)) p (omega arith) d e)
      ])
      (λ g. absurd (true≢false (sym e ∙ g p c d)))

-- a range may begin at the first position
pub begin_first : (test : ℕ → Bool) → test 0 ≡ true → begins test 0 ≡ 1
unfolding begins
begin_first test e = simp e

-- ---- fewer positions are looked at: what is found is clipped
pub seek_cut : (test : ℕ → Bool) (from k j : ℕ) → min (seek_from test from (k + j)) (from + k) ≡ seek_from test from k
seek_cut test from k j =
    let s = seek_from test from (k + j) in
    let low = seek_from_lem test from (k + j) in
    elim (dec_lt s (from + k)) [
      | yes h ↦
          let e : min s (from + k) ≡ s = omega arith in
          e ∙ sym (seek_is test from k s low (omega arith) (λ p a b. seek_before test from (k + j) p a b) (λ _. seek_at test from (k + j) (omega arith)))
      | no h ↦
          let e : min s (from + k) ≡ from + k = omega arith in
          e
          ∙ sym
          (seek_is test from k (from + k) (omega arith) (omega arith) (λ p a b. seek_before test from (k + j) p a (omega arith)) (λ g. absurd (omega arith)))
    ]

-- ranges within n are within more
pub order_wider : (from n m : ℕ) (xs : List Range) → n ≤ m → in_order from n xs ≡ true → in_order from m xs ≡ true
unfolding in_order
order_wider from n m [] h e = let l = leb-true from n e in le-leb from m (omega arith)
order_wider from n m (x ∷ xs) h e =
    let o = ordered from n x xs e in
    ap₂ (λ (a b : Bool). a && b) (le-leb from x.start o.begins)
    (ap₂ (λ (a b : Bool). a && b) (lt-ltb x.start x.end o.some) (order_wider x.end n m xs h o.rest))

-- ---- of more positions they take more
or_left : (a b : Bool) → a ≡ true → (a || b) ≡ true
or_left true b e = refl
or_left false b e = absurd (false≢true e)

pub or_on : (a a' b b' : Bool) → (a ≡ true → a' ≡ true) → (b ≡ true → (a' || b') ≡ true) → (a || b) ≡ true → (a' || b') ≡ true
or_on true a' b b' f g e = or_left a' b' (f refl)
or_on false a' b b' f g e = g e

pub or_right : (a b : Bool) → b ≡ true → (a || b) ≡ true
or_right true b e = refl
or_right false b e = e

module _ (test : ℕ → Bool) (n m : ℕ) (wider : n ≤ m) where
  none_past : (k x : ℕ) → planned (ranges_from k test n n) x ≡ true → ⊥
  unfolding ranges_from planned
  none_past zero x e = false≢true e
  none_past (suc k) x e =
      ranges_by test n (λ xs. planned xs x ≡ true → ⊥) k n (omega arith)
      (λ a b r e. let l = r.low in let s = r.some in let h = r.high in absurd (omega arith)) (λ g e. false≢true e) e

  -- of two ranges found from one position, the one with more positions to look at starts as the other does, and ends with it or behind it
  module _ {from a b a' b' : ℕ} (r : FoundRange test n from a b) (w : FoundRange test m from a' b') where
    pub same_start : a ≡ a'
    same_start =
        let l = r.low in
        let s = r.some in
        let l' = w.low in
        let s' = w.some in
        elim (dec_lt a a') [
          | yes h ↦ absurd (true≢false (sym (r.inside a (omega arith) s) ∙ w.before a l h))
          | no h ↦ elim (dec_lt a' a) [ yes g ↦ absurd (true≢false (sym (w.inside a' (omega arith) s') ∙ r.before a' l' g)) | no g ↦ omega arith ]
        ]

    pub end_later : b ≤ b'
    end_later =
        let e = same_start in
        let s' = w.some in
        let h = r.high in
        elim (dec_lt b' b) [
          | yes g ↦ absurd (true≢false (sym (r.inside b' (omega arith) g) ∙ w.after (omega arith)))
          | no g ↦ omega arith
        ]

    -- it ends behind it only where the positions to look at were over
    pub end_same : b < n → b ≡ b'
    end_same l =
        let e = same_start in
        let s = r.some in
        let u = end_later in
        elim (dec_lt b b') [ yes g ↦ absurd (true≢false (sym (w.inside b (omega arith) g) ∙ r.after l)) | no g ↦ omega arith ]

  in_wider : (a b b' x : ℕ) → b ≤ b' → within a b x ≡ true → within a b' x ≡ true
  in_wider a b b' x h e =
      let c = (and-eq-true_iff (leb a x) (ltb x b)).0 e in
      let l = ltb-true x b c.1 in
      ap₂ (λ (p q : Bool). p && q) c.0 (lt-ltb x b' (omega arith))

  pub ranges_grow : (k from x : ℕ) → from ≤ n → planned (ranges_from k test n from) x ≡ true → planned (ranges_from k test m from) x ≡ true
  unfolding ranges_from planned
  ranges_grow zero from x l e = e
  ranges_grow (suc k) from x l e =
      ranges_by test n (λ xs. planned xs x ≡ true → planned (ranges_from (suc k) test m from) x ≡ true) k from l
      (λ a b r e.
      ranges_by test m (λ ys. planned ys x ≡ true) k from (omega arith)
      (λ a' b' w.
      let s = same_start r w in
      let later = end_later r w in
      let high = r.high in
      or_on (within a b x) (within a' b' x) (planned (ranges_from k test n b) x) (planned (ranges_from k test m b') x)
      (λ i. ap (λ (q : ℕ). within q b' x) (sym s) ∙ in_wider a b b' x later i)
      (λ i.
      elim (dec_lt b n) [
        | yes g ↦
            or_right (within a' b' x) _
            (ap (λ (q : ℕ). planned (ranges_from k test m q) x) (sym (end_same r w g)) ∙ ranges_grow k b x high i)
        | no g ↦ let z : b ≡ n = omega arith in absurd (none_past k x (ap (λ (q : ℕ). planned (ranges_from k test n q) x) (sym z) ∙ i))
      ])
      e)
      (λ g.
      let low = r.low in
      let some = r.some in
      let high = r.high in
      absurd (true≢false (sym (r.inside a (omega arith) some) ∙ g a low (omega arith)))))
      (λ g e. absurd (false≢true e)) e
