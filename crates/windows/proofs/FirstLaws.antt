-- The first of some tests that passes, and tests over a range of positions that grows.
use Prim.Native.Nat.{ℕ, zero, suc, ◌+◌, ◌≤◌, ◌<◌, min, max}
use mathlib.Core.Path.{◌≡◌, refl, sym, ap, ap₂, ◌∙◌, fun_ext}
use mathlib.Core.Bool.{Bool, true, false, cond, ◌||◌, or-true, true≢false}
use native.Mathlib.Omega.{arith}
use native.Mathlib.Decide.{dec_lt, dec_le}
use Rattle.runs.specs.Positions.{any_at, seek_from}
use Rattle.runs.proofs.ScanLaws.{any_yes, any_no, any_none, any_some}
use Rattle.runs.proofs.SeekLaws.{seek_from_lem, seek_is}

-- ---- the first of either of two is the smaller of their firsts
or_step : (a b : Bool) (j x y z : ℕ) → suc j ≤ x → suc j ≤ y → z ≡ min x y → cond (a || b) j z ≡ min (cond a j x) (cond b j y)
or_step true true j x y z h g e = omega arith
or_step true false j x y z h g e = omega arith
or_step false true j x y z h g e = omega arith
or_step false false j x y z h g e = e

pub seek_or : (f g : ℕ → Bool) (j n : ℕ) → seek_from (λ i. f i || g i) j n ≡ min (seek_from f j n) (seek_from g j n)
unfolding seek_from
seek_or f g j zero = omega arith
seek_or f g j (suc n) =
    or_step (f j) (g j) j (seek_from f (suc j) n) (seek_from g (suc j) n) (seek_from (λ i. f i || g i) (suc j) n)
    (seek_from_lem f (suc j) n) (seek_from_lem g (suc j) n) (seek_or f g (suc j) n)

pub seek_ext : (f g : ℕ → Bool) (j n : ℕ) → ((i : ℕ) → f i ≡ g i) → seek_from f j n ≡ seek_from g j n
seek_ext f g j n e = ap (λ (h : ℕ → Bool). seek_from h j n) (fun_ext e)

-- tests that agree on those that are asked
pub seek_within : (f g : ℕ → Bool) (j n : ℕ) → ((i : ℕ) → i < j + n → f i ≡ g i) → seek_from f j n ≡ seek_from g j n
unfolding seek_from
seek_within f g j zero e = refl
seek_within f g j (suc n) e =
    ap₂ (λ (b : Bool) (x : ℕ). cond b j x) (e j (omega arith)) (seek_within f g (suc j) n (λ i h. e i (omega arith)))

pub seek_none : (f : ℕ → Bool) (j n : ℕ) → ((i : ℕ) → f i ≡ false) → seek_from f j n ≡ j + n
seek_none f j n e = seek_is f j n (j + n) (omega arith) (omega arith) (λ p a b. e p) (λ h. absurd (omega arith))

-- ---- a range of positions that grows
module _ (test : ℕ → Bool) (from : ℕ) where
  pub any_empty : (to : ℕ) → to ≤ from → any_at test from to ≡ false
  any_empty to h = any_no test from to (λ p a b. absurd (omega arith))

  -- by positions that all say the same
  pub any_grow : (at to : ℕ) (t : Bool) → at ≤ to → max from at < to → ((p : ℕ) → max from at ≤ p → p < to → test p ≡ t)
      → any_at test from to ≡ (any_at test from at || t)
  any_grow at to true h s e =
      any_yes test from to (max from at) (omega arith) s (e (max from at) (omega arith) s) ∙ sym (or-true (any_at test from at))
  any_grow at to false h s e = go (any_at test from at) refl
    where
      go : (r : Bool) → any_at test from at ≡ r → any_at test from to ≡ (any_at test from at || false)
      go true i =
          let q = any_some test from at i in
          any_yes test from to q.0 q.1 (omega (arith, q.2)) q.3 ∙ sym (ap (λ (x : Bool). x || false) i)
      go false i =
          any_no test from to
          (λ p a c.
          elim (dec_lt p at) [
            | yes k ↦ any_none test from at i p a k
            | no k ↦ e p (omega arith) c
          ])
          ∙ sym (ap (λ (x : Bool). x || false) i)

  -- by none
  pub any_same : (at to : ℕ) → at ≤ to → to ≤ max from at → any_at test from to ≡ any_at test from at
  any_same at to h s =
      elim (dec_le to from) [
        | yes k ↦ any_empty to k ∙ sym (any_empty at (omega arith))
        | no k ↦ let e : to ≡ at = omega arith in ap (any_at test from) e
      ]

  or_false : (b : Bool) → (b || false) ≡ b
  or_false true = refl
  or_false false = refl

  -- by some that say no
  pub any_behind : (at to : ℕ) → at ≤ to → ((p : ℕ) → at ≤ p → test p ≡ false) → any_at test from to ≡ any_at test from at
  any_behind at to h e =
      elim (dec_lt (max from at) to) [
        | yes k ↦ any_grow at to false h k (λ p a b. e p (omega arith)) ∙ or_false (any_at test from at)
        | no k ↦ any_same at to h (omega arith)
      ]

-- positions from `all` on say no: no number from there on matters
pub any_cap : (test : ℕ → Bool) (all m : ℕ) → all ≤ m → ((p : ℕ) → all ≤ p → test p ≡ false) → (a b : ℕ)
    → any_at test (min a m) (min b m) ≡ any_at test a b
any_cap test all m fits e a b = go (any_at test a b) refl
  where
    go : (r : Bool) → any_at test a b ≡ r → any_at test (min a m) (min b m) ≡ any_at test a b
    go true i =
        let q = any_some test a b i in
        let g = q.1 in
        let h = q.2 in
        elim (dec_lt q.0 all) [
          | yes l ↦ any_yes test (min a m) (min b m) q.0 (omega arith) (omega arith) q.3 ∙ sym i
          | no l ↦ absurd (true≢false (sym q.3 ∙ e q.0 (omega arith)))
        ]
    go false i =
        any_no test (min a m) (min b m)
        (λ p c d.
        elim (dec_lt p all) [
          | yes l ↦ any_none test a b i p (omega arith) (omega arith)
          | no l ↦ e p (omega arith)
        ])
        ∙ sym i
