-- The first position that passes a test: none before it does, and it does where there is one.
use Prim.Native.Nat.{ℕ, zero, suc, ◌+◌, ◌≤◌, ◌<◌}
use mathlib.Core.Path.{◌≡◌, refl, sym, ap, ◌∙◌}
use mathlib.Core.Bool.{Bool, true, false}
use native.Mathlib.Omega.{arith}
use native.Mathlib.Decide.{ℕ_discrete}
use Rattle.runs.specs.Positions.{seek_from}

module _ (test : ℕ → Bool) where
  seek_here : (from k : ℕ) → test from ≡ true → seek_from test from (suc k) ≡ from
  unfolding seek_from
  seek_here from k e = simp e

  seek_on : (from k : ℕ) → test from ≡ false → seek_from test from (suc k) ≡ seek_from test (suc from) k
  unfolding seek_from
  seek_on from k e = simp e

  pub seek_from_lem : (from k : ℕ) → from ≤ seek_from test from k
  unfolding seek_from
  seek_from_lem from zero = omega arith
  seek_from_lem from (suc k) = go (test from) refl (seek_from_lem (suc from) k)
    where
      go : (b : Bool) → test from ≡ b → suc from ≤ seek_from test (suc from) k → from ≤ seek_from test from (suc k)
      go true e r = omega (arith, seek_here from k e)
      go false e r = omega (arith, seek_on from k e)

  pub seek_to : (from k : ℕ) → seek_from test from k ≤ from + k
  unfolding seek_from
  seek_to from zero = omega arith
  seek_to from (suc k) = go (test from) refl (seek_to (suc from) k)
    where
      go : (b : Bool) → test from ≡ b → seek_from test (suc from) k ≤ suc from + k → seek_from test from (suc k) ≤ from + suc k
      go true e r = omega (arith, seek_here from k e)
      go false e r = omega (arith, seek_on from k e)

  -- none before it passes
  pub seek_before : (from k p : ℕ) → from ≤ p → p < seek_from test from k → test p ≡ false
  unfolding seek_from
  seek_before from zero p a b = absurd (omega arith)
  seek_before from (suc k) p a b = go (test from) refl (seek_before (suc from) k p)
    where
      go : (t : Bool) → test from ≡ t → (suc from ≤ p → p < seek_from test (suc from) k → test p ≡ false) → test p ≡ false
      go true e r = absurd (omega (arith, seek_here from k e))
      go false e r =
          elim (ℕ_discrete from p) [
            | yes z ↦ ap test (sym z) ∙ e
            | no z ↦ r (omega arith) (omega (arith, seek_on from k e))
          ]

  -- and it does, where it is one of them
  pub seek_at : (from k : ℕ) → seek_from test from k < from + k → test (seek_from test from k) ≡ true
  unfolding seek_from
  seek_at from zero h = absurd (omega arith)
  seek_at from (suc k) h = go (test from) refl (seek_at (suc from) k)
    where
      go : (t : Bool) → test from ≡ t → (seek_from test (suc from) k < suc from + k → test (seek_from test (suc from) k) ≡ true)
          → test (seek_from test from (suc k)) ≡ true
      go true e r = ap test (seek_here from k e) ∙ e
      go false e r = ap test (seek_on from k e) ∙ r (omega (arith, seek_on from k e))

  -- there is no other such position
  pub seek_is : (from k q : ℕ) → from ≤ q → q ≤ from + k → ((p : ℕ) → from ≤ p → p < q → test p ≡ false) → (q < from + k → test q ≡ true) → seek_from test from k ≡ q
  unfolding seek_from
  seek_is from zero q a b h g = omega arith
  seek_is from (suc k) q a b h g =
      elim (ℕ_discrete from q) [
        | yes z ↦ seek_here from k (ap test z ∙ g (omega arith)) ∙ z
        | no z ↦
            seek_on from k (h from (omega arith) (omega arith))
            ∙ seek_is (suc from) k q (omega arith) (omega arith) (λ p c d. h p (omega arith) d) (λ l. g (omega arith))
      ]

-- tests that agree from there on find the same
pub seek_ext : (test test' : ℕ → Bool) (from k : ℕ) → ((p : ℕ) → from ≤ p → p < from + k → test p ≡ test' p) → seek_from test from k ≡ seek_from test' from k
unfolding seek_from
seek_ext test test' from zero h = refl
seek_ext test test' from (suc k) h =
    rw (h from (omega arith) (omega arith), seek_ext test test' (suc from) k (λ p a b. h p (omega arith) (omega arith)))
