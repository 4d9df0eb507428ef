-- Sums over the first n: one term more, term by term, a longer sum, and sums compared but for one term. Assumes nothing.
use mathlib.Core.Path.{◌≡◌, refl}
use mathlib.Core.Logic.{◌≢◌}
use Prim.Native.Nat.{ℕ, zero, suc, ◌+◌, ◌-◌, ◌*◌, ◌≤◌, ◌<◌}
use native.Mathlib.Numerals.{add-one, sub-one}
use native.Mathlib.Omega.{arith}
use native.Mathlib.Decide.{dec_le, dec_lt}
use Rattle.runs.specs.Positions.{sum_below}

pub sum_more : (f : ℕ → ℕ) (n : ℕ) → sum_below f (n + 1) ≡ sum_below f n + f n
unfolding sum_below
sum_more f n = rw add-one

-- the last term
pub sum_last : (f : ℕ → ℕ) (n : ℕ) → 0 < n → sum_below f n ≡ sum_below f (n - 1) + f (n - 1)
unfolding sum_below
sum_last f zero h = absurd (omega arith)
sum_last f (suc n) h = rw sub-one refl

-- a sum that is not 0 has a term
pub sum_some : (f : ℕ → ℕ) (n : ℕ) → 0 < sum_below f n → 0 < n
unfolding sum_below
sum_some f zero h = absurd (omega arith)
sum_some f (suc n) h = omega arith

-- ---- term by term
pub sum_same : (f g : ℕ → ℕ) (n : ℕ) → ((u : ℕ) → u < n → f u ≡ g u) → sum_below f n ≡ sum_below g n
unfolding sum_below
sum_same f g zero h = refl
sum_same f g (suc n) h = omega (arith, sum_same f g n (λ u l. h u (omega arith)), h n (omega arith))

pub sum_least : (f g : ℕ → ℕ) (n : ℕ) → ((u : ℕ) → u < n → f u ≤ g u) → sum_below f n ≤ sum_below g n
unfolding sum_below
sum_least f g zero h = omega arith
sum_least f g (suc n) h = omega (arith, sum_least f g n (λ u l. h u (omega arith)), h n (omega arith))

-- no term is over k
pub sum_bound : (f : ℕ → ℕ) (k n : ℕ) → ((u : ℕ) → u < n → f u ≤ k) → sum_below f n ≤ n * k
unfolding sum_below
sum_bound f k zero h = omega arith
sum_bound f k (suc n) h = omega (arith, sum_bound f k n (λ u l. h u (omega arith)), h n (omega arith))

-- ---- what no step lessens is never less
pub rising : (f : ℕ → ℕ) → ((k : ℕ) → f k ≤ f (suc k)) → (n m : ℕ) → n ≤ m → f n ≤ f m
rising f up n zero h = let e : n ≡ 0 = omega arith in rw e (omega arith)
rising f up n (suc m) h =
    elim (dec_le n m) [
      | yes l ↦ omega (arith, rising f up n m l, up m)
      | no l ↦ let e : n ≡ suc m = omega arith in rw e (omega arith)
    ]

-- more terms
pub sum_up : (f : ℕ → ℕ) (n m : ℕ) → n ≤ m → sum_below f n ≤ sum_below f m
unfolding sum_below
sum_up f n m h = rising (sum_below f) (λ k. omega arith) n m h

pub sum_next : (f : ℕ → ℕ) (n m : ℕ) → n < m → sum_below f n + f n ≤ sum_below f m
sum_next f n m h = omega (arith, sum_more f n, sum_up f (n + 1) m (omega arith))

-- ---- term by term, but for one
pub sum_but_one : (f g : ℕ → ℕ) (t n : ℕ) → t < n → ((u : ℕ) → u < n → u ≢ t → f u ≤ g u) → sum_below f n + g t ≤ sum_below g n + f t
unfolding sum_below
sum_but_one f g t zero l h = absurd (omega arith)
sum_but_one f g t (suc n) l h =
    elim (dec_lt t n) [
      | yes k ↦ omega (arith, sum_but_one f g t n k (λ u a. h u (omega arith)), h n (omega arith) (λ e. omega arith))
      | no k ↦ let e : t ≡ n = omega arith in rw e (omega (arith, sum_least f g n (λ u a. h u (omega arith) (λ z. omega arith))))
    ]
