-- A run-length list, LAST RUN FIRST: the head of the list is the run that ends the tank, so that one run more is one cons more.
use Rattle.std.specs.Prelude.{ℕ, zero, suc, ◌+◌, ◌≤◌, ◌<◌, min, ◌≡◌, cond, List, [], ◌∷◌, get_or, drop, ltb}
use Rattle.std.specs.Int.Bits.{bit_or}
use Rattle.styles.specs.Bits.{lacking_bits}
use Rattle.runs.specs.Positions.{sum_below}

-- `len` positions, each with the set `set`
pub record Run : Type 0 where
  pub len : ℕ
  pub set : ℕ

-- a run by its length and its set
abbrev pub run : ℕ → ℕ → Run
run l s = record { len = l; set = s }

-- the runs that the first n entries of two parallel lists hold
unfoldable pub runs : List ℕ → List ℕ → ℕ → List Run
runs lens sets zero = []
runs lens sets (suc n) = run (get_or lens n 0) (get_or sets n 0) ∷ runs lens sets n

-- how many positions
unfoldable pub total : List Run → ℕ
total [] = 0
total (r ∷ rs) = total rs + r.len

-- the set at a position, and 0 past the end
unfoldable pub set_at : List Run → ℕ → ℕ
unfolding total
set_at [] p = 0
set_at (r ∷ rs) p = cond (ltb p (total rs)) (set_at rs p) (cond (ltb p (total rs + r.len)) r.set 0)

-- the last run, if there is one, has another set
unfoldable pub Other : ℕ → List Run → Type 0
Other s [] = Unit {0}
Other s (r ∷ rs) = r.set ≡ s → ⊥

-- no run is empty, and neighbours differ
unfoldable pub Canon : List Run → Type 0
unfolding Other
Canon [] = Unit {0}
Canon (r ∷ rs) = (0 < r.len) × Other r.set rs × Canon rs

-- ---- A change of sets
-- a set with the bits of `bits` in it, and without those of `gone`
unfoldable pub changing : ℕ → ℕ → ℕ → ℕ
changing bits gone s = lacking_bits (bit_or s bits) gone

-- ---- Where a position is found
-- the sum of the first k lengths: where run k starts
abbrev pub sums : List ℕ → ℕ → ℕ
sums lens k = sum_below (λ i. get_or lens i 0) k

-- run i of n has the positions start .. end and holds `pos`; past the end i is n, and there are no positions
pub record Found (lens : List ℕ) (n pos i start end : ℕ) : Type 0 where
  pub within : i ≤ n
  pub starts : start ≡ sums lens i
  pub reached : start ≤ pos
  pub inside : i < n → (pos < end) × (end ≡ start + get_or lens i 0)
  pub past : n ≤ i → end ≡ start

-- the first k of n runs are what a budget reaches before a position: no more than the budget, each begins before `before`, and they are all such
-- runs or as many as the budget; `end` is where they end, clipped at `before`
pub record BudgetReaches (lens : List ℕ) (n before budget k end : ℕ) : Type 0 where
  pub within : k ≤ n
  pub few : k ≤ budget
  pub begins : (j : ℕ) → k ≡ suc j → sums lens j < before
  pub full : sums lens k < before → k ≡ budget
  pub ends : end ≡ min (sums lens k) before

-- ---- Two parallel lists: what is behind the runs
-- the places from n on are as they were
pub record SameBehind (n : ℕ) (lens sets lens' sets' : List ℕ) : Type 0 where
  pub lens_stay : drop n lens' ≡ drop n lens
  pub sets_stay : drop n sets' ≡ drop n sets

-- the places from n on hold nothing but zeros
unfoldable pub Spare : List ℕ → List ℕ → ℕ → Type 0
Spare lens sets n = (i : ℕ) → n ≤ i → (get_or lens i 0 ≡ 0) × (get_or sets i 0 ≡ 0)
