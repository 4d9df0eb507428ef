-- A push, a copy and an edit of a run list leave the joined list of their positions: what stands at each of those is said in Positions.
use Rattle.std.specs.Prelude.{ℕ, ◌+◌, ◌-◌, ◌≤◌, ◌<◌, ◌^◌, min, ◌≡◌, List, length}
use Rattle.runs.specs.Positions.{followed_at}
use Rattle.runs.specs.Runs.{Run, runs, total, set_at, Canon}

-- the joined list of n positions with the set `at p` at each position p: there is no other (`one_joined`, proofs/EditLaws)
pub record Joined (n : ℕ) (at : ℕ → ℕ) (rs : List Run) : Type 0 where
  pub canon : Canon rs
  pub all : total rs ≡ n
  pub sets : (p : ℕ) → p < n → set_at rs p ≡ at p

-- the joined list of `base` with l positions behind it, of which the q-th has the set `more q`
abbrev pub Appended : List Run → ℕ → (ℕ → ℕ) → List Run → Type 0
Appended base l more rs = Joined (total base + l) (followed_at (total base) (set_at base) more) rs

-- ---- What calls ask
-- what a push onto n runs asks: two lists of one length, joined runs, room for the joined list of the result, and a sum that fits
pub record CanPush (lens sets : List ℕ) (n l s : ℕ) : Type 0 where
  pub even : length sets ≡ length lens
  pub count : n ≤ length lens
  pub joined : Canon (runs lens sets n)
  pub room : (out : List Run) → Appended (runs lens sets n) l (λ q. s) out → length out ≤ length lens
  pub sum : total (runs lens sets n) + l < 2 ^ 63

-- what a copy of m runs onto n runs asks: the same, and a source whose sum fits
pub record CanCopy (f : ℕ → ℕ) (olens osets : List ℕ) (n : ℕ) (lens sets : List ℕ) (m from to : ℕ) : Type 0 where
  pub even : length osets ≡ length olens
  pub lens_m : m ≤ length lens
  pub sets_m : m ≤ length sets
  pub source : total (runs lens sets m) < 2 ^ 63
  pub joined : Canon (runs olens osets n)
  pub room : (out : List Run)
      → Appended (runs olens osets n) (min to (total (runs lens sets m)) - from) (λ q. f (set_at (runs lens sets m) (from + q))) out
      → length out ≤ length olens
  pub sum : total (runs olens osets n) + (min to (total (runs lens sets m)) - from) < 2 ^ 63

-- what an edit of m runs asks that leaves n positions with these sets: room for their joined list, and a sum that fits
pub record CanEdit (n : ℕ) (at : ℕ → ℕ) (olens osets lens sets : List ℕ) (m all : ℕ) : Type 0 where
  pub even : length osets ≡ length olens
  pub lens_m : m ≤ length lens
  pub sets_m : m ≤ length sets
  pub all_is : all ≡ total (runs lens sets m)
  pub source : all < 2 ^ 63
  pub room : (out : List Run) → Joined n at out → length out ≤ length olens
  pub sum : n < 2 ^ 63
