-- All sets of a run list together, and sets that are renumbered where they stand.
use Rattle.std.specs.Prelude.{ℕ, ◌≤◌, ◌<◌, ◌^◌, ◌≡◌, List, [], ◌∷◌, length, get_or}
use Rattle.std.specs.Int.Bits.{bit_or}
use Rattle.runs.specs.Runs.{Run}

-- the union of all sets
unfoldable pub gather : List Run → ℕ
gather [] = 0
gather (r ∷ rs) = bit_or r.set (gather rs)

-- of the sets in `before` each of the first n becomes the one at its place in `after`, and the others are as they were; `becomes s r` says
-- that r is what s is to be
pub record Renumbered (becomes : ℕ → ℕ → Type 0) (n : ℕ) (before after : List ℕ) : Type 0 where
  pub front : (j : ℕ) → j < n → becomes (get_or before j 0) (get_or after j 0)
  pub rest : (j : ℕ) → n ≤ j → get_or after j 0 ≡ get_or before j 0
  pub kept : length after ≡ length before

-- what opening a bit in the first n sets asks: that no set has bit 63, which would be lost
pub record CanOpen (sets : List ℕ) (n : ℕ) : Type 0 where
  pub count : n ≤ length sets
  pub small : (j : ℕ) → j < n → get_or sets j 0 < 2 ^ 63
