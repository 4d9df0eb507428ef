-- The stretches of a range by the bits of a mask: what a walk over runs where they stand lists, whatever the bits mean.
use Rattle.std.specs.Prelude.{ℕ, suc, ◌≤◌, List, eqb, length}
use Rattle.std.specs.Int.Bits.{bit_and}
use Rattle.std.specs.Int.Count.{ones}
use Rattle.runs.specs.Positions.{stretches_at, as_numbers}
use Rattle.runs.specs.Runs.{set_at, total}
use Rattle.tanks.specs.declared.Head.{Head}
use Rattle.tanks.specs.declared.Run.{Run}
use Rattle.tank.specs.Rules.{View, alike}
use Rattle.tanks.specs.Looks.{run_list, CanWalk}

-- the numbers of the maximal stretches of from .. to, where each position has a set of bits: those with fewer than `least` are left out
abbrev pub bit_list : ℕ → ℕ → ℕ → (ℕ → ℕ) → List ℕ
bit_list least from to bits = as_numbers least (stretches_at (λ p. eqb (bits p) (bits (suc p))) (λ p. ones (bits p)) from to)

-- the same where a position has marks
abbrev pub mark_list : ℕ → ℕ → ℕ → View → List ℕ
mark_list least from to v = as_numbers least (stretches_at (alike v.at) (λ p. length (v.at p)) from to)

-- the same where a position's bits are those of tank t's runs that are in a mask
abbrev pub masked_list : ℕ → ℕ → ℕ → ℕ → List Head → List Run → ℕ → List ℕ
masked_list least from to own hs pool t = bit_list least from to (λ p. bit_and (set_at (run_list hs pool t) p) own)

-- what a walk asks that lists a range: runs that it can walk over, and that reach so far
pub record CanList (hs : List Head) (pool : List Run) (t to : ℕ) : Type 0 where
  pub walk : CanWalk hs pool t
  pub reach : to ≤ total (run_list hs pool t)
