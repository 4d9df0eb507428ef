-- Looks at the runs: the tests of a set that questions ask, and what neighbours have in common.
use Rattle.std.specs.Prelude.{ℕ, zero, suc, ◌≤◌, ◌<◌, ◌^◌, Bool, not, ◌≡◌, List, ltb, eqb, length}
use Rattle.std.specs.Int.Bits.{bit_and}
use Rattle.styles.specs.Bits.{top_in}
use Rattle.runs.specs.Runs.{Run, runs, total, set_at}
use Rattle.runs.specs.declared.scan.Test.{Test}
use Rattle.runs.specs.declared.scan.Test.TheVariants.{Meets, Misses, Hides, Differs}

-- the set has a bit of the mask
abbrev pub meets : ℕ → ℕ → Bool
meets mask s = ltb 0 (bit_and s mask)

-- the highest bit that the set has of `first` is one of `second`
abbrev pub shows : ℕ → ℕ → ℕ → Bool
shows first second s = top_in 64 (bit_and s first) second

-- the set passes the test
unfoldable pub passes : Test → ℕ → Bool
passes (Meets mask) s = meets mask s
passes (Misses mask) s = not (meets mask s)
passes (Hides first second) s = not (shows first second s)
passes (Differs mask bits) s = not (eqb (bit_and s mask) bits)

-- the bits that positions pos - 1 and pos have in common: none at 0, and none at the end, since from there on the set is 0
unfoldable pub common_at : List Run → ℕ → ℕ
common_at rs zero = 0
common_at rs (suc p) = bit_and (set_at rs p) (set_at rs (suc p))

-- what a look at the first n runs asks
pub record CanLook (lens sets : List ℕ) (n : ℕ) : Type 0 where
  pub lens_n : n ≤ length lens
  pub sets_n : n ≤ length sets
  pub small : total (runs lens sets n) < 2 ^ 63

-- what finding a position among the first n runs asks: besides, that `all` is how many positions they have
pub record CanFind (lens sets : List ℕ) (n all : ℕ) : Type 0 where
  pub look : CanLook lens sets n
  pub all_is : all ≡ total (runs lens sets n)

-- what a scan of the first n runs up to position `to` asks
pub record CanScan (lens sets : List ℕ) (n to : ℕ) : Type 0 where
  pub look : CanLook lens sets n
  pub reach : to ≤ total (runs lens sets n)
