-- The stretches of a range, as a caller's buffer shows them.
use Rattle.std.specs.Prelude.{ℕ, suc, ◌≤◌, ◌<◌, ◌^◌, Bool, cond, ◌&&◌, List, [], ◌∷◌, ◌++◌, ltb, leb, eqb, length, drop}
use Rattle.std.specs.Int.Count.{ones}
use Rattle.runs.specs.Positions.{stretches_at, as_numbers}
use Rattle.runs.specs.Runs.{Run, runs, set_at, Canon}
use Rattle.runs.specs.Scan.{CanLook, CanScan}

-- position p and the next have one set
abbrev pub alike_in : List Run → ℕ → Bool
alike_in rs p = eqb (set_at rs p) (set_at rs (suc p))

-- how many marks position p has
abbrev pub marks_in : List Run → ℕ → ℕ
marks_in rs p = ones (set_at rs p)

-- the list of the positions from .. to of the first n runs: their maximal stretches, as numbers
abbrev pub listed : ℕ → ℕ → ℕ → List ℕ → List ℕ → ℕ → List ℕ
listed least from to lens sets n = as_numbers least (stretches_at (alike_in (runs lens sets n)) (marks_in (runs lens sets n)) from to)

-- a lent list with xs at its front, the rest as it was
abbrev pub in_front : {A : Type 0} → List A → List A → List A
in_front xs out = xs ++ drop (length xs) out

-- what writing it asks: joined runs that reach so far, and room for all of it
pub record CanList (least from to : ℕ) (lens sets : List ℕ) (n : ℕ) (out : List ℕ) : Type 0 where
  pub scan : CanScan lens sets n to
  pub joined : Canon (runs lens sets n)
  pub room : length (listed least from to lens sets n) ≤ length out

-- what counting its numbers asks: besides a look, that there are few enough runs that three numbers for each can be counted
pub record CanCount (lens sets : List ℕ) (n : ℕ) : Type 0 where
  pub look : CanLook lens sets n
  pub few : n < 2 ^ 62

-- the numbers of one stretch: none where nothing of it is asked, or where it has too few marks
unfoldable pub entry : ℕ → ℕ → ℕ → ℕ → List ℕ
entry least a b c = cond (ltb a b && leb least c) (a ∷ b ∷ c ∷ []) []
