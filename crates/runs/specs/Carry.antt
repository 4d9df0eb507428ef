-- Numbers of one list put into another in one piece, and what an edit of a joined list asks.
use Rattle.std.specs.Prelude.{ℕ, ◌+◌, ◌<◌, ◌≡◌, List, get_or, drop}
use Rattle.runs.specs.Runs.{runs, total, Canon, changing}
use Rattle.runs.specs.Edits.{CanCopy}

-- the first `count` numbers from place k of a source on stand from place n on; the places before and behind them are as they were
pub record Carried (n k count : ℕ) (source before after : List ℕ) : Type 0 where
  pub front : (j : ℕ) → j < n → get_or after j 0 ≡ get_or before j 0
  pub here : (j : ℕ) → j < count → get_or after (n + j) 0 ≡ get_or source (k + j) 0
  pub rest : drop (n + count) after ≡ drop (n + count) before

-- what a copy of a joined list asks: besides what any copy asks, that its runs are in joined form, and how many positions they have
pub record CanCarry (olens osets : List ℕ) (n : ℕ) (lens sets : List ℕ) (m all from to : ℕ) : Type 0 where
  pub all_is : all ≡ total (runs lens sets m)
  pub canon : Canon (runs lens sets m)
  pub can : CanCopy (changing 0 0) olens osets n lens sets m from to
