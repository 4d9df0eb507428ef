-- What a run of the keeper works on is what STATE says: the text of STATE that it has at hand goes along with the tanks.
use Rattle.std.specs.Prelude.{◌≡◌, List, ℕ, ◌≤◌, length, take, Result, IfOk}
use Rattle.tanks.specs.House.{House}
use Rattle.tanks.specs.Pool.{Sound, meaning}
use Rattle.day_log.specs.declared.Took.{Took}
use Rattle.day_log.specs.Groups.{TakesGroups}
use Rattle.keeper_file.specs.declared.Renewed.{Renewed}
use Rattle.keeper_file.specs.File.{further_by, Renews}
use Rattle.keeper_file.specs.Keeping.{Holds}
use Rattle.keeper.specs.declared.kept.Kept.{Kept}
use Rattle.keeper.specs.declared.files.Unreplaced.{Unreplaced}
use Rattle.keeper.specs.declared.kept.Feeding.{Feeding}

-- the text in front of a buffer says the place and the tanks that are kept
pub record InStep (k : Kept) (text : List ℕ) : Type 0 where
  pub sound : Sound k.tanks
  pub holds : Holds k.place (meaning k.tanks) k.size text

-- where all went well, the text says a place and a house
abbrev pub Saves : {E : Type 0} → ℕ → House → Result ℕ E → List ℕ → Type 0
Saves place h w text = IfOk w (λ size. Holds place h size text)

-- a renewal of the text is carried out, whatever place and house it is for
abbrev pub Writes : Renewed → List ℕ → ℕ → List ℕ → Result ℕ Unreplaced → List ℕ → Type 0
Writes r next size kept w text = (place : ℕ) (h : House) (buffer : List ℕ) → size ≤ length kept → Renews place h (take size kept) buffer r next → Saves place h w text

-- one read of a log is kept: its whole groups were taken, and the text says the place behind them and the tanks that they leave
pub record Feeds (k : Kept) (bytes : List ℕ) (f : Feeding) (text : List ℕ) : Type 0 where
  pub took : Took
  pub groups : TakesGroups k.tanks bytes took
  pub place_is : f.place ≡ further_by k.place took.at
  pub at_is : f.at ≡ took.at
  pub lines_are : f.lines ≡ took.lines
  pub edits_are : f.edits ≡ took.edits
  pub stop_is : f.stop ≡ took.stop
  pub size : ℕ
  pub holds : Holds f.place (meaning took.tanks) size text
