-- What is held of a log as it arrives.
use Rattle.std.specs.Prelude.{◌≡◌, ℕ, ◌-◌, List, take, drop}
use Rattle.runs.specs.Stretches.{in_front}
use Rattle.tanks.specs.declared.Tanks.{Tanks}
use Rattle.day_log.specs.declared.Took.{Took}
use Rattle.day_log.specs.Groups.{TakesGroups}

-- the bytes at .. end of a list
abbrev pub cut_out : ℕ → ℕ → List ℕ → List ℕ
cut_out at end bytes = take (end - at) (drop at bytes)

-- a list with its own bytes at .. end moved to the front: each in its turn, and behind them the list as it was
abbrev pub moved_to_front : ℕ → ℕ → List ℕ → List ℕ
moved_to_front at end bytes = in_front (cut_out at end bytes) bytes

-- what is held of a list's first `end` bytes: those behind the whole groups that some tanks took of them, which then stand in front
pub record HeldOf (end : ℕ) (bytes : List ℕ) (held : ℕ) (out : List ℕ) : Type 0 where
  pub tanks : Tanks
  pub took : Took
  pub groups : TakesGroups tanks (take end bytes) took
  pub held_is : held ≡ end - took.at
  pub is : out ≡ moved_to_front took.at end bytes
