-- The whole groups at the front of some bytes: where a log stands between two groups, and what taking as many as there are hands back.
use Rattle.std.specs.Prelude.{◌≡◌, List, [], ℕ, ◌<◌, ◌≤◌, length, take}
use Rattle.tanks.specs.declared.Tanks.{Tanks}
use Rattle.tanks.specs.House.{House}
use Rattle.tanks.specs.Pool as pool
use Rattle.script.specs.Reading.{fresh_of}
use Rattle.script.specs.Lines.{State}
use Rattle.day_log.specs.declared.Stop.{Stop}
use Rattle.day_log.specs.declared.Took.{Took}
use Rattle.day_log.specs.Log.{Course, after_bytes, course_at, fresh}

-- a reader behind so many lines and at the start of a group
abbrev pub between_at : ℕ → State
between_at lines = record { held = []; call = fresh_of 0; newlines = lines }

-- a log stands between two groups: it goes on, and of the next group no byte has come
pub record Between (x : Course) : Type 0 where
  pub on : x.stop ≡ Stop.Going
  pub reader : x.reader ≡ between_at x.reader.newlines

-- a log from its start on some tanks
abbrev pub begun : House → Course
begun h = course_at h fresh

-- after the first n of some bytes
abbrev pub after_first : House → ℕ → List ℕ → Course
after_first h n bytes = after_bytes (begun h) (take n bytes)

-- as many whole groups as there are: the place is the last at which the log stands between two groups, tanks, lines and edits are those that it
-- has there, and it stopped where all the bytes stop it
pub record TakesGroups (s : Tanks) (bytes : List ℕ) (r : Took) : Type 0 where
  pub sound : pool.Sound r.tanks
  pub inside : r.at ≤ length bytes
  pub between : Between (after_first (pool.meaning s) r.at bytes)
  pub last : (n : ℕ) → r.at < n → n ≤ length bytes → Between (after_first (pool.meaning s) n bytes) → ⊥
  pub house : pool.meaning r.tanks ≡ (after_first (pool.meaning s) r.at bytes).house
  pub lines : r.lines ≡ (after_first (pool.meaning s) r.at bytes).reader.newlines
  pub edits : r.edits ≡ (after_first (pool.meaning s) r.at bytes).edits
  pub stop : r.stop ≡ (after_bytes (begun (pool.meaning s)) bytes).stop
