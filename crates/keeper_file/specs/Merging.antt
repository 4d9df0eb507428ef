-- Logs one after another, each from its start: what they make of a house, where one of them stops, and what is kept of them, all or nothing.
use Rattle.std.specs.Prelude.{◌≡◌, true, false, cond, ℕ}
use mathlib.Core.List.{List, [], ◌∷◌, foldl}
use Rattle.script.specs.Lines.{counted_of}
use Rattle.tanks.specs.House.{House}
use Rattle.tanks.specs.Pool as pool
use Rattle.day_log.specs.declared.Log.{Log}
use Rattle.day_log.specs.declared.Stop.{Stop}
use Rattle.day_log.specs.Log as logs
use Rattle.day_log.specs.Log.{Course, going, after_bytes, at_end, course_at, course_of, log_at}
use Rattle.day_log.specs.Groups.{begun}
use Rattle.keeper_file.specs.declared.Merge.{Merge}
use Rattle.keeper_file.specs.declared.Renewed.{Renewed}
use Rattle.keeper_file.specs.File.{further_by, Renews}

-- where a merge stands: the tanks and the log that is being read, how many logs ended well before it, and how many edits those applied
pub record Standing : Type 0 where
  pub course : Course
  pub logs : ℕ
  pub edits : ℕ

-- before the first log
abbrev pub set_out : House → Standing
set_out h = record { course = begun h; logs = 0; edits = 0 }

-- so many bytes more of the log that is being read
abbrev pub poured_on : Standing → List ℕ → Standing
poured_on x bytes = record { course = after_bytes x.course bytes; logs = x.logs; edits = x.edits }

-- the log is over, and this is how it ended: well, and the next begins from its own start; or it stopped, and the merge stays there
abbrev pub ended_with : Standing → Log → Standing
ended_with x l =
    cond (going l.stop)
    (record { course = begun x.course.house; logs = counted_of x.logs; edits = further_by x.edits l.edits })
    (record { course = course_at x.course.house l; logs = x.logs; edits = x.edits })

-- the log that is being read is over
unfoldable pub log_over : Standing → Standing
unfolding at_end
log_over x = ended_with x (at_end (log_at x.course))

-- one log more, from its start to its end
unfoldable pub after_log : Standing → List ℕ → Standing
unfolding log_over after_bytes
after_log x bytes = log_over (poured_on x bytes)

-- logs one after another
unfoldable pub after_logs : Standing → List (List ℕ) → Standing
unfolding after_log
after_logs = foldl after_log

-- ---- What logs do to a house
-- the house after them: those before one that stops, and of that one the edits before its stop
abbrev pub merged_house : House → List (List ℕ) → House
merged_house h all = (after_logs (set_out h) all).course.house

-- how many of them end well before one stops
abbrev pub merged_logs : House → List (List ℕ) → ℕ
merged_logs h all = (after_logs (set_out h) all).logs

-- where that one stops: its line and the refusal, or none does
abbrev pub merged_stop : House → List (List ℕ) → Stop
merged_stop h all = (after_logs (set_out h) all).course.stop

-- how many edits they apply
abbrev pub merged_edits : House → List (List ℕ) → ℕ
merged_edits h all = (after_logs (set_out h) all).edits

-- all or nothing: the house after all of them where none stops, else the house as it was
abbrev pub merged_after : House → List (List ℕ) → House
merged_after h all = cond (going (merged_stop h all)) (merged_house h all) h

-- ---- What the code hands back
-- a merge in form
pub record Sound (m : Merge) : Type 0 where
  pub tanks : pool.Sound m.tanks
  pub log : logs.Sound m.log

-- where it stands
abbrev pub standing_of : Merge → Standing
standing_of m = record { course = course_of m.tanks m.log; logs = m.logs; edits = m.edits }

-- a merge in form that stands there
pub record Stands (m : Merge) (x : Standing) : Type 0 where
  pub sound : Sound m
  pub is : standing_of m ≡ x

-- nothing is to be written
abbrev pub nothing_new : Renewed
nothing_new = record { number = 0; count = 0; changed = false }

-- what the file is to hold: its place as it was, and the tanks after all logs; where one stopped nothing is to be written
pub record Settles (x : Standing) (place : ℕ) (kept buffer : List ℕ) (r : Renewed) (out : List ℕ) : Type 0 where
  pub all : going x.course.stop ≡ true → Renews place x.course.house kept buffer r out
  pub none : going x.course.stop ≡ false → (r ≡ nothing_new) × (out ≡ buffer)

-- ---- What the theorem speaks of
-- the code's own merges, read after read of one log
pub data Pours : Merge → List (List ℕ) → Merge → Type 0 where
  no_read : {m : Merge} → Pours m [] m
  read : {m next last : Merge} {bytes : List ℕ} {more : List (List ℕ)} → Stands next (poured_on (standing_of m) bytes) → Pours next more last → Pours m (bytes ∷ more) last

-- log after log, each in reads
pub data Merges : Merge → List (List (List ℕ)) → Merge → Type 0 where
  no_log : {m : Merge} → Merges m [] m
  log : {m poured next last : Merge} {reads : List (List ℕ)} {more : List (List (List ℕ))} → Pours m reads poured → Stands next (log_over (standing_of poured)) → Merges next more last → Merges m (reads ∷ more) last
