-- The edge boxes' log, byte by byte: what it has made of the tanks so far, where its text stands, and where it stopped.
use Rattle.std.specs.Prelude.{◌≡◌, Bool, true, false, cond, ℕ, ◌≤◌, eqb, length, Option, Some, None}
use mathlib.Core.List.{List, [], ◌∷◌, ◌++◌, foldl}
use Rattle.styles.specs.declared.Party.TheVariants.{Plant}
use Rattle.tank.specs.Rules.{Edit, annotating, inserting, deleting}
use Rattle.tanks.specs.declared.Tanks.{Tanks}
use Rattle.tanks.specs.House.{House, refusal_at, after_at, Call as Calling}
use Rattle.tanks.specs.Pool as pool
use Rattle.script.specs.declared.Call.{Call}
use Rattle.script.specs.declared.Ending.{Ending}
use Rattle.script.specs.declared.Event.{Event}
use Rattle.script.specs.declared.Change.{Change}
use Rattle.script.specs.declared.Line.{Line}
use Rattle.script.specs.declared.Op.{Op}
use Rattle.script.specs.Args.{number_at, mark_of}
use Rattle.script.specs.Reading.{fresh_of}
use Rattle.script.specs.Lines.{held_of, empty_line, holding, State, reader_at, reader_in, state_of, counted_of, after_of, brings_of, read_of, ending_of}
use Rattle.day_log.specs.declared.Log.{Log}
use Rattle.day_log.specs.declared.Stop.{Stop}
use Rattle.day_log.specs.declared.Taken.{Taken}

-- ---- The groups of a log: three of the console's
-- an op that changes the tanks, and that a log may name
abbrev pub is_edit : Change → Bool
is_edit Change.Open = false
is_edit Change.Annotate = true
is_edit Change.Insert = true
is_edit Change.Delete = true
is_edit Change.Remove = false
is_edit Change.Age = false

-- an op that a log may name; between two groups there is none
abbrev pub logged : Op → Bool
logged Op.Nothing = true
logged (Op.Change e) = is_edit e
logged (Op.Question q) = false
logged (Op.Listing l) = false
logged (Op.Text x) = false
logged (Op.Desk d) = false
logged (Op.Both b) = false

-- the edit of a group, by its op: its numbers stand in the order of its lines; an op that a log may not name has no edit that is asked for
abbrev pub change_by : Change → Call → Edit
change_by Change.Open c = deleting Plant 0 0
change_by Change.Annotate c = annotating (number_at c 1) (number_at c 2) (mark_of Plant c)
change_by Change.Insert c = inserting Plant (number_at c 1) (number_at c 2)
change_by Change.Delete c = deleting Plant (number_at c 1) (number_at c 2)
change_by Change.Remove c = deleting Plant 0 0
change_by Change.Age c = deleting Plant 0 0

-- of any op
abbrev pub edit_by : Op → Call → Edit
edit_by Op.Nothing c = deleting Plant 0 0
edit_by (Op.Change e) c = change_by e c
edit_by (Op.Question q) c = deleting Plant 0 0
edit_by (Op.Listing l) c = deleting Plant 0 0
edit_by (Op.Text x) c = deleting Plant 0 0
edit_by (Op.Desk d) c = deleting Plant 0 0
edit_by (Op.Both b) c = deleting Plant 0 0

-- the tank and the edit of a group
abbrev pub call_of : Call → Calling
call_of c = record { tank = number_at c 0; edit = edit_by c.op c }

-- ---- The course of a log
pub record Course : Type 0 where
  pub house : House
  pub reader : State
  pub edits : ℕ
  pub stop : Stop

-- a reader at the start of a text
abbrev pub at_start : State
at_start = record { held = []; call = fresh_of 0; newlines = 0 }

-- it goes on
abbrev pub going : Stop → Bool
going Stop.Going = true
going (Stop.Refused line number) = false

-- stopped: the number of a line, and a refusal
abbrev pub stopped : Course → ℕ → ℕ → Course
stopped x line number = record { house = x.house; reader = at_start; edits = x.edits; stop = Stop.Refused line number }

-- reading goes on
abbrev pub read_on : Course → State → Course
read_on x r = record { house = x.house; reader = r; edits = x.edits; stop = Stop.Going }

-- a group is whole: its edit is applied, or refused, and then its last line is reported
abbrev pub applied : Course → State → Calling → ℕ → Course
applied x r k number =
    cond (eqb number 0)
    (record { house = after_at x.house k.tank k.edit; reader = r; edits = counted_of x.edits; stop = Stop.Going })
    (stopped x r.newlines number)

-- what a line's end brings, by its event: the call that the line leaves has an op of a log's, or the line is wrong
unfoldable pub on_line : Event → Course → State → Call → Course
on_line Event.Nothing x r c = cond (logged c.op) (read_on x r) (stopped x r.newlines 13)
on_line Event.Bad x r c = stopped x (counted_of r.newlines) 13
on_line Event.Call x r c = cond (logged c.op) (applied x r (call_of c) (refusal_at x.house (call_of c).tank (call_of c).edit)) (stopped x r.newlines 13)

-- some bytes up to the first newline, taken at once
abbrev pub after_line : Course → List ℕ → Course
after_line x line = on_line (brings_of x.reader line) x (after_of x.reader line) (read_of x.reader line).call

-- one byte more; after a stop nothing more is taken
unfoldable pub after_byte : Course → ℕ → Course
unfolding on_line
after_byte x byte = cond (going x.stop) (after_line x (byte ∷ [])) x

-- bytes one after another
unfoldable pub after_bytes : Course → List ℕ → Course
unfolding after_byte
after_bytes = foldl after_byte

-- ---- What the code hands back
-- a line's step
abbrev pub step_of : Event → Bool → Option Bool
step_of Event.Nothing known = cond known (Some false) None
step_of Event.Bad known = None
step_of Event.Call known = cond known (Some true) None

-- the number of a wrong line, behind so many newlines
abbrev pub wrong_line : Event → ℕ → ℕ
wrong_line Event.Nothing n = n
wrong_line Event.Bad n = counted_of n
wrong_line Event.Call n = n

-- a log from its start
abbrev pub fresh : Log
fresh = record { reader = reader_at (fresh_of 0) 0; edits = 0; stop = Stop.Going }

-- a log that stopped
abbrev pub stopped_log : ℕ → ℕ → ℕ → Log
stopped_log edits line number = record { reader = reader_at (fresh_of 0) 0; edits = edits; stop = Stop.Refused line number }

-- the end of a log: in the middle of a line or a group it is a wrong line
abbrev pub ended_as : Ending → Log → Log
ended_as Ending.Clean l = l
ended_as Ending.Cut l = stopped_log l.edits (counted_of l.reader.newlines) 13

-- after a stop it changes nothing
unfoldable pub at_end : Log → Log
at_end l = cond (going l.stop) (ended_as (ending_of (state_of l.reader)) l) l

-- where eight tanks and a log are
abbrev pub course_at : House → Log → Course
course_at h l = record { house = h; reader = state_of l.reader; edits = l.edits; stop = l.stop }

-- of tanks as they are kept
abbrev pub course_of : Tanks → Log → Course
course_of s l = course_at (pool.meaning s) l

-- the log of a course: zeros stand behind what is kept of a line
abbrev pub log_at : Course → Log
log_at x = record { reader = reader_in empty_line x.reader; edits = x.edits; stop = x.stop }

-- a line of a log has zeros behind what is kept of it
pub record Tidy (l : Line) : Type 0 where
  pub zeros : l ≡ holding empty_line (held_of l)
  pub short : length (held_of l) ≤ 65

-- a log that is read names an op of its own
pub record Sound (l : Log) : Type 0 where
  pub op : logged l.reader.call.op ≡ true
  pub tidy : Tidy l.reader.line

-- bytes taken: tanks and log are where they lead
pub record Takes (s : Tanks) (l : Log) (bytes : List ℕ) (r : Taken) : Type 0 where
  pub tanks_sound : pool.Sound r.tanks
  pub log_sound : Sound r.log
  pub house : pool.meaning r.tanks ≡ (after_bytes (course_of s l) bytes).house
  pub log : r.log ≡ log_at (after_bytes (course_of s l) bytes)

-- ---- What the theorems speak of
-- the edit that a line applies: none, or one
abbrev pub applied_on : Event → Course → Call → List Calling
applied_on Event.Nothing x c = []
applied_on Event.Bad x c = []
applied_on Event.Call x c = cond (logged c.op) (cond (eqb (refusal_at x.house (call_of c).tank (call_of c).edit) 0) (call_of c ∷ []) []) []

-- by a byte
unfoldable pub applied_by : Course → ℕ → List Calling
applied_by x byte = cond (going x.stop) (applied_on (brings_of x.reader (byte ∷ [])) x (read_of x.reader (byte ∷ [])).call) []

-- by bytes one after another
unfoldable pub applied_all : Course → List ℕ → List Calling
unfolding applied_by
applied_all x [] = []
applied_all x (byte ∷ more) = applied_by x byte ++ applied_all (after_byte x byte) more
