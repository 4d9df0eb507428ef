-- The door: what the functions that C and Rust link hand back, over bytes that are lent. The eight tanks are a saved text; nothing else is kept between two calls.
use Rattle.std.specs.Prelude.{◌≡◌, Bool, true, false, cond, ℕ, ◌≤◌, ◌<◌, min, ltb, length, take}
use mathlib.Core.List.{List, [], ◌∷◌, flatten}
use Rattle.runs.specs.Stretches.{in_front}
use Rattle.tank.specs.Rules.{when_accepted}
use Rattle.tanks.specs.declared.Setting.{Setting}
use Rattle.tanks.specs.declared.Tanks.{Tanks}
use Rattle.tanks.specs.House.{House, smallest_settings, open_number, opening}
use Rattle.tanks.specs.Pool.{meaning, Sound}
use Rattle.text_lines.specs.Lines.{Got, bad, got}
use Rattle.settings_text.specs.Text.{settings_of}
use Rattle.saved.specs.declared.Restored.{Restored}
use Rattle.saved.specs.Saying.{Said, newest, saying, house_in}
use Rattle.saved.specs.Reads.{restore_number, restore_line, restored}
use Rattle.saved.specs.Writes.{written, write_number}
use Rattle.script.specs.declared.Ending.{Ending}
use Rattle.script.specs.Reading.{fresh_of}
use Rattle.script.specs.Lines.{reader_at, state_of, counted_of}
use Rattle.script.specs.Bodies.{in_lines}
use Rattle.day_log.specs.declared.Stop.{Stop}
use Rattle.day_log.specs.declared.Took.{Took}
use Rattle.day_log.specs.Groups.{TakesGroups}
use Rattle.answers.specs.Waiting.{waiting}
use Rattle.clerk.specs.Desk.{empty_side}
use Rattle.clerk.specs.Course.{Course, after_bytes, said_bytes, ending_at}
use Rattle.door.specs.declared.Outcome.{Outcome}
use Rattle.door.specs.declared.Ran.{Ran}

-- ---- What a call comes to
-- 0 and what is to be written, or the number of what is wrong and its line; of a log beside it how many bytes were taken, how many edits were applied, and by which number and at which line it stopped
pub record Result : Type 0 where
  pub number : ℕ
  pub line : ℕ
  pub text : List ℕ
  pub answers : List ℕ
  pub taken : ℕ
  pub applied : ℕ
  pub stop : ℕ
  pub stop_line : ℕ

-- what is wrong: nothing is written
abbrev pub wrong : ℕ → ℕ → Result
wrong number line = record { number = number; line = line; text = []; answers = []; taken = 0; applied = 0; stop = 0; stop_line = 0 }

-- the text of a house, with answers beside it
abbrev pub right : House → List ℕ → Result
right h answers = record { number = 0; line = 0; text = written h; answers = answers; taken = 0; applied = 0; stop = 0; stop_line = 0 }

-- a result where the text of a house fits into so much room, and 11 where it does not
abbrev pub if_fits : ℕ → House → Result → Result
if_fits room h r = when_accepted (write_number room h) r (wrong 11 0)

-- ---- Begin
-- by what the settings text says: 12 with its first wrong line, 2 where no tanks open with these settings
unfoldable pub begun_by : Got (List Setting) → ℕ → Result
begun_by (bad n) room = wrong 12 n
begun_by (got st n rest) room = when_accepted (open_number st) (if_fits room (opening st) (right (opening st) [])) (wrong 2 0)

-- fresh tanks with the settings of a text, with so much room for theirs
abbrev pub begun : List ℕ → ℕ → Result
begun settings room = begun_by (settings_of settings) room

-- ---- Run
-- a house at the start of a script: nothing is kept beside the tanks, and no answer waits
abbrev pub starting : House → Course
starting h = record { house = h; side = empty_side; stage = in_lines (state_of (reader_at (fresh_of 0) 0)); waits = waiting [] 0; over = false }

-- where the script leads
abbrev pub course_of : House → List ℕ → Course
course_of h script = after_bytes (starting h) script

-- the tanks then
abbrev pub house_after : House → List ℕ → House
house_after h script = (course_of h script).house

-- its answers, one behind the other
unfoldable pub answers_of : House → List ℕ → List ℕ
answers_of h script = flatten (said_bytes (starting h) script)

-- the line that is wrong: of a run that is over it is the one that ended it, of another the one in which the script breaks off; 0 for none
unfoldable pub bad_in : Bool → Ending → ℕ → ℕ
bad_in true e line = line
bad_in false Ending.Clean line = 0
bad_in false Ending.Cut line = line

-- the wrong line where a script stands
abbrev pub bad_at : Course → ℕ
bad_at x = bad_in x.over (ending_at x) (counted_of x.stage.lines.newlines)

-- a script's wrong line
abbrev pub bad_line : House → List ℕ → ℕ
bad_line h script = bad_at (course_of h script)

-- no more bytes of answers come from one run
abbrev pub most_answers : ℕ
most_answers = 262144

-- the text of a house and answers, where both fit
unfoldable pub handed : House → ℕ → ℕ → List ℕ → Result
handed h textRoom answersRoom answers = cond (ltb (min answersRoom most_answers) (length answers)) (wrong 11 0) (if_fits textRoom h (right h answers))

-- a script on the tanks of a house: 64 with its wrong line, 11 where the answers or the text do not fit
unfoldable pub run_from : House → List ℕ → ℕ → ℕ → Result
unfolding bad_in answers_of handed
run_from h script textRoom answersRoom = cond (ltb 0 (bad_line h script)) (wrong 64 (bad_line h script)) (handed (house_after h script) textRoom answersRoom (answers_of h script))

-- by what a saved text says: 13 with its first wrong line
abbrev pub on_text : Got Said → (House → Result) → Result
on_text (bad n) f = wrong 13 n
on_text (got s n rest) f = f (house_in s)

-- the calls of a script on the tanks of a saved text
abbrev pub run : List ℕ → List ℕ → ℕ → ℕ → Result
run text script textRoom answersRoom = on_text (saying newest text) λ h. run_from h script textRoom answersRoom

-- ---- Feed
-- the number by which a log stopped, 0 where it goes on
abbrev pub stop_number : Stop → ℕ
stop_number Stop.Going = 0
stop_number (Stop.Refused line number) = number

-- the line at which it stopped
abbrev pub stop_line : Stop → ℕ
stop_line Stop.Going = 0
stop_line (Stop.Refused line number) = line

-- the tanks behind the last whole group that was accepted, and where the log stands there
abbrev pub fed_on : House → ℕ → ℕ → Stop → Result
fed_on h taken edits stop = record { number = 0; line = 0; text = written h; answers = []; taken = taken; applied = edits; stop = stop_number stop; stop_line = stop_line stop }

-- a piece of a log, from the start of a group on, on the tanks of a house
pub record FeedsFrom (h : House) (log : List ℕ) (room : ℕ) (r : Result) : Type 0 where
  pub tanks : Tanks
  pub is : meaning tanks ≡ h
  pub took : Took
  pub takes : TakesGroups tanks log took
  pub result : r ≡ if_fits room (meaning took.tanks) (fed_on (meaning took.tanks) took.at took.edits took.stop)

-- by what a saved text says
unfoldable pub FeedsBy : Got Said → List ℕ → ℕ → Result → Type 0
FeedsBy (bad n) log room r = r ≡ wrong 13 n
FeedsBy (got s n rest) log room r = FeedsFrom (house_in s) log room r

-- ---- What the code hands back
-- the seven numbers of a report
abbrev pub report_of : Result → List ℕ
report_of r = r.line ∷ length r.text ∷ length r.answers ∷ r.taken ∷ r.applied ∷ r.stop ∷ r.stop_line ∷ []

-- the number is handed back, and the report has the others
abbrev pub Tells : Result → ℕ → List ℕ → Type 0
Tells r number report = (number ≡ r.number) × (report ≡ report_of r)

-- a result told by numbers alone: the bytes stand in what is lent
abbrev pub told : Result → Outcome
told r = record { number = r.number; line = r.line; text = length r.text; answers = length r.answers; taken = r.taken; applied = r.applied; stop = r.stop; at = r.stop_line }

-- a result, its text in front of what is lent for it
pub record Writes (r : Result) (o : Outcome) (next out : List ℕ) : Type 0 where
  pub is : o ≡ told r
  pub text : out ≡ in_front r.text next

-- its answers too
pub record Runs (r : Result) (o : Outcome) (next out lent said : List ℕ) : Type 0 where
  pub is : o ≡ told r
  pub text : out ≡ in_front r.text next
  pub answers : said ≡ in_front r.answers lent

-- a feed
pub record Feeds (text log : List ℕ) (o : Outcome) (next out : List ℕ) : Type 0 where
  pub result : Result
  pub by : FeedsBy (saying newest text) log (length next) result
  pub writes : Writes result o next out

-- begin: the number, the report, and the text in front of what is lent for it
pub record Begins (settings next : List ℕ) (number : ℕ) (out report : List ℕ) : Type 0 where
  pub tells : Tells (begun settings (length next)) number report
  pub text : out ≡ in_front (begun settings (length next)).text next

-- run
pub record RunsScript (saved script next lent : List ℕ) (number : ℕ) (out said report : List ℕ) : Type 0 where
  pub tells : Tells (run saved script (length next) (length lent)) number report
  pub text : out ≡ in_front (run saved script (length next) (length lent)).text next
  pub answers : said ≡ in_front (run saved script (length next) (length lent)).answers lent

-- feed
pub record FeedsLog (saved log next : List ℕ) (number : ℕ) (out report : List ℕ) : Type 0 where
  pub result : Result
  pub by : FeedsBy (saying newest saved) log (length next) result
  pub tells : Tells result number report
  pub text : out ≡ in_front result.text next

-- the tanks of a text, restored over those that there are before the first opening
pub record ReadsText (text : List ℕ) (r : Restored) : Type 0 where
  pub number_is : r.number ≡ restore_number (saying newest text)
  pub line_is : r.line ≡ restore_line (saying newest text)
  pub is : meaning r.tanks ≡ restored (opening smallest_settings) (saying newest text)
  pub sound : Sound r.tanks

-- the calls of a script, their answers in front of memory that is held: the place behind them tells whether there are more than so many bytes
pub record RunsCalls (h : House) (script : List ℕ) (r : Ran) (held : List ℕ) : Type 0 where
  pub sound : Sound r.tanks
  pub is : meaning r.tanks ≡ house_after h script
  pub line_is : r.line ≡ bad_line h script
  pub few : r.at ≤ most_answers → (r.at ≡ length (answers_of h script)) × (take r.at held ≡ answers_of h script)
  pub many : most_answers < r.at → most_answers < length (answers_of h script)
