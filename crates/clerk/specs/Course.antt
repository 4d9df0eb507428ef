-- A run of the clerk, byte by byte: what the input so far has made of the tanks and of what is kept beside them, where the script stands, and which answers still wait to be written. Beside where a step leads stands what it says.
use Rattle.std.specs.Prelude.{◌≡◌, Bool, true, false, cond, ℕ, ◌-◌, ◌^◌, ◌≤◌, ◌<◌, eqb, length}
use mathlib.Core.List.{List, [], ◌∷◌, ◌++◌, foldl}
use Rattle.tanks.specs.declared.Tanks.{Tanks}
use Rattle.tanks.specs.House.{House, smallest_settings, opening}
use Rattle.tanks.specs.Pool.{meaning, Sound}
use Rattle.script.specs.declared.Call.{Call}
use Rattle.script.specs.declared.Ending.{Ending}
use Rattle.script.specs.declared.Event.{Event}
use Rattle.script.specs.declared.Inlet.{Inlet}
use Rattle.text.specs.Bytes.{bytes}
use Rattle.script.specs.Reading.{fresh_of}
use Rattle.script.specs.Writing.{most_written}
use Rattle.script.specs.Lines.{State, reader_at, state_of, counted_of}
use Rattle.script.specs.Bodies.{Stage, in_lines, Brought, brought_by, ending_in, stage_of, Fits}
use Rattle.answers.specs.Waiting.{Pieces, Waiting, waiting, piece_room, with_all, Short, front, sent}
use Rattle.answers.specs.Replies.{line_says}
use Rattle.clerk.specs.declared.Eaten.{Eaten}
use Rattle.clerk.specs.declared.Side.{Side}
use Rattle.clerk.specs.declared.Stand.{Stand}
use Rattle.clerk.specs.Desk.{empty_side, Settled, after_op, side_after, says_of}

-- the course of a run: the tanks, what is kept beside them, where the script stands, the output that waits, and whether it is over
pub record Course : Type 0 where
  pub house : House
  pub side : Side
  pub stage : Stage
  pub waits : Waiting
  pub over : Bool

-- ---- What bytes bring: nothing yet, the end of the run, or a call with its body, which is performed and answered
-- the tanks then
abbrev pub house_on : Event → House → Side → Call → List ℕ → House
house_on Event.Nothing h side c body = h
house_on Event.Bad h side c body = h
house_on Event.Call h side c body = after_op c.op h side c body

-- what is kept beside them then
abbrev pub side_on : Event → House → Side → Call → List ℕ → Side
side_on Event.Nothing h side c body = side
side_on Event.Bad h side c body = side
side_on Event.Call h side c body = side_after c.op h side c body

-- the line that ends a run: the first that is bad, by its number
abbrev pub malformed_says : State → Pieces
malformed_says r = line_says (bytes "malformed=") (counted_of r.newlines)

-- what is said: nothing yet, that the line is bad, or the answer to the call
unfoldable pub said_on : Event → House → Side → State → Call → List ℕ → Pieces
said_on Event.Nothing h side r c body = []
said_on Event.Bad h side r c body = malformed_says r
said_on Event.Call h side r c body = says_of c.op h side c body

-- whether it ends the run
abbrev pub over_on : Event → Bool
over_on Event.Nothing = false
over_on Event.Bad = true
over_on Event.Call = false

-- what bytes say by what they bring
abbrev pub said_brought : Course → Brought → Pieces
said_brought x b = said_on b.event x.house x.side b.stage.lines b.call b.body

-- the course then: what they say is put behind what waits
unfoldable pub on_brought : Course → Brought → Course
unfolding said_on
on_brought x b =
    record {
      house = house_on b.event x.house x.side b.call b.body;
      side = side_on b.event x.house x.side b.call b.body;
      stage = b.stage;
      waits = with_all x.waits (said_brought x b);
      over = over_on b.event;
    }

-- ---- Bytes
-- some bytes up to the first newline, or to the end of a body, taken at once
abbrev pub after_part : Course → List ℕ → Course
after_part x part = on_brought x (brought_by x.stage part)

-- what they say
abbrev pub said_part : Course → List ℕ → Pieces
said_part x part = said_brought x (brought_by x.stage part)

-- one byte more; when the run is over nothing more is taken
unfoldable pub after_byte : Course → ℕ → Course
after_byte x byte = cond x.over x (after_part x (byte ∷ []))

-- what it says; when the run is over, nothing
unfoldable pub said_byte : Course → ℕ → Pieces
said_byte x byte = cond x.over [] (said_part x (byte ∷ []))

-- bytes one after another
unfoldable pub after_bytes : Course → List ℕ → Course
after_bytes = foldl after_byte

-- all that steps say one after another, each from where those before it lead
abbrev pub said_by : {X A B : Type 0} → (X → A → X) → (X → A → List B) → X → List A → List B
said_by step says x [] = []
said_by step says x (a ∷ more) = says x a ++ said_by step says (step x a) more

-- all that bytes say
unfoldable pub said_bytes : Course → List ℕ → Pieces
said_bytes = said_by after_byte said_byte

-- ---- The end of the input
-- what an input's end says, by how it ends: in the middle of a line, a group or a body it is a bad line
abbrev pub said_ending : Ending → State → Pieces
said_ending Ending.Clean r = []
said_ending Ending.Cut r = malformed_says r

-- the course after it
abbrev pub ended_as : Ending → Course → Course
ended_as e x = record { house = x.house; side = x.side; stage = x.stage; waits = with_all x.waits (said_ending e x.stage.lines); over = true }

-- how it ends here
abbrev pub ending_at : Course → Ending
ending_at x = ending_in x.stage.left x.stage.lines

-- the course at the end of the input; when the run is over that changes nothing
unfoldable pub at_end : Course → Course
at_end x = cond x.over x (ended_as (ending_at x) x)

-- what the end of the input says; when the run is over, nothing
unfoldable pub said_at_end : Course → Pieces
said_at_end x = cond x.over [] (said_ending (ending_at x) x.stage.lines)

-- ---- Reads
-- what a read gives: bytes, and none at the end of the input
abbrev pub after_read : Course → List ℕ → Course
after_read x input = cond (eqb (length input) 0) (at_end x) (after_bytes x input)

-- what it says
abbrev pub said_read : Course → List ℕ → Pieces
said_read x input = cond (eqb (length input) 0) (said_at_end x) (said_bytes x input)

-- what waited is written out, and all of the buffer is free again
abbrev pub written : Course → Course
written x = record { house = x.house; side = x.side; stage = x.stage; waits = waiting x.waits.buffer 0; over = x.over }

-- a read, and the answers to it written out
abbrev pub written_after : Course → List ℕ → Course
written_after x input = written (after_read x input)

-- reads one after another; the answers to each are written out before the next
unfoldable pub after_reads : Course → List (List ℕ) → Course
after_reads = foldl written_after

-- all that is said meanwhile
unfoldable pub said_reads : Course → List (List ℕ) → Pieces
said_reads = said_by written_after said_read

-- ---- What the code hands back
-- where tanks, a stand, the memory for bodies and a buffer are in a course
abbrev pub course_of : Tanks → Stand → List ℕ → List ℕ → Course
course_of s stand memory buffer = record { house = meaning s; side = stand.side; stage = stage_of stand.inlet memory; waits = waiting buffer stand.at; over = stand.over }

-- what is handed back is in form: the tanks, what is kept beside them, and room in the memory for what is left of a body
pub record Ready (r : Eaten) (memory : List ℕ) : Type 0 where
  pub sound : Sound r.tanks
  pub settled : Settled r.stand.side
  pub fits : Fits r.stand.inlet memory

-- bytes eaten: they lead where the run stands afterwards, and no piece of what they say is too long
pub record Eats (s : Tanks) (stand : Stand) (memory buffer : List ℕ) (input : List ℕ) (r : Eaten) (after out : List ℕ) : Type 0 where
  pub ready : Ready r after
  pub is : course_of r.tanks r.stand after out ≡ after_bytes (course_of s stand memory buffer) input
  pub short : Short (said_bytes (course_of s stand memory buffer) input)

-- the end of the input, in the same way
pub record Closes (s : Tanks) (stand : Stand) (memory buffer : List ℕ) (r : Eaten) (out : List ℕ) : Type 0 where
  pub ready : Ready r memory
  pub is : course_of r.tanks r.stand memory out ≡ at_end (course_of s stand memory buffer)
  pub short : Short (said_at_end (course_of s stand memory buffer))

-- one read, whatever its bytes were
pub record Reads (s : Tanks) (stand : Stand) (memory buffer : List ℕ) (r : Eaten) (after out : List ℕ) : Type 0 where
  pub input : List ℕ
  pub ready : Ready r after
  pub is : course_of r.tanks r.stand after out ≡ after_read (course_of s stand memory buffer) input
  pub short : Short (said_read (course_of s stand memory buffer) input)

-- so many reads lead from one place to another, and no piece of what they say is too long
pub record Leads (reads : ℕ) (x y : Course) : Type 0 where
  pub inputs : List (List ℕ)
  pub count : length inputs ≡ reads
  pub is : y ≡ after_reads x inputs
  pub short : Short (said_reads x inputs)

-- more reads are not made: there is no run that uses them up
abbrev pub most_reads : ℕ
most_reads = 2 ^ 64 - 1

-- a run from a place on, whatever its reads gave: it goes on until it is over
pub record RunsFrom (x : Course) (r : Eaten) (memory out : List ℕ) : Type 0 where
  pub sound : Sound r.tanks
  pub reads : ℕ
  pub leads : Leads reads x (course_of r.tanks r.stand memory out)
  pub ends : r.stand.over ≡ false → reads ≡ most_reads

-- a run that goes on, with nothing waiting
abbrev pub going : Tanks → Inlet → Side → List ℕ → List ℕ → Course
going s inlet side memory buffer = record { house = meaning s; side = side; stage = stage_of inlet memory; waits = waiting buffer 0; over = false }

-- a run from such a place on
abbrev pub Runs : Tanks → Inlet → Side → List ℕ → List ℕ → Eaten → List ℕ → List ℕ → Type 0
Runs s first side memory buffer r after out = RunsFrom (going s first side memory buffer) r after out

-- where a whole run begins: fresh tanks, each of share 1 and limit 1 before the first `open`, nothing kept beside them, at the start of a script, with nothing waiting
abbrev pub beginning : List ℕ → Course
beginning buffer = record { house = opening smallest_settings; side = empty_side; stage = in_lines (state_of (reader_at (fresh_of 0) 0)); waits = waiting buffer 0; over = false }

-- a run from its beginning to its end, in a buffer of its own that has room for a piece and is written out, and memory for a body
pub record RunsWhole (r : Eaten) : Type 0 where
  pub buffer : List ℕ
  pub room : piece_room ≤ length buffer
  pub small : length buffer ≤ most_written
  pub memory : List ℕ
  pub out : List ℕ
  pub runs : RunsFrom (beginning buffer) r memory out

-- ---- What the laws of runs speak of
-- where a run is, but for the output that waits
pub record Whereabouts : Type 0 where
  pub house : House
  pub side : Side
  pub stage : Stage
  pub over : Bool

-- the place of a course
abbrev pub where_of : Course → Whereabouts
where_of x = record { house = x.house; side = x.side; stage = x.stage; over = x.over }

-- reads of which none is empty: the input has not ended
unfoldable pub NoneEmpty : List (List ℕ) → Type 0
NoneEmpty [] = Unit
NoneEmpty (input ∷ inputs) = (0 < length input) × NoneEmpty inputs

-- all that goes out: what is written out while a read's answers are put, then what waits at the end of the read
unfoldable pub gone : Course → List (List ℕ) → List ℕ
gone = said_by written_after λ x input. sent x.waits (said_read x input) ++ front (after_read x input).waits
