-- Bytes to lines, and lines to calls.
use Rattle.std.specs.Prelude.{◌≡◌, Bool, cond, List, [], ◌++◌, ℕ, ◌+◌, ◌-◌, ◌^◌, min, eqb, length, take, drop, replicate}
use Rattle.text.specs.Bytes.{up_to, holds}
use Rattle.script.specs.declared.Call.{Call}
use Rattle.script.specs.declared.Cut.{Cut}
use Rattle.script.specs.declared.Ending.{Ending}
use Rattle.script.specs.declared.Event.{Event}
use Rattle.script.specs.declared.Fed.{Fed}
use Rattle.script.specs.declared.Holds.{Holds}
use Rattle.script.specs.declared.Line.{Line}
use Rattle.script.specs.declared.Progress.{Progress}
use Rattle.script.specs.declared.Read.{Read}
use Rattle.script.specs.declared.Reader.{Reader}
use Rattle.script.specs.Grammar.{field_at}
use Rattle.script.specs.Reading.{fresh_of, line_of}

-- the bytes in front of the first newline
abbrev pub line_front : List ℕ → List ℕ
line_front = up_to 10

-- there is a newline
abbrev pub has_end : List ℕ → Bool
has_end = holds 10

-- what is kept of a line: all of it, or the first 65 bytes where it has more
abbrev pub held_of : Line → List ℕ
held_of l = take l.count l.text

-- n is how many bytes are kept of a line
pub record Keeps (l : Line) (n : ℕ) : Type 0 where
  pub count : n ≡ min l.count 65
  pub sized : length l.text ≡ 65

-- a line of which no byte has come
abbrev pub empty_line : Line
empty_line = record { text = replicate 65 0; count = 0 }

-- a line's places with these bytes at their front; behind them stays what stood there
abbrev pub holding : Line → List ℕ → Line
holding l t = record { text = t ++ drop (length t) l.text; count = length t }

-- what is kept of a line when the bytes up to the newline, or all of them, have come behind it
abbrev pub grown_of : List ℕ → List ℕ → List ℕ
grown_of held rest = take 65 (held ++ line_front rest)

-- the place behind the first newline from a place on, or the end of the bytes
abbrev pub past_line : List ℕ → ℕ → ℕ
past_line bytes from = min (length bytes) (from + length (line_front (drop from bytes)) + 1)

-- a line takes the bytes up to its newline, and they are passed with it
abbrev pub cut_of : List ℕ → ℕ → Line → Cut
cut_of bytes from l = record { line = holding l (grown_of (held_of l) (drop from bytes)); at = past_line bytes from; whole = has_end (drop from bytes) }

-- a reader at the start of a line
abbrev pub reader_at : Call → ℕ → Reader
reader_at c n = record { line = empty_line; call = c; newlines = n }

-- where a reader stands: what is kept of the line, the call, and how many lines were good
pub record State : Type 0 where
  pub held : List ℕ
  pub call : Call
  pub newlines : ℕ

-- a reader's state
abbrev pub state_of : Reader → State
state_of r = record { held = held_of r.line; call = r.call; newlines = r.newlines }

-- a reader in a state: what is kept stands at the front of a line's places
abbrev pub reader_in : Line → State → Reader
reader_in l s = record { line = holding l s.held; call = s.call; newlines = s.newlines }

-- one line more; 64 bits count no further than they go
abbrev pub counted_of : ℕ → ℕ
counted_of n = min (2 ^ 64 - 1) (n + 1)

-- what a line's end brings
abbrev pub event_of : Progress → Event
event_of Progress.Bad = Event.Bad
event_of Progress.More = Event.Nothing
event_of Progress.Ready = Event.Call

-- after a line's end: a bad line is not counted, and after a whole call the next line names an op
abbrev pub turned_of : ℕ → Progress → Call → State
turned_of n Progress.Bad c = record { held = []; call = c; newlines = n }
turned_of n Progress.More c = record { held = []; call = c; newlines = counted_of n }
turned_of n Progress.Ready c = record { held = []; call = fresh_of 0; newlines = counted_of n }

-- what the bytes up to the first newline, or all of them, make of the call: a line is read at its newline, and before it the call stays as it was
abbrev pub read_of : State → List ℕ → Read
read_of s rest = cond (has_end rest) (line_of s.call (grown_of s.held rest)) (record { call = s.call; progress = Progress.More })

-- what they bring: nothing before a newline, else by how the call stands
unfoldable pub brings_of : State → List ℕ → Event
unfolding up_to holds line_of
brings_of s rest = event_of (read_of s rest).progress

-- the state after them
unfoldable pub after_of : State → List ℕ → State
unfolding up_to holds line_of
after_of s rest =
    cond (has_end rest)
    (turned_of s.newlines (read_of s rest).progress (read_of s rest).call)
    (record { held = grown_of s.held rest; call = s.call; newlines = s.newlines })

-- the reader after them: behind a newline its line has the places of an empty one, else those it had
unfoldable pub reader_after : Reader → List ℕ → Reader
unfolding holds after_of
reader_after r rest = reader_in (cond (has_end rest) empty_line r.line) (after_of (state_of r) rest)

-- the bytes from a place on, fed to a reader
pub record Feeds (r : Reader) (bytes : List ℕ) (from : ℕ) (f : Fed) : Type 0 where
  pub reader : f.reader ≡ reader_after r (drop from bytes)
  pub event : f.event ≡ brings_of (state_of r) (drop from bytes)
  pub call : f.call ≡ (read_of (state_of r) (drop from bytes)).call
  pub at : f.at ≡ past_line bytes from

-- an input ends well where a line that names an op would come next
abbrev pub ending_by : Holds → Ending
ending_by Holds.Nothing = Ending.Cut
ending_by Holds.Op = Ending.Clean
ending_by (Holds.Number most) = Ending.Cut
ending_by Holds.Counter = Ending.Cut
ending_by Holds.Kind = Ending.Cut
ending_by Holds.Value = Ending.Cut
ending_by Holds.Byte = Ending.Cut
ending_by Holds.Party = Ending.Cut

-- whether the input may end here: between two calls, with no line begun
unfoldable pub ending_of : State → Ending
ending_of s = cond (eqb (length s.held) 0) (ending_by (field_at s.call.row s.call.place).holds) Ending.Cut
