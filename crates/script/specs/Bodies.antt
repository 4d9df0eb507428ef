-- Bodies: behind the lines of some groups come so many bytes, whatever they are. The reader of lines is as it is; what stands here is above it.
use Rattle.std.specs.Prelude.{◌≡◌, cond, ℕ, ◌+◌, ◌-◌, ◌≤◌, ◌<◌, min, eqb, length, take, drop}
use mathlib.Core.List.{List, [], ◌++◌, foldl}
use Rattle.script.specs.declared.Call.{Call}
use Rattle.script.specs.declared.Ending.{Ending}
use Rattle.script.specs.declared.Event.{Event}
use Rattle.script.specs.declared.Inlet.{Inlet}
use Rattle.script.specs.declared.Op.{Op}
use Rattle.script.specs.declared.Reader.{Reader}
use Rattle.script.specs.declared.Taken.{Taken}
use Rattle.script.specs.Grammar.{most_body}
use Rattle.script.specs.Reading.{fresh_of}
use Rattle.script.specs.Lines.{line_front, State, state_of, counted_of, read_of, brings_of, after_of, ending_of}
use Rattle.script.specs.Args.{number_at}

-- ---- Where a script stands
-- an op that brings a text has a body of as many bytes as its line says, which can be no more than this; the others have none
abbrev pub body_by : Op → ℕ → ℕ
body_by Op.Nothing n = 0
body_by (Op.Change e) n = 0
body_by (Op.Question q) n = 0
body_by (Op.Listing l) n = 0
body_by (Op.Text x) n = min most_body n
body_by (Op.Desk d) n = 0
body_by (Op.Both b) n = 0

-- how many bytes follow the lines of a whole call
unfoldable pub body_of : Call → ℕ
body_of c = body_by c.op (number_at c 0)

-- in its lines, or within a body: the call that it belongs to, what has come of it, and how many of its bytes are left
pub record Stage : Type 0 where
  pub lines : State
  pub call : Call
  pub body : List ℕ
  pub left : ℕ

-- in its lines
abbrev pub in_lines : State → Stage
in_lines s = record { lines = s; call = fresh_of 0; body = []; left = 0 }

-- before the first byte of a body
abbrev pub before_body : State → Call → Stage
before_body s c = record { lines = s; call = c; body = []; left = body_of c }

-- ---- What the next bytes bring
-- where the script stands behind them, and nothing yet, a bad line, or a whole call with its body
pub record Brought : Type 0 where
  pub stage : Stage
  pub event : Event
  pub call : Call
  pub body : List ℕ

-- nothing yet
abbrev pub brings_nothing : Stage → Call → Brought
brings_nothing i c = record { stage = i; event = Event.Nothing; call = c; body = [] }

-- a bad line
abbrev pub brings_bad : State → Call → Brought
brings_bad s c = record { stage = in_lines s; event = Event.Bad; call = c; body = [] }

-- a whole call
abbrev pub brings_call : State → Call → List ℕ → Brought
brings_call s c body = record { stage = in_lines s; event = Event.Call; call = c; body = body }

-- by what a line's end brings: a call that has a body is whole with the last byte of it
unfoldable pub line_brings : Event → State → Call → Brought
unfolding body_of
line_brings Event.Nothing s c = brings_nothing (in_lines s) c
line_brings Event.Bad s c = brings_bad s c
line_brings Event.Call s c = cond (eqb (body_of c) 0) (brings_call s c []) (brings_nothing (before_body s c) c)

-- the newlines of a body count too
unfoldable pub counted_in : ℕ → List ℕ → ℕ
counted_in = foldl λ n byte. cond (eqb byte 10) (counted_of n) n

-- the reader of lines after bytes of a body
abbrev pub passed : State → List ℕ → State
passed s part = record { held = s.held; call = s.call; newlines = counted_in s.newlines part }

-- so many bytes of a body more, and others left
abbrev pub with_part : Stage → List ℕ → Stage
with_part i part = record { lines = passed i.lines part; call = i.call; body = i.body ++ part; left = i.left - length part }

-- a part of a body, no longer than what is left of it
unfoldable pub body_brings : Stage → List ℕ → Brought
unfolding counted_in
body_brings i part = cond (eqb (i.left - length part) 0) (brings_call (passed i.lines part) i.call (i.body ++ part)) (brings_nothing (with_part i part) i.call)

-- some bytes, taken at once as far as one part goes: up to a newline, or those that are left of a body
unfoldable pub brought_by : Stage → List ℕ → Brought
unfolding line_brings body_brings
brought_by i rest = cond (eqb i.left 0) (line_brings (brings_of i.lines rest) (after_of i.lines rest) (read_of i.lines rest).call) (body_brings i (take i.left rest))

-- what comes behind the first newline
abbrev pub behind_line : List ℕ → List ℕ
behind_line rest = drop (length (line_front rest) + 1) rest

-- what comes behind that part
unfoldable pub behind_part : Stage → List ℕ → List ℕ
behind_part i rest = cond (eqb i.left 0) (behind_line rest) (drop i.left rest)

-- an input may not end within a body
unfoldable pub ending_in : ℕ → State → Ending
ending_in left s = cond (eqb left 0) (ending_of s) Ending.Cut

-- ---- What the code hands back
-- where an inlet stands: the bytes of a body that have come lie at the front of memory that is lent
abbrev pub stage_of : Inlet → List ℕ → Stage
stage_of i memory = record { lines = state_of i.reader; call = i.call; body = take i.have memory; left = i.left }

-- there is room for what is left of a body
abbrev pub Fits : Inlet → List ℕ → Type 0
Fits i memory = i.have + i.left ≤ length memory

-- an inlet in the lines
abbrev pub resting : Reader → Inlet
resting r = record { reader = r; call = fresh_of 0; have = 0; left = 0 }

-- what a line's end hands back, by what it brings
unfoldable pub end_taken : Event → Reader → Call → ℕ → Taken
unfolding body_of
end_taken Event.Nothing r c at = record { inlet = resting r; event = Event.Nothing; call = c; size = 0; at = at }
end_taken Event.Bad r c at = record { inlet = resting r; event = Event.Bad; call = c; size = 0; at = at }
end_taken Event.Call r c at =
    cond (eqb (body_of c) 0)
    (record { inlet = resting r; event = Event.Call; call = c; size = 0; at = at })
    (record { inlet = record { reader = r; call = c; have = 0; left = body_of c }; event = Event.Nothing; call = c; size = 0; at = at })

-- what a part of a body hands back: the reader behind it, how many bytes have come and how many are left
unfoldable pub part_taken : Reader → Call → ℕ → ℕ → ℕ → Taken
part_taken r c have left at =
    cond (eqb left 0)
    (record { inlet = resting r; event = Event.Call; call = c; size = have; at = at })
    (record { inlet = record { reader = r; call = c; have = have; left = left }; event = Event.Nothing; call = c; size = 0; at = at })

-- what was brought, the body at the front of the memory
abbrev pub brought_of : Taken → List ℕ → Brought
brought_of t memory = record { stage = stage_of t.inlet memory; event = t.event; call = t.call; body = take t.size memory }

-- the bytes from a place on, taken as far as one part goes: at least one of them
pub record Takes (i : Inlet) (input : List ℕ) (from : ℕ) (memory : List ℕ) (t : Taken) (after : List ℕ) : Type 0 where
  pub is : brought_of t after ≡ brought_by (stage_of i memory) (drop from input)
  pub behind : drop t.at input ≡ behind_part (stage_of i memory) (drop from input)
  pub further : from < t.at
  pub inside : t.at ≤ length input
  pub fits : Fits t.inlet after
  pub sized : t.size ≤ length after
