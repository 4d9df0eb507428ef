-- What is told of a line beside its answer: of a refused call the refusal in words, of a line at which the run ends what was expected and what came.
use Rattle.std.specs.Prelude.{Bool, true, false, cond, ◌&&◌, List, [], ◌∷◌, ◌++◌, map, ℕ, ◌-◌, ltb, leb, eqb, length, get_or, drop, Option, Some, None}
use Rattle.text.specs.Bytes.{bytes, up_to, starts_of, same_of}
use Rattle.text.specs.Number.{decimal_of, decimal_text}
use Rattle.script.specs.declared.Call.{Call}
use Rattle.script.specs.declared.Holds.{Holds}
use Rattle.script.specs.declared.Kind.{Kind}
use Rattle.script.specs.Args.{number_at}
use Rattle.script.specs.Grammar.{Field, row_at, field_at}
use Rattle.script.specs.Reading.{after_name, line_of}
use Rattle.script.specs.Lines.{State, counted_of, grown_of, empty_line}
use Rattle.script.specs.declared.Inlet.{Inlet}
use Rattle.script.specs.declared.Reader.{Reader}
use Rattle.refusals.specs.Words.{words_of}
use Rattle.explain.specs.declared.Came.{Came}

-- ---- Of which line it is told
abbrev pub head_text : ℕ → List ℕ
head_text line = bytes "line " ++ decimal_text line ++ bytes ": "

-- ---- A refused call: its op, its tank where it names one, the number, and the number in words
abbrev pub tank_text : Call → List ℕ
tank_text c = cond (same_of (bytes "tank=") (field_at c.row 0).name) (bytes " tank " ++ decimal_text (number_at c 0)) []

-- the refusal
abbrev pub refused_text : ℕ → List ℕ
refused_text number = bytes ": refused " ++ decimal_text number ++ bytes ", " ++ words_of number ++ bytes "\n"

-- all of it
unfoldable pub refusal_text : ℕ → Call → ℕ → List ℕ
refusal_text line c number = head_text line ++ (row_at c.row).name ++ tank_text c ++ refused_text number

-- ---- What was expected: how the line of the field that comes next begins, and what stands behind that
-- a value's text is that of its kind
abbrev pub value_hint : Kind → List ℕ
value_hint Kind.Null = bytes " and nothing behind it"
value_hint Kind.Bool = bytes " and 0 or 1"
value_hint Kind.Whole = bytes " and a signed number of 64 bits"
value_hint Kind.Decimal = bytes " and sixteen hexadecimal digits"

-- a number is at most so much
abbrev pub most_hint : ℕ → List ℕ
most_hint most = bytes " and a number up to " ++ decimal_text most

-- of what a field holds; where no field is to come, a body is
abbrev pub hint_text : Holds → Kind → List ℕ
hint_text Holds.Nothing k = bytes "the rest of its body"
hint_text Holds.Op k = bytes " and the name of an op"
hint_text (Holds.Number most) k = most_hint most
hint_text Holds.Counter k = bytes " and a signed number of 32 bits"
hint_text Holds.Kind k = bytes " and null, bool, whole or decimal"
hint_text Holds.Value k = value_hint k
hint_text Holds.Byte k = bytes " and one byte"
hint_text Holds.Party k = bytes " and plant or lab"

-- of the field at a call's place
abbrev pub expected_text : Call → List ℕ
expected_text c = bytes "expected " ++ (field_at c.row c.place).name ++ hint_text (field_at c.row c.place).holds c.kind

-- ---- What came
-- each byte is a digit
unfoldable pub figures_of : List ℕ → Bool
figures_of [] = true
figures_of (c ∷ t) = leb 48 c && (leb c 57 && figures_of t)

-- a text that is not the number of its field: no number at all, one with a 0 in front, or one that is too large
abbrev pub wrong_number : List ℕ → Came
wrong_number t = cond (eqb (length t) 0) Came.NoNumber (cond (figures_of t) (cond (eqb (get_or t 0 0) 48) Came.Zero Came.Large) Came.NoNumber)

-- a text behind a field's name, by what the field holds
abbrev pub wrong_text : Holds → List ℕ → Came
wrong_text Holds.Nothing t = Came.Other
wrong_text Holds.Op t = Came.NoOp
wrong_text (Holds.Number most) t = wrong_number t
wrong_text Holds.Counter t = Came.NoCounter
wrong_text Holds.Kind t = Came.NoKind
wrong_text Holds.Value t = Came.NoValue
wrong_text Holds.Byte t = Came.NoValue
wrong_text Holds.Party t = Came.NoParty

-- a bad line, where a field was expected
unfoldable pub came_of : Field → List ℕ → Came
came_of f line =
    cond (ltb 64 (length line)) Came.Long
    (cond (eqb (length line) 0) Came.Empty
    (cond (eqb (get_or line (length line - 1) 0) 13) Came.Return
    (after_name f Came.Other (wrong_text f.holds) line)))

-- the input's end, with so much of a line in front of it
abbrev pub end_of : List ℕ → Came
end_of line = cond (eqb (length line) 0) Came.Ended Came.Cut

-- in words
abbrev pub came_text : Came → List ℕ
came_text Came.Long = bytes "more than 64 bytes"
came_text Came.Empty = bytes "an empty line"
came_text Came.Return = bytes "a carriage return at the line's end"
came_text Came.Other = bytes "another line"
came_text Came.NoOp = bytes "no such op"
came_text Came.NoNumber = bytes "no number"
came_text Came.Zero = bytes "a leading zero"
came_text Came.Large = bytes "a number that is too large"
came_text Came.NoCounter = bytes "no such counter"
came_text Came.NoKind = bytes "no such kind"
came_text Came.NoValue = bytes "no such value"
came_text Came.NoParty = bytes "no such party"
came_text Came.Ended = bytes "the end of the input"
came_text Came.Cut = bytes "no newline at the input's end"

-- a byte as it is shown: a question mark for one that does not print
abbrev pub byte_shown : ℕ → ℕ
byte_shown b = cond (ltb b 32) 63 (cond (ltb 126 b) 63 b)

-- the line that came, of a long one the first 65 bytes
abbrev pub line_shown : List ℕ → List ℕ
line_shown line = cond (eqb (length line) 0) [] (bytes ": " ++ map byte_shown line)

-- all of it
unfoldable pub bad_text : ℕ → Call → Came → List ℕ → List ℕ
bad_text number c came line = head_text number ++ expected_text c ++ bytes ", came " ++ came_text came ++ line_shown line ++ bytes "\n"

-- ---- By the answer: a reader stood somewhere, took bytes up to a line's end or the end of the input, and this was answered
-- the number in the answer of a refused call
unfoldable pub told_number : List ℕ → Option ℕ
told_number answer = cond (ltb (length answer) 8) None (decimal_of (up_to 10 (drop 8 answer)))

-- that refusal
abbrev pub refusal_by : ℕ → Call → Option ℕ → List ℕ
refusal_by line c None = []
refusal_by line c (Some number) = refusal_text line c number

-- of a refused call, whose last line the bytes have ended
unfoldable pub refusal_told : State → List ℕ → List ℕ → List ℕ
refusal_told s input answer = refusal_by (counted_of s.newlines) (line_of s.call (grown_of s.held input)).call (told_number answer)

-- what came: where there were no bytes, the end of the input
abbrev pub came_at : Call → Bool → List ℕ → Came
came_at c some line = cond some (came_of (field_at c.row c.place) line) (end_of line)

-- and what is told of it
abbrev pub bad_at : ℕ → Call → Bool → List ℕ → List ℕ
bad_at number c some line = bad_text number c (came_at c some line) line

-- of a line at which the run ends
unfoldable pub bad_told : State → List ℕ → List ℕ
bad_told s input = bad_at (counted_of s.newlines) s.call (ltb 0 (length input)) (grown_of s.held input)

-- of any answer; of one that is neither, nothing
unfoldable pub told_of : State → List ℕ → List ℕ → List ℕ
told_of s input answer = cond (starts_of answer (bytes "refused=")) (refusal_told s input answer) (cond (starts_of answer (bytes "malformed=")) (bad_told s input) [])

-- where a script stands, as a reader that is told of: within a body it has the call that the body belongs to, of which no line is to come
unfoldable pub tells_from : Inlet → Reader
tells_from i = cond (ltb 0 i.left) (record { line = empty_line; call = i.call; newlines = i.reader.newlines }) i.reader
