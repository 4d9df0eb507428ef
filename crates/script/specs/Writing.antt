-- The lines of answers.
use Rattle.std.specs.Prelude.{◌≡◌, cond, List, [], ◌++◌, ℕ, ◌+◌, ◌-◌, ◌≤◌, leb, ℤ, length}
use Rattle.std.specs.Float.Ieee.{to_bits}
use Rattle.std.specs.Float.{binary64}
use Rattle.text.specs.Number.{decimal_text, hex_text, put}
use Rattle.text.specs.Signed.{signed_text}
use Rattle.styles.specs.declared.Mark.{Mark}
use Rattle.styles.specs.declared.Value.{Value}
use Rattle.script.specs.declared.Kind.{Kind}
use Rattle.text.specs.Bytes.{bytes}
use Rattle.script.specs.Grammar.{kind_name}

-- a text of at most so many bytes stands in the buffer from a place on, and r is the place behind it
pub record Puts (d : List ℕ) (at : ℕ) (t : List ℕ) (most : ℕ) (r : ℕ) (out : List ℕ) : Type 0 where
  pub place : r ≡ at + length t
  pub few : r ≤ at + most
  pub text : out ≡ put d at t

-- no longer buffer is one that is written out: a longer one is held by its owner, who looks at it when all is put
abbrev pub most_written : ℕ
most_written = 65536

-- where a buffer goes on when it has no room behind what waits: at the front of one that has been written out; in one that is held over its last bytes, so that the place behind tells that not all of it had room
unfoldable pub again_at : ℕ → List ℕ → ℕ
again_at room d = cond (leb (length d) most_written) 0 (length d - room)

-- where a text of at most so many bytes goes in a buffer whose front waits: behind what waits, or, where there is no room, where the buffer goes on
abbrev pub free_at : ℕ → ℕ → List ℕ → ℕ
free_at room at d = cond (leb (at + room) (length d)) at (again_at room d)

-- a name, a word and a newline
abbrev pub line_text : List ℕ → List ℕ → List ℕ
line_text name word = name ++ word ++ bytes "\n"

-- a name, a number and a newline
abbrev pub field_text : List ℕ → ℕ → List ℕ
field_text name n = line_text name (decimal_text n)

-- a value's kind
abbrev pub kind_of : Value → Kind
kind_of Value.Null = Kind.Null
kind_of (Value.Flag b) = Kind.Bool
kind_of (Value.Whole z) = Kind.Whole
kind_of (Value.Decimal x) = Kind.Decimal

-- a value: nothing, 0 or 1, a signed number, the sixteen hexadecimal digits of its bits
abbrev pub value_word : Value → List ℕ
value_word Value.Null = []
value_word (Value.Flag b) = cond b (bytes "1") (bytes "0")
value_word (Value.Whole z) = signed_text z
value_word (Value.Decimal x) = hex_text (to_bits binary64 x)

-- the two lines of a value
unfoldable pub value_text : Value → List ℕ
value_text v = line_text (bytes "kind=") (kind_name (kind_of v)) ++ line_text (bytes "value=") (value_word v)

-- the line of a counter
abbrev pub counter_text : ℤ → List ℕ
counter_text z = line_text (bytes "cnt=") (signed_text z)

-- the lines that say which mark it is and where it came from: its identity and its box's counter
abbrev pub origin_text : Mark → List ℕ
origin_text m = field_text (bytes "key=") m.key ++ field_text (bytes "lamport=") m.lamport ++ field_text (bytes "peer=") m.peer ++ counter_text m.cnt

-- the seven lines of a mark
unfoldable pub mark_text : Mark → List ℕ
unfolding value_text
mark_text m = origin_text m ++ field_text (bytes "flags=") m.flags ++ value_text m.value
