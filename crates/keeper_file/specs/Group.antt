-- What a group of a log says of itself, as a message about it names it.
use Rattle.std.specs.Prelude.{cond, List, ℕ, zero, suc, length, drop, Option, None}
use Rattle.text.specs.Bytes.{up_to, starts_of}
use Rattle.text.specs.Number.{decimal_of}

-- a newline
abbrev pub newline : ℕ
newline = 10

-- the number that a line says behind a name
abbrev pub number_behind : List ℕ → List ℕ → Option ℕ
number_behind name line = decimal_of (drop (length name) line)

-- of the first n lines of a text, what the first says that begins with a name; none where none does
unfoldable pub field_in : ℕ → List ℕ → List ℕ → Option ℕ
field_in zero name text = None
field_in (suc n) name text =
    cond
    (starts_of (up_to newline text) name)
    (number_behind name (up_to newline text))
    (field_in n name (drop (suc (length (up_to newline text))) text))
