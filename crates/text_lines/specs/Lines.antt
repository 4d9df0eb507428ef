-- A text of lines, each ended by one newline, read from the front: what a line says, and which line is the first that is wrong.
use Rattle.std.specs.Prelude.{◌≡◌, Bool, cond, ◌&&◌, List, [], ◌∷◌, ◌++◌, ℕ, ◌+◌, leb, length, drop, Option, Some, None}
use Rattle.text.specs.Bytes.{bytes, up_to, holds, starts_of}
use Rattle.text.specs.Number.{decimal_of, hex_of, decimal_text, hex_text}

-- what reading gives: the number of the first wrong line; or what was read, how many lines were read so far, and the text behind them
pub data Got (A : Type 0) : Type 0 where
  bad : ℕ → Got A
  got : A → ℕ → List ℕ → Got A

-- what was read, read on from there; a wrong line ends it
abbrev pub then : {A B : Type 0} → Got A → (A → ℕ → List ℕ → Got B) → Got B
then (bad n) more = bad n
then (got a n t) more = more a n t

-- what was read, where a test of it holds; otherwise the last line that was read is wrong
abbrev pub provided : {A : Type 0} → Bool → A → ℕ → List ℕ → Got A
provided good a n t = cond good (got a n t) (bad n)

-- the text ends here; text left over is the next line
abbrev pub ended : {A : Type 0} → A → ℕ → List ℕ → Got A
ended a n [] = got a n []
ended a n (c ∷ t) = bad (n + 1)

-- ---- One line
-- the text behind its first newline
abbrev pub behind : List ℕ → List ℕ
behind t = drop (length (up_to 10 t) + 1) t

-- what follows the name that a line begins with, read in a way
abbrev pub named : {A : Type 0} → List ℕ → (List ℕ → Option A) → List ℕ → Option A
named name way l = cond (starts_of l name) (way (drop (length name) l)) None

-- a line more, good or wrong
abbrev pub said : {A : Type 0} → ℕ → List ℕ → Option A → Got A
said n t None = bad (n + 1)
said n t (Some a) = got a (n + 1) t

-- the next line is a name and what is read in a way, ended by a newline
unfoldable pub line : {A : Type 0} → List ℕ → (List ℕ → Option A) → ℕ → List ℕ → Got A
line name way n t = cond (holds 10 t) (said n (behind t) (named name way (up_to 10 t))) (bad (n + 1))

-- ---- Numbers
-- a number that was read, at least and at most so much
abbrev pub within : ℕ → ℕ → Option ℕ → Option ℕ
within least most None = None
within least most (Some v) = cond (leb least v && leb v most) (Some v) None

-- a decimal without leading zeros
abbrev pub decimal_from : ℕ → ℕ → List ℕ → Option ℕ
decimal_from least most t = within least most (decimal_of t)

-- sixteen hexadecimal digits in lower case
abbrev pub hex_from : ℕ → ℕ → List ℕ → Option ℕ
hex_from least most t = within least most (hex_of t)

-- the line of a decimal
abbrev pub number_line : List ℕ → ℕ → ℕ → ℕ → List ℕ → Got ℕ
number_line name least most n t = line name (decimal_from least most) n t

-- the line of sixteen hexadecimal digits
abbrev pub hex_line : List ℕ → ℕ → ℕ → ℕ → List ℕ → Got ℕ
hex_line name least most n t = line name (hex_from least most) n t

-- ---- Lines as they are written
-- a name, a word and a newline
abbrev pub word_text : List ℕ → List ℕ → List ℕ
word_text name word = name ++ word ++ bytes "\n"

-- a name, a decimal and a newline
abbrev pub number_text : List ℕ → ℕ → List ℕ
number_text name v = word_text name (decimal_text v)

-- a name, sixteen hexadecimal digits and a newline
abbrev pub digits_text : List ℕ → ℕ → List ℕ
digits_text name v = word_text name (hex_text v)

-- ---- What the code hands back
-- a number that was read, and the place behind its line
abbrev pub at : ℕ → Option ℕ → Option (ℕ × ℕ)
at place None = None
at place (Some v) = Some (v, place)

-- the line from a place of a text on
unfoldable pub taken_by : List ℕ → (List ℕ → Option ℕ) → List ℕ → ℕ → Option (ℕ × ℕ)
taken_by name way text from =
    cond (holds 10 (drop from text)) (at (from + length (up_to 10 (drop from text)) + 1) (named name way (up_to 10 (drop from text)))) None

-- the line from a place on says nothing behind a name, in whatever way that is read
abbrev pub NoValue : List ℕ → List ℕ → ℕ → Type 0
NoValue name text from = (way : List ℕ → Option ℕ) → None ≡ taken_by name way text from

-- it says this, and the text goes on at that place
abbrev pub HasValue : List ℕ → List ℕ → ℕ → List ℕ → ℕ → Type 0
HasValue name text from value place = (way : List ℕ → Option ℕ) → at place (way value) ≡ taken_by name way text from

-- as one that has read n lines says it
abbrev pub got_by : List ℕ → ℕ → Option (ℕ × ℕ) → Got ℕ
got_by text n None = bad (n + 1)
got_by text n (Some (v, place)) = got v (n + 1) (drop place text)
