-- How the code has the two tables: texts of cells that are all as wide, and a letter for each field.
use Rattle.std.specs.Prelude.{◌≡◌, List, [], ◌∷◌, ◌++◌, map, ℕ, zero, suc, ◌+◌, ◌-◌, ◌*◌, length, get_or, take, drop, replicate}
use Rattle.text.specs.Bytes.{up_to}
use Rattle.script.specs.Grammar.{Field, no_field, op_line, tank, start, end, at, len, last, key, lamport, peer, cnt, flags, kind, value, rank, room, before, budget, hold, runs, place, letter, cell_size, party, body_size, set_number, settings, OpRow, no_row, op_rows, op_count}

-- the fields of the bytes from / on: none, the settings by 0 to 9 and on to ?, none, and one for each letter that has one
abbrev pub letters : List Field
letters =
    no_field ∷ settings ++
    no_field ∷
    at ∷ body_size ∷ kind ∷ place ∷ end ∷ flags ∷ runs ∷ hold ∷ cnt ∷ before ∷ key ∷ lamport ∷ room ∷
    len ∷ op_line ∷ peer ∷ budget ∷ rank ∷ start ∷ tank ∷ set_number ∷ value ∷ party ∷ cell_size ∷ letter ∷ last ∷ []

-- how many there are
abbrev pub letter_count : ℕ
letter_count = length letters

-- the field of a letter
abbrev pub field_of : ℕ → Field
field_of letter = get_or letters (letter - 47) no_field

-- the first n cells of a text
abbrev pub cells : ℕ → ℕ → List ℕ → List (List ℕ)
cells width zero t = []
cells width (suc n) t = take width t ∷ cells width n (drop width t)

-- sixteen places for a row's fields
abbrev pub in_places : OpRow → List Field
in_places r = r.fields ++ replicate (16 - length r.fields) no_field

-- a text of the names of all rows, each in a cell that blanks fill up; behind them stands a cell with none
pub record Names (all : List ℕ) : Type 0 where
  pub wide : length all ≡ (op_count + 1) * 16
  pub right : map (up_to 32) (cells 16 (op_count + 1) all) ≡ map (λ (r : OpRow). r.name) (op_rows ++ no_row ∷ [])

-- a text of the letters of all rows' fields, in the same cells
pub record Letters (all : List ℕ) : Type 0 where
  pub wide : length all ≡ (op_count + 1) * 16
  pub right : map (map field_of) (cells 16 (op_count + 1) all) ≡ map in_places (op_rows ++ no_row ∷ [])
