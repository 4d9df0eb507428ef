-- A cell's letter by the place of the first key that shows a value in it.
use Rattle.std.specs.Prelude.{ℕ, cond, List, ltb, get_or}
use Rattle.windows.specs.Windows.{list_from}
use Rattle.strip.specs.Strip.{dot}

-- the letter of a key by its place; a dot for none
abbrev pub letter_of : List ℕ → ℕ → ℕ
letter_of letters first = cond (ltb first 8) (get_or letters first 0) dot

-- of 96 places
abbrev pub letters_of : List ℕ → List ℕ → List ℕ
letters_of letters firsts = list_from (λ i. letter_of letters (get_or firsts i 0)) 0 96
