-- The eight keys of a strip and their letters, as a caller may keep them.
use Rattle.std.specs.Prelude.{ℕ, ◌%◌, [], ◌∷◌, set}
use Rattle.strip.specs.declared.legend.Legend.{Legend}

-- key i with the digit i as its letter, at place i
abbrev pub first_legend : Legend
first_legend =
    record {
      keys = 0 ∷ 1 ∷ 2 ∷ 3 ∷ 4 ∷ 5 ∷ 6 ∷ 7 ∷ [];
      letters = 48 ∷ 49 ∷ 50 ∷ 51 ∷ 52 ∷ 53 ∷ 54 ∷ 55 ∷ [];
    }

-- another key and letter at a place from 0 to 7, which is the remainder of the number that is given
abbrev pub with_letter : Legend → ℕ → ℕ → ℕ → Legend
with_letter l place key letter = record { keys = set l.keys (place % 8) key; letters = set l.letters (place % 8) letter }
