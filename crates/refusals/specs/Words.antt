-- The refusals in words, by their numbers.
use Rattle.std.specs.Prelude.{List, [], ◌∷◌, ℕ, get_or}
use Rattle.text.specs.Bytes.{bytes}

-- what each number says, from 0 on; 0 is no refusal
abbrev pub refusals : List (List ℕ)
refusals =
    [] ∷
    bytes "no such tank" ∷  -- 1
    bytes "shares and limits that break the rule" ∷  -- 2
    bytes "an empty range, or a 0 where none may be" ∷  -- 3
    bytes "past the end of the tank" ∷  -- 4
    bytes "longer than 2^63 - 1 positions" ∷  -- 5
    bytes "a value that is no number" ∷  -- 6
    bytes "its identity has another value, flags or cnt" ∷  -- 7
    bytes "no room for one more mark of its party" ∷  -- 8
    bytes "more runs than its limit" ∷  -- 9
    bytes "more runs than the tanks can share" ∷  -- 10
    bytes "less room than the answer takes" ∷  -- 11
    bytes "a settings text with a bad line" ∷  -- 12
    bytes "a log or a saved text with a bad line" ∷  -- 13
    bytes "flags that no type makes" ∷  -- 14
    bytes "a bad range in a plan, or too many runs left" ∷  -- 15
    bytes "the plant's work, tried by the laboratory" ∷  -- 16
    bytes "more runs than the share, by the laboratory" ∷  -- 17
    bytes "a type that is retired" ∷  -- 18
    bytes "a name that can't be kept" ∷  -- 19
    []

-- what a number says: nothing where no refusal has it
abbrev pub words_of : ℕ → List ℕ
words_of number = get_or refusals number []
