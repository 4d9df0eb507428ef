-- Texts at the right end of so many places, and numbers between texts.
use Rattle.std.specs.Prelude.{List, [], ◌∷◌, ◌++◌, ℕ, ◌-◌, length, replicate}
use Rattle.text.specs.Number.{decimal_text}
use Rattle.answers.specs.Waiting.{Pieces}

-- a text with blanks in front, so that it fills so many places; one that is longer stands as it is
abbrev pub right_text : ℕ → List ℕ → List ℕ
right_text width word = replicate (width - length word) 32 ++ word

-- three pieces: a text, a number, and a text behind it
abbrev pub between_says : List ℕ → ℕ → List ℕ → Pieces
between_says front n behind = front ∷ decimal_text n ∷ behind ∷ []
