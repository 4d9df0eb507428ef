-- Document 02, request 8: the strip, from what the map answers. A position's value is what the question for it says, so what a null shows, and
-- that positions past the length show nothing, is said there.
use Rattle.std.specs.Prelude.{ℕ, zero, suc, ◌+◌, ◌*◌, cond, List, ltb, eqb, get_or}
use Rattle.runs.specs.Positions.{any_at}
use Rattle.windows.specs.Windows.{shows_at, list_from}
use Rattle.tank.specs.Rules.{View}
use Rattle.tanks.specs.House.{no_tank}

-- what a cell has where no key shows a value
abbrev pub dot : ℕ
dot = 46

-- of n keys from the j-th on, the letter of the first that shows a value at some position of from .. to; else a dot
unfoldable pub letter_from : View → List ℕ → List ℕ → ℕ → ℕ → ℕ → ℕ → ℕ
letter_from v keys letters from to j zero = dot
letter_from v keys letters from to j (suc n) =
    cond (any_at (shows_at v (get_or keys j 0)) from to) (get_or letters j 0) (letter_from v keys letters from to (suc j) n)

-- cell i of the strip: the k positions from start + i * k on, and eight keys with a letter each, first key first
abbrev pub cell_at : View → List ℕ → List ℕ → ℕ → ℕ → ℕ → ℕ
cell_at v keys letters start k i = letter_from v keys letters (start + i * k) (start + suc i * k) 0 8

-- the strip: 96 cells
abbrev pub strip : View → List ℕ → List ℕ → ℕ → ℕ → List ℕ
strip v keys letters start k = list_from (cell_at v keys letters start k) 0 96

-- a call's number: 1, then 3 for k = 0, then 11 for fewer than 96 bytes
unfoldable pub strip_number : ℕ → ℕ → ℕ → ℕ
strip_number t k room = cond (no_tank t) 1 (cond (eqb k 0) 3 (cond (ltb room 96) 11 0))
