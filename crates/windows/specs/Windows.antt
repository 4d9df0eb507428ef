-- Equal windows over a tank's positions, and the first of some keys that shows a value in each: from what the question for a position's value
-- says, so that what a null shows, and that positions past the length show nothing, is said there.
use Rattle.std.specs.Prelude.{ℕ, zero, suc, ◌+◌, ◌*◌, Bool, true, false, not, ◌&&◌, List, [], ◌∷◌, get_or}
use Rattle.runs.specs.Positions.{any_at, seek_from}
use Rattle.runs.specs.Scan.{meets, shows}
use Rattle.questions.specs.declared.Shown.{Shown}
use Rattle.questions.specs.Questions.{value_at}
use Rattle.tank.specs.Rules.{View}

-- ---- What a caller is told
-- the answer is a value
unfoldable pub is_value : Shown → Bool
is_value (Shown.Refused n) = false
is_value Shown.Nothing = false
is_value (Shown.Shows w) = true

-- position p shows a value for the key
abbrev pub shows_at : View → ℕ → ℕ → Bool
shows_at v key p = is_value (value_at p key v)

-- some position of from .. to shows a value for the j-th key
abbrev pub shown_in : View → List ℕ → ℕ → ℕ → ℕ → Bool
shown_in v keys from to j = any_at (shows_at v (get_or keys j 0)) from to

-- which of eight keys, counting from 0, is the first, by the order of the keys, that some position of from .. to shows a value for; 8 for none
abbrev pub first_in : View → List ℕ → ℕ → ℕ → ℕ
first_in v keys from to = seek_from (shown_in v keys from to) 0 8

-- window i is the k positions from start + i * k on
abbrev pub window_at : View → List ℕ → ℕ → ℕ → ℕ → ℕ
window_at v keys start k i = first_in v keys (start + i * k) (start + suc i * k)

-- f i, f (i + 1) and so on: n of them
unfoldable pub list_from : (ℕ → ℕ) → ℕ → ℕ → List ℕ
list_from f i zero = []
list_from f i (suc n) = f i ∷ list_from f (suc i) n

-- n windows, one behind the other
abbrev pub windows : View → List ℕ → ℕ → ℕ → ℕ → List ℕ
windows v keys start k n = list_from (window_at v keys start k) 0 n

-- ---- The walk over the runs
-- a set shows a value for a key: it has bits of the key's mask, and the highest of them, the winner, is no null
abbrev pub shows_bits : ℕ → ℕ → ℕ → Bool
shows_bits keyed nulls s = meets keyed s && not (shows keyed nulls s)

-- the first of eight masks by which it does
abbrev pub first_of_set : List ℕ → ℕ → ℕ → ℕ
first_of_set keyed nulls s = seek_from (λ j. shows_bits (get_or keyed j 0) nulls s) 0 8

-- and by which some position of from .. to does
abbrev pub first_over : List ℕ → ℕ → (ℕ → ℕ) → ℕ → ℕ → ℕ
first_over keyed nulls at from to = seek_from (λ j. any_at (λ p. shows_bits (get_or keyed j 0) nulls (at p)) from to) 0 8

-- in window i
abbrev pub over_window : List ℕ → ℕ → (ℕ → ℕ) → ℕ → ℕ → ℕ → ℕ
over_window keyed nulls at start k i = first_over keyed nulls at (start + i * k) (start + suc i * k)
