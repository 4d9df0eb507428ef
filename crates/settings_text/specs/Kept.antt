-- The last four sets that were read, with a number counting up from 1.
use Rattle.std.specs.Prelude.{◌≡◌, Bool, true, false, cond, ◌&&◌, ℕ, ◌+◌, ◌-◌, ◌^◌, ltb, leb, length, get_or, take, replicate}
use mathlib.Core.List.{List, [], ◌∷◌, ◌++◌, map, foldl}
use Rattle.text_lines.specs.Lines.{Got, bad, got}
use Rattle.tanks.specs.declared.Setting.{Setting}
use Rattle.settings_text.specs.declared.Asked.{Asked}
use Rattle.settings_text.specs.declared.Kept.{Kept}
use Rattle.settings_text.specs.declared.Set.{Set}
use Rattle.settings_text.specs.declared.Taken.{Taken}
use Rattle.settings_text.specs.Text.{settings_of, no_settings}

-- no set
abbrev pub no_set : Set
no_set = record { settings = no_settings }

-- four places
abbrev pub no_sets : List Set
no_sets = replicate 4 no_set

-- nothing read yet
abbrev pub kept_none : Kept
kept_none = record { number = 0; sets = no_sets }

-- the most that a number can be
abbrev pub last_number : ℕ
last_number = 2 ^ 32 - 1

-- one set more: the newest stands first, and the oldest of four goes
abbrev pub kept_with : Kept → List Setting → Kept
kept_with k st = record { number = k.number + 1; sets = record { settings = st } ∷ take 3 k.sets }

-- good text: it takes the next number, and past the last number it is refused with line 0
abbrev pub taken_good : Kept → List Setting → Taken
taken_good k st = cond (ltb k.number last_number)
    (record { number = 0; line = 0; kept = kept_with k st })
    (record { number = 12; line = 0; kept = k })

-- a text taken: bad text leaves what is kept as it was
unfoldable pub taken_of : Kept → Got (List Setting) → Taken
taken_of k (bad n) = record { number = 12; line = n; kept = k }
taken_of k (got st n text) = taken_good k st

-- set n is kept: it was read, and fewer than four were read after it
abbrev pub is_kept : ℕ → ℕ → Bool
is_kept last n = leb 1 n && (leb n last && ltb (last - n) 4)

-- set number n, or none
unfoldable pub asked_of : Kept → ℕ → Asked
asked_of k n = cond (is_kept k.number n)
    (record { found = true; settings = (get_or k.sets (k.number - n) (record { settings = [] })).settings })
    (record { found = false; settings = no_settings })

-- four places
pub record Sound (k : Kept) : Type 0 where
  pub four : length k.sets ≡ 4

-- ---- What the theorems speak of
-- all sets that were read, the newest first: what is kept of them
abbrev pub kept_of : List (List Setting) → Kept
kept_of h = record { number = length h; sets = take 4 (map (λ st. record { settings = st }) h ++ no_sets) }

-- a text read after them
abbrev pub read_after : List (List Setting) → Got (List Setting) → List (List Setting)
read_after h (bad n) = h
read_after h (got st n text) = cond (ltb (length h) last_number) (st ∷ h) h

-- texts read one after another, from nothing
unfoldable pub all_read : List (List ℕ) → List (List Setting)
all_read = foldl (λ h text. read_after h (settings_of text)) []

-- what is kept then, text after text
unfoldable pub kept_after : List (List ℕ) → Kept
kept_after = foldl (λ k text. (taken_of k (settings_of text)).kept) kept_none
