-- Document 01, "Questions and lists": the questions on one tank, by its positions, each with its refusals and its answer.
use Rattle.std.specs.Prelude.{ℕ, zero, suc, Bool, true, false, cond, ◌&&◌, List, [], Option, None, Some, ltb, leb}
use Rattle.styles.specs.declared.Mark.{Mark}
use Rattle.styles.specs.declared.Value.{Value}
use Rattle.styles.specs.Answers.{styles_of, rank_of}
use Rattle.styles.specs.Marks.{winner, has_key, shows_value, same_marks}
use Rattle.styles.specs.Values.{value_nan, is_null}
use Rattle.runs.specs.Positions.{any_at, all_at, first_of, last_of}
use Rattle.questions.specs.declared.Asked.{Asked}
use Rattle.questions.specs.declared.Extent.{Extent}
use Rattle.questions.specs.declared.SetAsked.{SetAsked}
use Rattle.questions.specs.declared.Shared.{Shared}
use Rattle.questions.specs.declared.Shown.{Shown}
use Rattle.questions.specs.declared.Told.{Told}
use Rattle.tank.specs.Rules.{View, alike, for_insert, asked_range}

-- ---- Answers: for each case its number, 0 or a refusal's, and what stands beside it
-- yes or no; refused: the number, with neither beside it
abbrev pub told_of : ℕ → Bool → Told
told_of zero true = Told.Yes
told_of zero false = Told.No
told_of (suc n) b = Told.Refused (suc n)

-- a value, as change request 5 has it: null shows nothing, for it is a mark taken off
abbrev pub shown_value : Value → Shown
shown_value w = cond (is_null w) Shown.Nothing (Shown.Shows w)

-- the winning mark's value, and nothing without one; refused: no value
abbrev pub shown_of : ℕ → Option Mark → Shown
shown_of zero None = Shown.Nothing
shown_of zero (Some m) = shown_value m.value
shown_of (suc n) w = Shown.Refused (suc n)

-- the mark of a rank, and nothing past the last; refused: no mark
abbrev pub asked_of : ℕ → Option Mark → Asked
asked_of zero None = Asked.Nothing
asked_of zero (Some m) = Asked.Found m
asked_of (suc n) m = Asked.Refused (suc n)

-- a set; refused: the empty one
abbrev pub set_of : ℕ → List Mark → SetAsked
set_of zero ms = record { number = 0; styles = styles_of ms }
set_of (suc n) ms = record { number = suc n; styles = styles_of [] }

-- the set that all positions share, which may be the empty one; not shared, or refused: "none", with no set beside it
abbrev pub shared_of : ℕ → Bool → List Mark → Shared
shared_of zero true ms = record { number = 0; agree = true; styles = styles_of ms }
shared_of zero false ms = record { number = 0; agree = false; styles = styles_of [] }
shared_of (suc n) b ms = record { number = suc n; agree = false; styles = styles_of [] }

-- the first and the last position of a stretch; refused: 0 and 0
abbrev pub extent_of : ℕ → ℕ → ℕ → Extent
extent_of zero a b = record { number = 0; first = a; last = b }
extent_of (suc n) a b = record { number = suc n; first = 0; last = 0 }

-- ---- At a position
-- 4: a single position at or over the length
unfoldable pub position_refusal : ℕ → View → ℕ
position_refusal p v = cond (leb v.length p) 4 0

-- the value shown for a key
abbrev pub value_at : ℕ → ℕ → View → Shown
value_at p key v = shown_of (position_refusal p v) (winner key (v.at p))

-- the marks that the position carries
abbrev pub styles_at : ℕ → View → SetAsked
styles_at p v = set_of (position_refusal p v) (v.at p)

-- the j-th of them, counting from 0
abbrev pub style_at : ℕ → ℕ → View → Asked
style_at p j v = asked_of (position_refusal p v) (rank_of (v.at p) j)

-- from where to where the position's marks hold: the maximal stretch of equal sets that it is in, by its first and its last position
abbrev pub stretch_at : ℕ → View → Extent
stretch_at p v = extent_of (position_refusal p v) (first_of (alike v.at) p) (last_of (alike v.at) v.length p)

-- ---- What an insertion would get
-- 4: insert position over the length
unfoldable pub insert_refusal : ℕ → View → ℕ
insert_refusal pos v = cond (ltb v.length pos) 4 0

-- the marks by the insert rule
abbrev pub styles_for_insert : ℕ → View → SetAsked
styles_for_insert pos v = set_of (insert_refusal pos v) (for_insert pos v)

-- the j-th of them, counting from 0
abbrev pub style_for_insert : ℕ → ℕ → View → Asked
style_for_insert pos j v = asked_of (insert_refusal pos v) (rank_of (for_insert pos v) j)

-- ---- The two yes/no questions over a .. b
-- an empty range is refused nothing; 4: range end over the length; 6: the value asked for is NaN
unfoldable pub yes_no_refusal : ℕ → ℕ → Bool → View → ℕ
yes_no_refusal a b noNumber v = asked_range a b (cond noNumber 6 0) v

-- no for an empty range, and for an untouched tank
unfoldable pub yes_no : ℕ → ℕ → Bool → View → Bool
yes_no a b holds v = ltb a b && (v.touched && holds)

-- has any position of a .. b a mark with this key? No value is asked for
abbrev pub range_contains_key : ℕ → ℕ → ℕ → View → Told
range_contains_key a b key v = told_of (yes_no_refusal a b false v) (yes_no a b (any_at (λ p. has_key key (v.at p)) a b) v)

-- does every position of a .. b show this value for this key?
abbrev pub range_has_key_value : ℕ → ℕ → ℕ → Value → View → Told
range_has_key_value a b key w v = told_of (yes_no_refusal a b (value_nan w) v) (yes_no a b (all_at (λ p. shows_value key w (v.at p)) a b) v)

-- ---- Same marks throughout a .. b
-- 3: an empty range; 4: range end over the length
unfoldable pub same_refusal : ℕ → ℕ → View → ℕ
same_refusal a b v = cond (leb b a) 3 (cond (ltb v.length b) 4 0)

-- all positions agree with the first, and the tank is touched
unfoldable pub agreeing : ℕ → ℕ → View → Bool
agreeing a b v = v.touched && all_at (λ p. same_marks (v.at p) (v.at a)) a b

-- the set that they share, else "none"
abbrev pub styles_of_range : ℕ → ℕ → View → Shared
styles_of_range a b v = shared_of (same_refusal a b v) (agreeing a b v) (v.at a)
