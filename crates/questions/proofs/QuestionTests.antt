-- The questions on a small tank, by computation.
use Prim.Native.Nat.{ℕ}
use lib.IntN.{pos}
use mathlib.Core.Path.{◌≡◌, refl}
use mathlib.Core.Bool.{true, false}
use mathlib.Core.List.{List, [], ◌∷◌}
use lib.Ieee.{nan, is_nan}
use lib.ListN.{get_or}
use Rattle.styles.specs.declared.Mark.{Mark}
use Rattle.styles.specs.declared.Party.TheVariants.{Plant}
use Rattle.styles.specs.declared.Value.{Value}
use Rattle.styles.specs.declared.Value.TheVariants.{Null, Flag, Decimal}
use Rattle.styles.specs.Answers.{styles_of, rank_of}
use Rattle.styles.specs.Marks.{winner, has_key, member, only, same_marks, insert_mark}
use Rattle.styles.specs.Order.{numbers, stands}
use Rattle.runs.specs.Positions.{any_at, all_at, stretch_to, seek_from}
use Rattle.questions.specs.declared.Asked.TheVariants as asked
use Rattle.questions.specs.declared.Shown.TheVariants as shown
use Rattle.questions.specs.declared.Told.TheVariants as told
use Rattle.tank.specs.Rules.{View, fresh_view, after_annotate, inherited, for_insert}
use Rattle.questions.specs.Questions.{
  position_refusal,
  insert_refusal,
  yes_no_refusal,
  yes_no,
  same_refusal,
  agreeing,
  value_at,
  styles_at,
  style_at,
  stretch_at,
  styles_for_insert,
  style_for_insert,
  range_contains_key,
  range_has_key_value,
  styles_of_range,
}

abbrev mark : ℕ → ℕ → ℕ → Value → Mark
mark k l p w = record { key = k; flags = 128; party = Plant; lamport = l; cnt = pos 0; peer = p; value = w }

abbrev A : Mark
A = mark 1 5 1 (Flag true)

abbrev B : Mark
B = mark 1 5 2 (Flag false)

abbrev C : Mark
C = mark 2 3 1 Null

-- key 3: the lamport of E is greater, the peer of D
abbrev D : Mark
D = mark 3 5 9 (Flag true)

abbrev E : Mark
E = mark 3 6 1 (Flag false)

-- A on 1 .. 4, C on 2 .. 4, D and E at 5; positions 0 and 4 are unmarked
abbrev cells : List (List Mark)
cells = [] ∷ (A ∷ []) ∷ (A ∷ C ∷ []) ∷ (A ∷ C ∷ []) ∷ [] ∷ (D ∷ E ∷ []) ∷ []

abbrev v : View
v = record { length = 6; touched = true; at = λ p. get_or cells p [] }

-- ---- the value shown at a position
value_yes : value_at 1 1 v ≡ shown.Shows (Flag true)
unfolding position_refusal winner
value_yes = refl

-- a winning null shows nothing, as no mark does
value_null : value_at 2 2 v ≡ shown.Nothing
unfolding position_refusal winner
value_null = refl

value_none : value_at 1 2 v ≡ shown.Nothing
unfolding position_refusal winner
value_none = refl

-- the greatest lamport wins, whatever the peers
value_lamport : value_at 5 3 v ≡ shown.Shows (Flag false)
unfolding position_refusal winner numbers
value_lamport = refl

value_last : value_at 6 1 v ≡ shown.Refused 4
unfolding position_refusal
value_last = refl

-- ---- the marks at a position
marks_two : styles_at 3 v ≡ record { number = 0; styles = styles_of (A ∷ C ∷ []) }
unfolding position_refusal
marks_two = refl

marks_last : styles_at 6 v ≡ record { number = 4; styles = styles_of [] }
unfolding position_refusal
marks_last = refl

rank_first : style_at 3 0 v ≡ asked.Found A
unfolding position_refusal rank_of
rank_first = refl

rank_last : style_at 3 1 v ≡ asked.Found C
unfolding position_refusal rank_of
rank_last = refl

rank_past : style_at 3 2 v ≡ asked.Nothing
unfolding position_refusal rank_of
rank_past = refl

-- ---- from where to where the marks of a position hold
-- 2 and 3 have the same marks, and neither neighbour has them
stretch_two : stretch_at 3 v ≡ record { number = 0; first = 2; last = 3 }
unfolding position_refusal stretch_to seek_from same_marks stands numbers
stretch_two = refl

-- at both ends of the tank
stretch_front : stretch_at 0 v ≡ record { number = 0; first = 0; last = 0 }
unfolding position_refusal stretch_to seek_from same_marks
stretch_front = refl

stretch_back : stretch_at 5 v ≡ record { number = 0; first = 5; last = 5 }
unfolding position_refusal stretch_to seek_from same_marks
stretch_back = refl

stretch_past : stretch_at 6 v ≡ record { number = 4; first = 0; last = 0 }
unfolding position_refusal
stretch_past = refl

-- ---- what an insertion would get
gets_common : styles_for_insert 2 v ≡ record { number = 0; styles = styles_of (A ∷ []) }
unfolding insert_refusal for_insert inherited only member stands numbers
gets_common = refl

-- at the length the empty set, past it 4
gets_none : styles_for_insert 6 v ≡ record { number = 0; styles = styles_of [] }
unfolding insert_refusal for_insert inherited
gets_none = refl

gets_refused : styles_for_insert 7 v ≡ record { number = 4; styles = styles_of [] }
unfolding insert_refusal
gets_refused = refl

gets_rank : style_for_insert 2 0 v ≡ asked.Found A
unfolding insert_refusal for_insert inherited only member stands numbers rank_of
gets_rank = refl

gets_past : style_for_insert 2 1 v ≡ asked.Nothing
unfolding insert_refusal for_insert inherited only member stands numbers rank_of
gets_past = refl

-- ---- a key in a range
key_there : range_contains_key 3 4 1 v ≡ told.Yes
unfolding yes_no_refusal yes_no any_at has_key
key_there = refl

key_outside : range_contains_key 4 6 1 v ≡ told.No
unfolding yes_no_refusal yes_no any_at has_key
key_outside = refl

-- position 5 has the key, and is not of 2 .. 5
key_end : range_contains_key 2 5 3 v ≡ told.No
unfolding yes_no_refusal yes_no any_at has_key
key_end = refl

-- an empty range is answered, wherever it is; any other has to fit
key_empty : range_contains_key 9 9 1 v ≡ told.No
unfolding yes_no_refusal yes_no
key_empty = refl

key_over : range_contains_key 5 7 1 v ≡ told.Refused 4
unfolding yes_no_refusal
key_over = refl

-- ---- a value throughout a range
value_all : range_has_key_value 1 4 1 (Flag true) v ≡ told.Yes
unfolding yes_no_refusal yes_no all_at winner
value_all = refl

value_not_all : range_has_key_value 0 4 1 (Flag true) v ≡ told.No
unfolding yes_no_refusal yes_no all_at winner
value_not_all = refl

value_nan_lem : range_has_key_value 1 4 1 (Decimal nan) v ≡ told.Refused 6
unfolding yes_no_refusal is_nan
value_nan_lem = refl

value_over_nan : range_has_key_value 1 7 1 (Decimal nan) v ≡ told.Refused 4
unfolding yes_no_refusal
value_over_nan = refl

value_empty_nan : range_has_key_value 5 5 1 (Decimal nan) v ≡ told.No
unfolding yes_no_refusal yes_no
value_empty_nan = refl

-- ---- same marks throughout a range
same_two : styles_of_range 2 4 v ≡ record { number = 0; agree = true; styles = styles_of (A ∷ C ∷ []) }
unfolding same_refusal agreeing all_at same_marks stands numbers
same_two = refl

-- an unmarked range shares the empty set
same_empty_set : styles_of_range 4 5 v ≡ record { number = 0; agree = true; styles = styles_of [] }
unfolding same_refusal agreeing all_at same_marks
same_empty_set = refl

same_none : styles_of_range 1 3 v ≡ record { number = 0; agree = false; styles = styles_of [] }
unfolding same_refusal agreeing all_at same_marks stands numbers
same_none = refl

same_refused : styles_of_range 3 3 v ≡ record { number = 3; agree = false; styles = styles_of [] }
unfolding same_refusal
same_refused = refl

-- ---- an untouched tank: "no", "none", nothing to inherit; 4 and 6 are given all the same
fresh_key : range_contains_key 0 9 1 fresh_view ≡ told.No
unfolding yes_no_refusal yes_no fresh_view
fresh_key = refl

fresh_nan : range_has_key_value 0 9 1 (Decimal nan) fresh_view ≡ told.Refused 6
unfolding yes_no_refusal fresh_view is_nan
fresh_nan = refl

fresh_same : styles_of_range 0 9 fresh_view ≡ record { number = 0; agree = false; styles = styles_of [] }
unfolding same_refusal agreeing fresh_view
fresh_same = refl

fresh_gets : styles_for_insert 5 fresh_view ≡ record { number = 0; styles = styles_of [] }
unfolding insert_refusal for_insert fresh_view
fresh_gets = refl

-- ---- document 01, cases 7 and 11
both_on : value_at 12 1 (after_annotate 10 20 B (after_annotate 10 20 A fresh_view)) ≡ shown.Shows (Flag false)
unfolding position_refusal winner after_annotate fresh_view insert_mark stands numbers
both_on = refl

abbrev noted : View
noted = after_annotate 10 20 A fresh_view

after_it : range_contains_key 20 30 1 noted ≡ told.No
unfolding yes_no_refusal yes_no any_at has_key after_annotate fresh_view insert_mark
after_it = refl

its_last : range_contains_key 19 20 1 noted ≡ told.Yes
unfolding yes_no_refusal yes_no any_at has_key after_annotate fresh_view insert_mark
its_last = refl

no_range : range_contains_key 5 5 1 noted ≡ told.No
unfolding yes_no_refusal yes_no
no_range = refl
