-- Document 01's cases 2 and 5 at small scale: a tank of 10 positions, A on 2 .. 5, and then C on 4 .. 7 as well. By computing alone.
use mathlib.Core.Path.{◌≡◌, refl}
use lib.IntN.{pos}
use mathlib.Core.Bool.{false}
use mathlib.Core.List.{[], ◌∷◌}
use Rattle.styles.specs.declared.Mark.{Mark}
use Rattle.styles.specs.declared.Party.TheVariants.{Plant}
use Rattle.styles.specs.declared.Value.TheVariants.{Null}
use Rattle.styles.specs.Marks.{insert_mark, member, only, same_marks}
use Rattle.styles.specs.Order.{stands, numbers}
use Rattle.runs.specs.Positions.{extended, stretches_at, as_numbers}
use Rattle.richtext.specs.declared.AnchorType.TheVariants.{Start, End}
use Rattle.tank.specs.Rules.{View, after_annotate}
use Rattle.lists.specs.Lists.{list_over, range_list, whole_list, range_refusal, range_needed}
use Rattle.lists.specs.Anchors.{marks_before, marks_behind, anchor_of, anchors_of, boundary, boundaries, anchors}

abbrev A : Mark
A = record { key = 1; flags = 128; party = Plant; lamport = 5; cnt = pos 0; peer = 1; value = Null }

abbrev C : Mark
C = record { key = 2; flags = 128; party = Plant; lamport = 3; cnt = pos 0; peer = 1; value = Null }

abbrev bare : View
bare = record { length = 10; touched = false; at = λ p. [] }

abbrev case_2 : View
case_2 = after_annotate 2 5 A bare

abbrev case_5 : View
case_5 = after_annotate 4 7 C case_2

-- ---- stretches
whole_5 : whole_list case_5 ≡ 2 ∷ 4 ∷ 1 ∷ 4 ∷ 5 ∷ 2 ∷ 5 ∷ 7 ∷ 1 ∷ []
unfolding list_over as_numbers stretches_at extended after_annotate same_marks insert_mark stands numbers
whole_5 = refl

-- clipped, unmarked ones included
range_5 : range_list 1 5 case_5 ≡ 1 ∷ 2 ∷ 0 ∷ 2 ∷ 4 ∷ 1 ∷ 4 ∷ 5 ∷ 2 ∷ []
unfolding list_over as_numbers stretches_at extended after_annotate same_marks insert_mark stands numbers
range_5 = refl

inside_5 : range_list 3 4 case_5 ≡ 3 ∷ 4 ∷ 1 ∷ []
unfolding list_over as_numbers stretches_at extended after_annotate same_marks insert_mark stands numbers
inside_5 = refl

untouched : range_list 3 9 bare ≡ 3 ∷ 9 ∷ 0 ∷ []
unfolding list_over as_numbers stretches_at extended same_marks
untouched = refl

-- an empty range past the length lists nothing and is not refused; one that is not empty gives 4
empty : range_needed 50 40 case_5 ≡ record { number = 0; count = 0 }
unfolding range_refusal list_over as_numbers stretches_at
empty = refl

over : range_needed 5 11 case_5 ≡ record { number = 4; count = 0 }
unfolding range_refusal after_annotate
over = refl

needed : range_needed 1 5 case_5 ≡ record { number = 0; count = 9 }
unfolding range_refusal list_over as_numbers stretches_at extended after_annotate same_marks insert_mark stands numbers
needed = refl

-- ---- anchors
anchors_2 : anchors case_2 ≡ anchor_of 2 Start A ∷ anchor_of 4 End A ∷ []
unfolding anchors boundaries boundary marks_before marks_behind anchors_of after_annotate insert_mark member only stands numbers
anchors_2 = refl

anchors_5 : anchors case_5 ≡ anchor_of 2 Start A ∷ anchor_of 4 Start C ∷ anchor_of 4 End A ∷ anchor_of 6 End C ∷ []
unfolding anchors boundaries boundary marks_before marks_behind anchors_of after_annotate insert_mark member only stands numbers
anchors_5 = refl

-- one boundary: the end of A before the start of C; a mark on the last position ends there
anchors_edge : anchors (after_annotate 5 10 C case_2) ≡ anchor_of 2 Start A ∷ anchor_of 4 End A ∷ anchor_of 5 Start C ∷ anchor_of 9 End C ∷ []
unfolding anchors boundaries boundary marks_before marks_behind anchors_of after_annotate insert_mark member only stands numbers
anchors_edge = refl
