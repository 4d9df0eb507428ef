-- The rules on tanks of a few positions, by computing.
use Prim.Native.Nat.{ℕ, zero, suc}
use lib.IntN.{pos}
use mathlib.Core.Path.{◌≡◌, refl}
use mathlib.Core.Bool.{true, cond}
use mathlib.Core.List.{List, [], ◌∷◌, ◌++◌}
use lib.Dec.{eqb}
use lib.Ieee.{nan, is_nan}
use Rattle.styles.specs.declared.Party.TheVariants.{Plant, Lab}
use Rattle.styles.specs.declared.Mark.{Mark}
use Rattle.styles.specs.declared.Value.{Value}
use Rattle.styles.specs.declared.Value.TheVariants.{Null, Decimal}
use Rattle.styles.specs.Order.{id_of, stands, numbers}
use Rattle.styles.specs.Marks.{insert_mark, either_of, member, only, same_content, same_marks}
use Rattle.runs.specs.Positions.{within, sum_below, any_at, starts, stretch_to}
use Rattle.tank.specs.Rules.{View, fresh_view, after_annotate, inherited, after_insert, for_insert, after_delete, back_from, stripped, after_remove, runs_held, gathered, carried, annotating, inserting, deleting, removing, barred, empty, over, long, made_flag, retired_flag, mark_number, own_number, clash, clashes, needs, crowded, full, refusal}

abbrev mark : ℕ → ℕ → ℕ → ℕ → Value → Mark
mark key lamport peer flags value = record { key = key; flags = flags; party = Plant; lamport = lamport; cnt = pos 0; peer = peer; value = value }

abbrev A : Mark
A = mark 1 5 1 0x84 Null

abbrev C : Mark
C = mark 2 3 1 0x84 Null

-- four positions, A on 1 .. 3
abbrev v : View
v = record { length = 4; touched = true; at = λ p. cond (within 1 3 p) (A ∷ []) [] }

-- ---- what edits leave
-- C on 2 .. 4
annotated : ((after_annotate 2 4 C v).at 1 ≡ A ∷ []) × ((after_annotate 2 4 C v).at 2 ≡ A ∷ C ∷ []) × ((after_annotate 2 4 C v).at 3 ≡ C ∷ [])
unfolding after_annotate insert_mark stands numbers
annotated = (refl, refl, refl)

-- between two that carry A, and at the edge of those
inherits : (inherited 2 v ≡ A ∷ []) × (inherited 1 v ≡ []) × (inherited 0 v ≡ []) × (inherited 4 v ≡ [])
unfolding inherited only member stands numbers
inherits = (refl, refl, refl, refl)

inserted : ((after_insert 2 3 v).length ≡ 7) × ((after_insert 2 3 v).at 4 ≡ A ∷ []) × ((after_insert 2 3 v).at 5 ≡ A ∷ []) × ((after_insert 2 3 v).at 6 ≡ [])
unfolding after_insert inherited only member stands numbers
inserted = (refl, refl, refl, refl)

-- an untouched tank stays as it is
untouched : (after_insert 5 3 fresh_view ≡ fresh_view) × (for_insert 5 fresh_view ≡ []) × (after_delete 5 8 fresh_view ≡ fresh_view)
unfolding after_insert for_insert after_delete fresh_view
untouched = (refl, refl, refl)

deleted : ((after_delete 0 2 v).length ≡ 2) × ((after_delete 0 2 v).at 0 ≡ A ∷ []) × ((after_delete 0 2 v).at 1 ≡ [])
unfolding after_delete
deleted = (refl, refl, refl)

-- from the last that carries it, from the first, and from one that does not
from : (back_from (id_of A) 2 v ≡ 1) × (back_from (id_of A) 1 v ≡ 1) × (back_from (id_of A) 3 v ≡ 4)
unfolding back_from stretch_to member stands numbers
from = (refl, refl, refl)

-- positions after last keep it
removed : ((after_remove (id_of A) 1 v).at 1 ≡ []) × ((after_remove (id_of A) 1 v).at 2 ≡ A ∷ [])
unfolding after_remove stripped back_from stretch_to only member stands numbers
removed = (refl, refl)

-- ---- counts
three_runs : runs_held v ≡ 3
unfolding sum_below starts same_marks stands numbers
three_runs = refl

one_mark : carried v ≡ A ∷ []
unfolding gathered either_of insert_mark stands numbers
one_mark = refl

-- ---- refusals
three : (refusal (annotating 2 2 C) v ≡ 3) × (refusal (inserting Plant 9 0) v ≡ 3) × (refusal (deleting Plant 3 1) v ≡ 3)
unfolding refusal barred empty
three = (refl, refl, refl)

four : (refusal (annotating 2 5 C) v ≡ 4) × (refusal (inserting Plant 5 1) v ≡ 4) × (refusal (deleting Plant 1 5) v ≡ 4) × (refusal (removing (id_of A) 4) v ≡ 4)
unfolding refusal barred empty over
four = (refl, refl, refl, refl)

-- the largest length is reached, and not passed
five : (refusal (inserting Plant 2 9223372036854775804) v ≡ 5) × (refusal (inserting Plant 2 9223372036854775803) v ≡ 0)
unfolding refusal barred empty over long own_number mark_number made_flag retired_flag clashes full
five = (refl, refl)

six : refusal (annotating 0 1 (mark 1 5 1 0x84 (Decimal nan))) v ≡ 6
unfolding refusal barred empty over long own_number mark_number made_flag retired_flag is_nan
six = refl

-- an odd flag byte, and the retired one, also under an identity that is carried, and with that very byte; a NaN goes first
fourteen : (refusal (annotating 0 1 (mark 1 5 1 0x41 Null)) v ≡ 14) × (refusal (annotating 0 1 (mark 1 5 1 0x04 Null)) v ≡ 14) × (refusal (annotating 0 1 (mark 1 5 1 0x41 (Decimal nan))) v ≡ 6)
unfolding refusal barred empty over long own_number mark_number made_flag retired_flag is_nan
fourteen = (refl, refl, refl)

eighteen : (refusal (annotating 0 1 (mark 1 5 1 0x82 Null)) v ≡ 18) × (refusal (annotating 1 0 (mark 1 5 1 0x82 Null)) v ≡ 3)
unfolding refusal barred empty over long own_number mark_number made_flag retired_flag
eighteen = (refl, refl)

-- the lab may neither insert nor delete, whatever else is wrong; it may annotate and remove
sixteen : (refusal (inserting Lab 9 0) v ≡ 16) × (refusal (deleting Lab 3 1) v ≡ 16) × (refusal (removing (record { party = Lab; key = 1; lamport = 5; peer = 1 }) 3) v ≡ 0)
unfolding refusal barred empty over long own_number clashes full
sixteen = (refl, refl, refl)

-- another flag byte; the same mark again is accepted
seven : (refusal (annotating 0 1 (mark 1 5 1 0x86 Null)) v ≡ 7) × (refusal (annotating 0 1 A) v ≡ 0)
unfolding refusal barred empty over long own_number mark_number made_flag retired_flag clashes clash any_at full gathered either_of insert_mark member same_content stands numbers
seven = (refl, refl)

-- every position is looked at: A is refused where another position has its identity with another flag byte
abbrev split : View
split = record { length = 2; touched = true; at = λ p. cond (eqb p 0) A (mark 1 5 1 0x82 Null) ∷ [] }

seven_anywhere : (refusal (annotating 0 1 A) split ≡ 7) × (refusal (annotating 0 1 (mark 1 5 1 0x86 Null)) split ≡ 7)
unfolding refusal barred empty over long own_number mark_number made_flag retired_flag clashes clash any_at same_content stands numbers
seven_anywhere = (refl, refl)

-- marks of the keys 0 .. n - 1
unfoldable up_to : ℕ → List Mark
up_to zero = []
up_to (suc n) = up_to n ++ mark n 0 0 0x84 Null ∷ []

-- 64 marks at one position: no room for another, and one of them again is accepted
abbrev packed : View
unfolding up_to
packed = record { length = 1; touched = true; at = λ p. up_to 64 }

eight : (refusal (annotating 0 1 (mark 64 0 0 0x84 Null)) packed ≡ 8) × (refusal (annotating 0 1 (mark 63 0 0 0x84 Null)) packed ≡ 0)
unfolding up_to refusal barred empty over long own_number mark_number made_flag retired_flag clashes clash any_at full crowded needs only gathered either_of insert_mark member same_content stands numbers
eight = (refl, refl)
