-- The definitions on a tank of ten positions in the stretches 0 .. 3, 3 .. 5 and 5 .. 10.
use Prim.Native.Nat.{ℕ}
use mathlib.Core.Path.{◌≡◌, refl}
use mathlib.Core.Bool.{Bool, true, false, cond}
use mathlib.Core.List.{List, [], ◌∷◌}
use Rattle.std.proofs.Common.{Some, None}
use lib.Dec.{ltb}
use lib.IntN.{pos}
use lib.ListN.{replicate}
use Rattle.styles.specs.declared.Mark.{Mark}
use Rattle.styles.specs.declared.Party.TheVariants.{Plant}
use Rattle.styles.specs.declared.Value.TheVariants.{Null}
use Rattle.styles.specs.Order.{stands, numbers}
use Rattle.styles.specs.Marks.{same_marks, has_key}
use Rattle.runs.specs.Positions.{sum_below, starts, part_of, any_at, seek_from}
use Rattle.tank.specs.Rules.{View, after_delete, runs_held}
use Rattle.tanks.specs.House.{smallest}
use Rattle.night.specs.Ageing.{overlapping, age_refusal, aged_part, aged_count, aged_left, Ageing, ageing, aged_times, rounded_up}
use Rattle.night.specs.Ageings.{age_number}
use Rattle.night.specs.Plans.{range, in_order, free_of, no_ranges, may_go, after_plan, accepts_plan}
use Rattle.night.specs.Proposing.{unheld_at, ranges_from, unheld_below, proposed, begins, range_count}

abbrev mark : ℕ → Mark
mark key = record { key = key; flags = 0x84; party = Plant; lamport = 5; cnt = pos 0; peer = 1; value = Null }

abbrev marks_at : ℕ → List Mark
marks_at p = cond (ltb p 3) (mark 1 ∷ []) (cond (ltb p 5) (mark 2 ∷ []) [])

-- the tank, touched or not
abbrev tank : Bool → View
tank touched = record { length = 10; touched = touched; at = marks_at }

-- three stretches overlap 0 .. 7, the last of them clipped; a stretch that begins at 5 does not overlap 0 .. 5
overlaps : (overlapping 7 (tank true) ≡ 3) × (overlapping 5 (tank true) ≡ 2) × (overlapping 1 (tank true) ≡ 1) × (overlapping 0 (tank true) ≡ 0)
unfolding sum_below starts same_marks stands numbers
overlaps = (refl, refl, refl, refl)

-- with `before` 7, a budget of 1, 2, 3 and 9 takes this many positions
parts : (aged_part 7 1 (tank true) ≡ 3) × (aged_part 7 2 (tank true) ≡ 5) × (aged_part 7 3 (tank true) ≡ 7) × (aged_part 7 9 (tank true) ≡ 7)
unfolding aged_part part_of sum_below starts same_marks stands numbers
parts = (refl, refl, refl, refl)

-- reports this many stretches
counts : (aged_count 7 1 (tank true) ≡ 1) × (aged_count 7 2 (tank true) ≡ 2) × (aged_count 7 3 (tank true) ≡ 3) × (aged_count 7 9 (tank true) ≡ 3)
unfolding aged_part part_of sum_below starts same_marks stands numbers
counts = (refl, refl, refl, refl)

-- and leaves this much of it
lefts : (aged_left 7 1 (tank true) ≡ 4) × (aged_left 7 2 (tank true) ≡ 2) × (aged_left 7 3 (tank true) ≡ 0) × (aged_left 7 9 (tank true) ≡ 0)
unfolding aged_left aged_part part_of sum_below starts same_marks stands numbers
lefts = (refl, refl, refl, refl)

-- an untouched tank is done at once: nothing dropped and nothing left, whatever `before`
untouched : (aged_count 7 2 (tank false) ≡ 0) × (aged_left 7 2 (tank false) ≡ 0)
unfolding aged_left aged_part sum_below
untouched = (refl, refl)

-- so is a `before` of 0
nothing : (aged_count 0 2 (tank true) ≡ 0) × (aged_left 0 2 (tank true) ≡ 0)
unfolding aged_left aged_part part_of sum_below
nothing = (refl, refl)

-- 3 before 4, 4 of an untouched tank too, and both where there would be nothing to do
refusals : (age_refusal 11 0 (tank true) ≡ 3) × (age_refusal 0 0 (tank false) ≡ 3) × (age_refusal 11 1 (tank false) ≡ 4) × (age_refusal 10 1 (tank true) ≡ 0)
unfolding age_refusal
refusals = (refl, refl, refl, refl)

-- 1 before 3
no_tank_lem : age_number (record { settings = replicate 8 smallest; tanks = replicate 8 (tank true) }) 8 11 0 ≡ 1
unfolding age_number
no_tank_lem = refl

-- three stretches with a budget of 2: over after two calls and not after one, with three reported
abbrev calls : ℕ → Ageing
calls k = aged_times 2 k (ageing (tank true) 7 0)

two_calls : ((calls 1).before ≡ 2) × ((calls 2).before ≡ 0) × ((calls 2).dropped ≡ 3) × ((calls 2).tank.length ≡ 3) × (rounded_up 3 2 ≡ 2)
unfolding aged_times aged_left aged_part after_delete part_of sum_below starts same_marks stands numbers
two_calls = (refl, refl, refl, refl, refl)

-- ---- plans: key 2 holds 3 .. 5 of the ten positions
-- touching ranges are in order; an empty one, overlapping ones and one past the length are not
orders : (in_order 0 10 (range 0 2 ∷ range 2 5 ∷ []) ≡ true) × (in_order 0 10 (range 2 2 ∷ []) ≡ false) × (in_order 0 10 (range 0 3 ∷ range 2 5 ∷ []) ≡ false)
    × (in_order 0 10 (range 5 11 ∷ []) ≡ false) × (in_order 0 10 (range 5 10 ∷ []) ≡ true) × (in_order 0 10 [] ≡ true)
unfolding in_order
orders = (refl, refl, refl, refl, refl, refl)

-- a null holds; the ranges around what is held may go, and of an untouched tank none
holds : (may_go 2 (range 0 3 ∷ range 5 10 ∷ []) (tank true) ≡ true) × (may_go 2 (range 4 6 ∷ []) (tank true) ≡ false) × (may_go 3 (range 4 6 ∷ []) (tank true) ≡ true)
    × (may_go 2 (range 0 3 ∷ []) (tank false) ≡ false) × (may_go 2 [] (tank false) ≡ true)
unfolding may_go in_order free_of no_ranges any_at has_key
holds = (refl, refl, refl, refl, refl)

-- both numbered before the first deletion: 2 and 4 are left, and the tank after it holds the two stretches they were in
leaves : ((after_plan (range 0 2 ∷ range 3 4 ∷ range 5 10 ∷ []) (tank true)).length ≡ 2) × (runs_held (after_plan (range 0 2 ∷ range 3 4 ∷ range 5 10 ∷ []) (tank true)) ≡ 2)
unfolding after_plan after_delete sum_below starts same_marks stands numbers
leaves = (refl, refl)

-- accepted for as many runs as are left and not for fewer; the empty plan of an untouched tank for as many as it holds
accepts : (accepts_plan 2 1 (range 0 3 ∷ range 5 10 ∷ []) (tank true) ≡ true) × (accepts_plan 2 0 (range 0 3 ∷ range 5 10 ∷ []) (tank true) ≡ false)
    × (accepts_plan 2 2 [] (tank true) ≡ false) × (accepts_plan 2 3 [] (tank true) ≡ true)
unfolding accepts_plan may_go in_order free_of any_at has_key after_plan after_delete sum_below starts same_marks stands numbers
accepts = (refl, refl, refl, refl)

-- ---- proposals: three stretches, 3 .. 5 held by key 2
-- the unheld ranges of ten positions, and below a few positions: the last is clipped
below : (unheld_below 2 (tank true) 10 ≡ range 0 3 ∷ range 5 10 ∷ []) × (unheld_below 2 (tank true) 7 ≡ range 0 3 ∷ range 5 7 ∷ [])
    × (unheld_below 2 (tank true) 4 ≡ range 0 3 ∷ []) × (unheld_below 2 (tank true) 2 ≡ range 0 2 ∷ []) × (unheld_below 2 (tank true) 0 ≡ [])
    × (range_count (unheld_at 2 (tank true)) 10 ≡ 2)
unfolding ranges_from seek_from has_key sum_below begins
below = (refl, refl, refl, refl, refl, refl)

-- for three runs nothing goes; for two the oldest stretch and no more; for one all that is unheld; for none there is no plan
proposals : (proposed 2 3 (tank true) ≡ Some []) × (proposed 2 2 (tank true) ≡ Some (range 0 3 ∷ [])) × (proposed 2 1 (tank true) ≡ Some (range 0 3 ∷ range 5 10 ∷ []))
    × (proposed 2 0 (tank true) ≡ None)
unfolding proposed ranges_from seek_from accepts_plan may_go in_order free_of any_at has_key after_plan after_delete sum_below starts same_marks stands numbers
proposals = (refl, refl, refl, refl)
