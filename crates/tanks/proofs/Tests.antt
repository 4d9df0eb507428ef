-- Closed examples of the settings' rule, of the judgement (example 12 of document 01), of edits that are accepted in one order alone, of tanks
-- packed, of stretches by a mask, and of numbers beside answers.
use Prim.Native.Nat.{ℕ}
use mathlib.Core.Path.{◌≡◌, refl}
use mathlib.Core.Bool.{true, false, cond}
use mathlib.Core.List.{[], ◌∷◌, ◌++◌}
use lib.Count.{ones}
use lib.Dec.{ltb}
use lib.IntN.{pos}
use lib.ListN.{replicate, get_or, set}
use Rattle.styles.specs.declared.Mark.{Mark}
use Rattle.styles.specs.declared.Party.TheVariants.{Plant}
use Rattle.styles.specs.declared.Value.TheVariants.{Null}
use Rattle.styles.specs.Order.{stands, numbers}
use Rattle.styles.specs.Marks.{insert_mark, either_of, member, only, same_content, same_marks}
use Rattle.runs.specs.Positions.{sum_below, all_at, any_at, starts, extended, stretches_at, as_numbers}
use Rattle.runs.specs.Runs as laid
use Rattle.tank.specs.Rules.{View, annotating, deleting, made_flag, retired_flag, mark_number, own_number, barred, empty, over, long, clash, clashes, full, gathered, needs, passes_share, refusal, after, after_annotate, after_delete}
use Rattle.tank.specs.Rules as rules
use Rattle.tanks.specs.declared.Setting.{Setting}
use Rattle.tanks.specs.declared.Head.{Head}
use Rattle.tanks.specs.declared.Run.{Run}
use Rattle.tanks.specs.declared.Count.{Count}
use Rattle.tanks.specs.declared.YesNo.{YesNo}
use Rattle.tanks.specs.Settings.{accepted, claims, judgement}
use Rattle.tanks.specs.House.{House, fresh_house, smallest, open_number, opening, ask_number, refusal_at, after_at}
use Rattle.tanks.specs.Pool.{no_run, no_table, own_runs, tank_in}
use Rattle.tanks.specs.Masked.{masked_list}
use Rattle.tanks.specs.Promises.{counts, says}

abbrev pair : ℕ → ℕ → Setting
pair share limit = record { share = share; limit = limit }

-- ---- the settings' rule: 1 <= share <= limit <= 512, and the shares sum to at most 512
shares_40 : accepted (replicate 8 (pair 40 200)) ≡ true
unfolding accepted all_at sum_below
shares_40 = refl

shares_64 : accepted (replicate 8 (pair 64 512)) ≡ true
unfolding accepted all_at sum_below
shares_64 = refl

sum_520 : accepted (replicate 8 (pair 65 512)) ≡ false
unfolding accepted all_at sum_below
sum_520 = refl

share_0 : accepted (set (replicate 8 (pair 40 200)) 7 (pair 0 200)) ≡ false
unfolding accepted all_at sum_below
share_0 = refl

limit_513 : accepted (set (replicate 8 (pair 40 200)) 0 (pair 40 513)) ≡ false
unfolding accepted all_at sum_below
limit_513 = refl

share_over_limit : accepted (set (replicate 8 (pair 40 200)) 3 (pair 40 39)) ≡ false
unfolding accepted all_at sum_below
share_over_limit = refl

-- a number that is wider than 512 is not cut
share_65537 : accepted (set (replicate 8 (pair 40 200)) 5 (pair 65537 65537)) ≡ false
unfolding accepted all_at sum_below
share_65537 = refl

-- ---- opening
opens_0 : open_number (replicate 8 (pair 40 200)) ≡ 0
unfolding open_number accepted all_at sum_below
opens_0 = refl

opens_2 : open_number (replicate 8 (pair 65 512)) ≡ 2
unfolding open_number accepted all_at sum_below
opens_2 = refl

beside_2 : opening (replicate 8 (pair 65 512)) ≡ fresh_house (replicate 8 smallest)
unfolding opening accepted all_at sum_below
beside_2 = refl

-- ---- example 12: shares 40, limits 200
runs : ℕ → ℕ
runs t = get_or (200 ∷ 72 ∷ 40 ∷ 39 ∷ 40 ∷ 40 ∷ 40 ∷ 40 ∷ []) t 0

all_claimed : claims (replicate 8 (pair 40 200)) runs 8 ≡ 512
unfolding runs sum_below
all_claimed = refl

two_to_41 : judgement (replicate 8 (pair 40 200)) runs 2 41 ≡ 10
unfolding runs sum_below judgement
two_to_41 = refl

zero_to_201 : judgement (replicate 8 (pair 40 200)) runs 0 201 ≡ 9
unfolding runs sum_below judgement
zero_to_201 = refl

three_to_40 : judgement (replicate 8 (pair 40 200)) runs 3 40 ≡ 0
unfolding runs sum_below judgement
three_to_40 = refl

-- at the limit is within it; once another tank has given a run back, tank 2 may have it
zero_at_200 : judgement (replicate 8 (pair 40 200)) runs 0 200 ≡ 0
unfolding runs sum_below judgement
zero_at_200 = refl

less : ℕ → ℕ
less t = get_or (200 ∷ 71 ∷ 40 ∷ 39 ∷ 40 ∷ 40 ∷ 40 ∷ 40 ∷ []) t 0

two_to_41_then : judgement (replicate 8 (pair 40 200)) less 2 41 ≡ 0
unfolding less sum_below judgement
two_to_41_then = refl

-- ---- 1 before the tank's own numbers: tank 8 and an empty range; tank 2^32 is no tank 0
no_tank_lem : refusal_at (fresh_house (replicate 8 (pair 40 200))) 8 (deleting Plant 5 5) ≡ 1
unfolding refusal_at
no_tank_lem = refl

no_tank_wide : refusal_at (fresh_house (replicate 8 (pair 40 200))) 4294967296 (deleting Plant 5 5) ≡ 1
unfolding refusal_at
no_tank_wide = refl

-- ---- two edits on two tanks that are accepted in one order and not in the other
abbrev mark : Mark
mark = record { key = 1; flags = 0x84; party = Plant; lamport = 5; cnt = pos 0; peer = 1; value = Null }

-- n positions, of which the first k carry the mark
abbrev marked : ℕ → ℕ → View
marked k n = record { length = n; touched = true; at = λ p. cond (ltb p k) (mark ∷ []) [] }

-- shares of 511 in all, and tank 0 holds the one run that is left
abbrev crowded : House
crowded =
    record {
      settings = replicate 7 (pair 1 512) ++ pair 504 512 ∷ [];
      tanks = marked 2 4 ∷ marked 0 4 ∷ replicate 6 (marked 0 0);
    }

-- tank 0 gives it back, and then tank 1 may have it; asked first, tank 1 is refused by 10
one_order : (refusal_at crowded 0 (deleting Plant 2 4) ≡ 0)
    × (refusal_at (after_at crowded 0 (deleting Plant 2 4)) 1 (annotating 0 2 mark) ≡ 0) × (refusal_at crowded 1 (annotating 0 2 mark) ≡ 10)
unfolding refusal_at after_at refusal barred empty over long own_number mark_number made_flag retired_flag clashes clash any_at full needs rules.crowded passes_share gathered either_of insert_mark member only same_marks same_content after after_delete after_annotate judgement sum_below starts stands numbers
one_order = (refl, refl, refl)

-- ---- packed: two runs of tank 0, then one of tank 1
head : ℕ → Head
head n = record { touched = true; length = 0; runs = n; marks = 0 }

run : ℕ → ℕ → Run
run len marks = record { len = len; set = marks }

own_1 : own_runs (head 2 ∷ head 1 ∷ []) (run 3 0 ∷ run 4 1 ∷ run 5 2 ∷ no_run ∷ []) 1 ≡ run 5 2 ∷ []
unfolding head sum_below
own_1 = refl

sets_0 : (tank_in (head 2 ∷ head 1 ∷ []) (run 3 0 ∷ run 4 1 ∷ run 5 2 ∷ no_run ∷ []) no_table 0).sets ≡ 0 ∷ 1 ∷ replicate 512 0
unfolding head run sum_below tank_in
sets_0 = refl

-- ---- stretches by a mask: three runs of which the first two have the mask's bit, so that they are one stretch; clipped, and the marked ones alone
masked_range : masked_list 0 1 9 1 (head 3 ∷ []) (run 3 1 ∷ run 4 3 ∷ run 5 2 ∷ []) 0 ≡ 1 ∷ 7 ∷ 1 ∷ 7 ∷ 9 ∷ 0 ∷ []
unfolding head run sum_below laid.runs laid.set_at laid.total stretches_at extended as_numbers ones
masked_range = refl

masked_whole : masked_list 1 0 12 1 (head 3 ∷ []) (run 3 1 ∷ run 4 3 ∷ run 5 2 ∷ []) 0 ≡ 0 ∷ 7 ∷ 1 ∷ []
unfolding head run sum_below laid.runs laid.set_at laid.total stretches_at extended as_numbers ones
masked_whole = refl

-- ---- numbers and values of the answers' cases
counts_7 : counts (ask_number 7) 5 ≡ Count.Counts 5
counts_7 = refl

counts_8 : counts (ask_number 8) 5 ≡ Count.Refused 1
counts_8 = refl

says_8 : says (ask_number 8) true ≡ YesNo.Refused 1
says_8 = refl
