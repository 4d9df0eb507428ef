-- The numbers of the refusals, as the documents list them: 1 to 18.
use Rattle.std.specs.Prelude.{ℕ, List, [], ◌∷◌, get_or, ◌-◌}
use Rattle.refusal.specs.declared.Refusal.{Refusal}

abbrev pub number_of : Refusal → ℕ
number_of Refusal.NoSuchTank = 1
number_of Refusal.UnfitSettings = 2
number_of Refusal.EmptyRange = 3
number_of Refusal.PastEnd = 4
number_of Refusal.TooLong = 5
number_of Refusal.NotANumber = 6
number_of Refusal.OtherContent = 7
number_of Refusal.NoRoomForMark = 8
number_of Refusal.OverLimit = 9
number_of Refusal.OverPool = 10
number_of Refusal.ShortBuffer = 11
number_of Refusal.BadSettingsText = 12
number_of Refusal.BadText = 13
number_of Refusal.OddFlags = 14
number_of Refusal.UnfitPlan = 15
number_of Refusal.PlantsWork = 16
number_of Refusal.OverShare = 17
number_of Refusal.RetiredType = 18

-- all of them, in the order of their numbers
abbrev pub refusals : List Refusal
refusals =
    Refusal.NoSuchTank
    ∷ Refusal.UnfitSettings
    ∷ Refusal.EmptyRange
    ∷ Refusal.PastEnd
    ∷ Refusal.TooLong
    ∷ Refusal.NotANumber
    ∷ Refusal.OtherContent
    ∷ Refusal.NoRoomForMark
    ∷ Refusal.OverLimit
    ∷ Refusal.OverPool
    ∷ Refusal.ShortBuffer
    ∷ Refusal.BadSettingsText
    ∷ Refusal.BadText
    ∷ Refusal.OddFlags
    ∷ Refusal.UnfitPlan
    ∷ Refusal.PlantsWork
    ∷ Refusal.OverShare
    ∷ Refusal.RetiredType
    ∷ []

-- the refusal with a number from 1 to 18 (`number_back`, proofs/NumberLaws); no other number is asked for, and the first stands for it
abbrev pub refusal_of : ℕ → Refusal
refusal_of n = get_or refusals (n - 1) Refusal.NoSuchTank
