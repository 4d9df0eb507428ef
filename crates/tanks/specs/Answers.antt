-- What each case of an answer says: document 01's number, 0 or a refusal's, and the value beside it. `counts` and `says` (Contracts) make the
-- cases, and each says again what it was made of (`counts_said`, `says_said`, proofs/AskLaws).
use Rattle.std.specs.Prelude.{ℕ, Bool, false}
use Rattle.tank.specs.Answers.{Said}
use Rattle.tanks.specs.declared.Count.{Count}
use Rattle.tanks.specs.declared.YesNo.{YesNo}

-- a count; beside a refusal 0
abbrev pub count_said : Count → Said ℕ
count_said (Count.Refused n) = record { number = n; value = 0 }
count_said (Count.Counts k) = record { number = 0; value = k }

-- yes or no; beside a refusal no
abbrev pub yes_no_said : YesNo → Said Bool
yes_no_said (YesNo.Refused n) = record { number = n; value = false }
yes_no_said (YesNo.Says b) = record { number = 0; value = b }
