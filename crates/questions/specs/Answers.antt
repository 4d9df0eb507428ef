-- What each case of an answer says: document 01's number, 0 or a refusal's, and the value beside it. `told_of`, `shown_of` and `asked_of`
-- (Questions) make the cases, and each says again what it was made of (`told_said_lem`, `shown_said_lem`, `asked_said_lem`, proofs/AnswerLaws).
use Rattle.std.specs.Prelude.{Bool, true, false, cond, Option, None, Some}
use Rattle.styles.specs.declared.Mark.{Mark}
use Rattle.styles.specs.declared.Value.{Value}
use Rattle.styles.specs.Values.{is_null}
use Rattle.tank.specs.Answers.{Said}
use Rattle.questions.specs.declared.Asked.{Asked}
use Rattle.questions.specs.declared.Shown.{Shown}
use Rattle.questions.specs.declared.Told.{Told}

-- yes or no; beside a refusal no
abbrev pub told_said : Told → Said Bool
told_said (Told.Refused n) = record { number = n; value = false }
told_said Told.No = record { number = 0; value = false }
told_said Told.Yes = record { number = 0; value = true }

-- the value shown, where there is one; beside a refusal none
abbrev pub shown_said : Shown → Said (Option Value)
shown_said (Shown.Refused n) = record { number = n; value = None }
shown_said Shown.Nothing = record { number = 0; value = None }
shown_said (Shown.Shows w) = record { number = 0; value = Some w }

-- the mark of a rank, where there is one; beside a refusal none
abbrev pub asked_said : Asked → Said (Option Mark)
asked_said (Asked.Refused n) = record { number = n; value = None }
asked_said Asked.Nothing = record { number = 0; value = None }
asked_said (Asked.Found m) = record { number = 0; value = Some m }

-- ---- What is found, as a value that may be missing
-- the value that a winner shows: none without a winner, and none where it is null
abbrev pub value_shown : Option Mark → Option Value
value_shown None = None
value_shown (Some m) = cond (is_null m.value) None (Some m.value)
