-- An answer says the number and the value that it was made of; beside a refusal no, or none.
use Prim.Native.Nat.{ℕ, zero, suc}
use mathlib.Core.Path.{◌≡◌, refl}
use mathlib.Core.Bool.{Bool, true, false, cond}
use Rattle.std.specs.Prelude.{Option, None, Some}
use Rattle.styles.specs.declared.Mark.{Mark}
use Rattle.styles.specs.declared.Value.{Value}
use Rattle.styles.specs.Values.{is_null}
use Rattle.tank.specs.Answers.{saying}
use Rattle.questions.specs.declared.Shown.{Shown}
use Rattle.questions.specs.Questions.{told_of, shown_of, asked_of}
use Rattle.questions.specs.Answers.{told_said, shown_said, asked_said, value_shown}

pub told_said_lem : (n : ℕ) (b : Bool) → told_said (told_of n b) ≡ saying n b false
told_said_lem zero true = refl
told_said_lem zero false = refl
told_said_lem (suc n) b = refl

unless_null : (b : Bool) (w : Value) → shown_said (cond b Shown.Nothing (Shown.Shows w)) ≡ saying 0 (cond b None (Some w)) None
unless_null true w = refl
unless_null false w = refl

pub shown_said_lem : (n : ℕ) (w : Option Mark) → shown_said (shown_of n w) ≡ saying n (value_shown w) None
shown_said_lem zero None = refl
shown_said_lem zero (Some m) = unless_null (is_null m.value) m.value
shown_said_lem (suc n) w = refl

pub asked_said_lem : (n : ℕ) (m : Option Mark) → asked_said (asked_of n m) ≡ saying n m None
asked_said_lem zero None = refl
asked_said_lem zero (Some m) = refl
asked_said_lem (suc n) m = refl
