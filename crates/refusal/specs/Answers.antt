-- An answer by a number, 0 or a refusal's, and the value beside 0; and what an answer says in the documents' terms: a number and a value.
use Rattle.std.specs.Prelude.{ℕ, zero, suc, Result}
use Rattle.refusal.specs.Numbers.{number_of, refusal_of}
use Rattle.refusal.specs.declared.Refusal.{Refusal}

-- the value; refused: the refusal with this number, and no value
abbrev pub answer_of : {A : Type 0} → ℕ → A → Result A Refusal
answer_of zero value = Result.Ok value
answer_of (suc n) value = Result.Err (refusal_of (suc n))

-- a number and a value
pub record Said (A : Type 0) : Type 0 where
  pub number : ℕ
  pub value : A

-- what a call says that gives this number: the value beside 0, and beside a refusal the one that stands there in its place
abbrev pub saying : {A : Type 0} → ℕ → A → A → Said A
saying zero given refused = record { number = 0; value = given }
saying (suc n) given refused = record { number = suc n; value = refused }

-- what each case of an answer says; beside a refusal the value that stands for none
abbrev pub said : {A : Type 0} → A → Result A Refusal → Said A
said none (Result.Ok value) = record { number = 0; value = value }
said none (Result.Err r) = record { number = number_of r; value = none }

-- a call's number: 0 where it is accepted
abbrev pub number_in : {A : Type 0} → Result A Refusal → ℕ
number_in (Result.Ok value) = 0
number_in (Result.Err r) = number_of r

-- what it gives, and what stands for that beside a refusal
abbrev pub given_or : {A : Type 0} → A → Result A Refusal → A
given_or none (Result.Ok value) = value
given_or none (Result.Err r) = none
