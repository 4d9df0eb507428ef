-- What an answer says in document 01's terms: a number, 0 or a refusal's, and the value beside it. The crates above say it of each case of
-- their answers.
use Rattle.std.specs.Prelude.{ℕ, zero, suc}

-- a number and a value
pub record Said (A : Type 0) : Type 0 where
  pub number : ℕ
  pub value : A

-- what a call says that gives this number: the value beside 0, and beside a refusal the one that stands there in its place
abbrev pub saying : {A : Type 0} → ℕ → A → A → Said A
saying zero given refused = record { number = 0; value = given }
saying (suc n) given refused = record { number = suc n; value = refused }
