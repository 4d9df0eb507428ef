-- A number from 1 to 18 is that of its refusal, and a refusal that of its number; an answer says the number and the value that it was made of.
use mathlib.Core.Path.{◌≡◌, refl, sym, ap, ◌∙◌}
use Prim.Native.Nat.{ℕ, zero, suc, ◌≤◌, ◌<◌}
use native.Mathlib.Omega.{arith}
use Rattle.refusal.specs.Numbers.{number_of, refusal_of}
use Rattle.refusal.specs.Answers.{number_in, given_or, Said, answer_of, said, saying}
use Rattle.std.specs.Prelude.{Result}
use Rattle.refusal.specs.declared.Refusal.{Refusal}

pub number_back : (n : ℕ) → 0 < n → n ≤ 18 → number_of (refusal_of n) ≡ n
number_back zero p h = absurd (omega arith)
number_back (suc zero) p h = refl
number_back (suc (suc zero)) p h = refl
number_back (suc (suc (suc zero))) p h = refl
number_back (suc (suc (suc (suc zero)))) p h = refl
number_back (suc (suc (suc (suc (suc zero))))) p h = refl
number_back (suc (suc (suc (suc (suc (suc zero)))))) p h = refl
number_back (suc (suc (suc (suc (suc (suc (suc zero))))))) p h = refl
number_back (suc (suc (suc (suc (suc (suc (suc (suc zero)))))))) p h = refl
number_back (suc (suc (suc (suc (suc (suc (suc (suc (suc zero))))))))) p h = refl
number_back (suc (suc (suc (suc (suc (suc (suc (suc (suc (suc zero)))))))))) p h = refl
number_back (suc (suc (suc (suc (suc (suc (suc (suc (suc (suc (suc zero))))))))))) p h = refl
number_back (suc (suc (suc (suc (suc (suc (suc (suc (suc (suc (suc (suc zero)))))))))))) p h = refl
number_back (suc (suc (suc (suc (suc (suc (suc (suc (suc (suc (suc (suc (suc zero))))))))))))) p h = refl
number_back (suc (suc (suc (suc (suc (suc (suc (suc (suc (suc (suc (suc (suc (suc zero)))))))))))))) p h = refl
number_back (suc (suc (suc (suc (suc (suc (suc (suc (suc (suc (suc (suc (suc (suc (suc zero))))))))))))))) p h = refl
number_back (suc (suc (suc (suc (suc (suc (suc (suc (suc (suc (suc (suc (suc (suc (suc (suc zero)))))))))))))))) p h = refl
number_back (suc (suc (suc (suc (suc (suc (suc (suc (suc (suc (suc (suc (suc (suc (suc (suc (suc zero))))))))))))))))) p h = refl
number_back (suc (suc (suc (suc (suc (suc (suc (suc (suc (suc (suc (suc (suc (suc (suc (suc (suc (suc zero)))))))))))))))))) p h = refl
number_back (suc (suc (suc (suc (suc (suc (suc (suc (suc (suc (suc (suc (suc (suc (suc (suc (suc (suc (suc n))))))))))))))))))) p h = absurd (omega arith)

pub refusal_back : (r : Refusal) → refusal_of (number_of r) ≡ r
refusal_back Refusal.NoSuchTank = refl
refusal_back Refusal.UnfitSettings = refl
refusal_back Refusal.EmptyRange = refl
refusal_back Refusal.PastEnd = refl
refusal_back Refusal.TooLong = refl
refusal_back Refusal.NotANumber = refl
refusal_back Refusal.OtherContent = refl
refusal_back Refusal.NoRoomForMark = refl
refusal_back Refusal.OverLimit = refl
refusal_back Refusal.OverPool = refl
refusal_back Refusal.ShortBuffer = refl
refusal_back Refusal.BadSettingsText = refl
refusal_back Refusal.BadText = refl
refusal_back Refusal.OddFlags = refl
refusal_back Refusal.UnfitPlan = refl
refusal_back Refusal.PlantsWork = refl
refusal_back Refusal.OverShare = refl
refusal_back Refusal.RetiredType = refl

-- a refusal's number is not 0
some_number : (r : Refusal) → number_of r ≡ 0 → ⊥
some_number Refusal.NoSuchTank e = omega arith
some_number Refusal.UnfitSettings e = omega arith
some_number Refusal.EmptyRange e = omega arith
some_number Refusal.PastEnd e = omega arith
some_number Refusal.TooLong e = omega arith
some_number Refusal.NotANumber e = omega arith
some_number Refusal.OtherContent e = omega arith
some_number Refusal.NoRoomForMark e = omega arith
some_number Refusal.OverLimit e = omega arith
some_number Refusal.OverPool e = omega arith
some_number Refusal.ShortBuffer e = omega arith
some_number Refusal.BadSettingsText e = omega arith
some_number Refusal.BadText e = omega arith
some_number Refusal.OddFlags e = omega arith
some_number Refusal.UnfitPlan e = omega arith
some_number Refusal.PlantsWork e = omega arith
some_number Refusal.OverShare e = omega arith
some_number Refusal.RetiredType e = omega arith

-- two refusals with one number are one
pub one_number : (q r : Refusal) → number_of q ≡ number_of r → q ≡ r
one_number q r e = sym (refusal_back q) ∙ (ap refusal_of e ∙ refusal_back r)

-- an answer says the number and the value that it was made of
pub said_back : {A : Type 0} (none : A) (n : ℕ) (a : A) → n ≤ 18 → said none (answer_of n a) ≡ saying n a none
said_back none zero a h = refl
said_back none (suc n) a h = let e : number_of (refusal_of (suc n)) ≡ suc n = number_back (suc n) (omega arith) h in λ i. record { number = e i; value = none }

-- two answers that say the same are one
pub one_said : {A : Type 0} (none : A) (a b : Result A Refusal) → said none a ≡ said none b → a ≡ b
one_said none (Result.Ok x) (Result.Ok y) e = let v = ap (λ (s : Said _). s.value) e in cc
one_said none (Result.Ok x) (Result.Err r) e = absurd (some_number r (sym (ap (λ (s : Said _). s.number) e)))
one_said none (Result.Err q) (Result.Ok y) e = absurd (some_number q (ap (λ (s : Said _). s.number) e))
one_said none (Result.Err q) (Result.Err r) e = ap Result.Err (one_number q r (ap (λ (s : Said _). s.number) e))

pub positive : (r : Refusal) → 0 < number_of r
positive r = let e = some_number r in omega (arith, e)

-- two answers with one number that give the same are one
pub one_answer : {A : Type 0} (none : A) (q r : Result A Refusal) → number_in q ≡ number_in r → given_or none q ≡ given_or none r → q ≡ r
one_answer none (Result.Ok x) (Result.Ok y) e g = ap Result.Ok g
one_answer none (Result.Ok x) (Result.Err r) e g = absurd (omega (arith, positive r))
one_answer none (Result.Err q) (Result.Ok y) e g = absurd (omega (arith, positive q))
one_answer none (Result.Err q) (Result.Err r) e g = ap Result.Err (one_number q r e)
