-- Laws of answers: how a question's answer is read off, and that no two answers say the same. Assumes nothing.
use mathlib.Core.Path.{◌≡◌, refl, sym, ap, ◌∙◌}
use mathlib.Core.List.{List}
use native.Mathlib.Omega.{arith}
use Rattle.std.specs.Prelude.{Option, Result, option_map}
use Prim.Native.Nat.{ℕ, ◌≤◌, ◌<◌}
use lib.ListN.{length}
use borrow.Author.Tests.{lt-ltb, le-ltb}
use Rattle.laws.proofs.Cases.{cond_ap}
use Rattle.config.specs.Names.{too_long}
use Rattle.config.specs.Answers.{Said, asked, call_number, refusal_number, said}
use Rattle.config.specs.declared.ConfigRefusal.{ConfigRefusal}

module _ {A : Type 0} (k : List ℕ) (f : Option A) where
  -- a long name is refused
  pub asked_long : 32 < length k → record { refusal = 19; value = Option.None } ≡ asked k f
  asked_long h = rw (lt-ltb 32 (length k) h)

  -- any other is answered with what is found
  pub asked_found : length k ≤ 32 → (o : Option A) → o ≡ f → record { refusal = 0; value = o } ≡ asked k f
  asked_found h o e = rw (le-ltb 32 (length k) h) (λ i. record { refusal = 0; value = e i })

-- what is asked of a style is asked of what is made of it
pub asked_map : {A B : Type 0} (g : A → B) (k : List ℕ) (f : Option A) (a : Said A) → a ≡ asked k f
    → record { refusal = a.refusal; value = option_map g a.value } ≡ asked k (option_map g f)
asked_map {A = A} g k f a e =
    λ i. record { refusal = (e i).refusal; value = (ap (λ (x : Said A). option_map g x.value) e ∙ cond_ap (option_map g) (too_long k) Option.None f) i }

-- Two answers that say the same are one

numbered : {A : Type 0} {a b : Said A} → a ≡ b → a.refusal ≡ b.refusal
numbered {A = A} e = ap (λ (x : Said A). x.refusal) e

valued : {A : Type 0} {a b : Said A} → a ≡ b → a.value ≡ b.value
valued {A = A} e = ap (λ (x : Said A). x.value) e

one_number : (a b : ConfigRefusal) → refusal_number a ≡ refusal_number b → a ≡ b
one_number ConfigRefusal.RetiredType ConfigRefusal.RetiredType e = refl
one_number ConfigRefusal.RetiredType ConfigRefusal.UnfitName e = absurd (omega arith)
one_number ConfigRefusal.UnfitName ConfigRefusal.RetiredType e = absurd (omega arith)
one_number ConfigRefusal.UnfitName ConfigRefusal.UnfitName e = refl

no_zero : (a : ConfigRefusal) → refusal_number a ≡ 0 → ⊥
no_zero ConfigRefusal.RetiredType e = omega arith
no_zero ConfigRefusal.UnfitName e = omega arith

pub one_said : {A : Type 0} (a b : Result (Option A) ConfigRefusal) → said a ≡ said b → a ≡ b
one_said (Result.Ok x) (Result.Ok y) e = let v = valued e in cc
one_said (Result.Ok x) (Result.Err r) e = absurd (no_zero r (sym (numbered e)))
one_said (Result.Err q) (Result.Ok y) e = absurd (no_zero q (numbered e))
one_said (Result.Err q) (Result.Err r) e = ap Result.Err (one_number q r (numbered e))

-- one number is one answer of a call that hands back nothing else
pub one_call : (a b : Result (Unit {0}) ConfigRefusal) → call_number a ≡ call_number b → a ≡ b
one_call (Result.Ok x) (Result.Ok y) e = refl
one_call (Result.Ok x) (Result.Err r) e = absurd (no_zero r (sym e))
one_call (Result.Err q) (Result.Ok y) e = absurd (no_zero q e)
one_call (Result.Err q) (Result.Err r) e = ap Result.Err (one_number q r e)
