-- Reading on: where what was read on is good, each part was; and where it went wrong.
use Rattle.std.specs.Prelude.{Option, Some, None}
use mathlib.Core.Path.{◌≡◌, refl, sym, ap, ◌∙◌}
use mathlib.Core.Bool.{Bool, true, false, cond}
use mathlib.Core.List.{List, [], ◌∷◌, ◌++◌}
use Prim.Native.Nat.{ℕ, ◌+◌, ◌≤◌}
use native.Mathlib.Omega.{arith}
use Rattle.text.specs.Bytes.{holds, up_to}
use Rattle.text_lines.specs.Lines.{Got, bad, got, then, provided, ended, line, behind, named, said, decimal_from, number_line, number_text}
use Rattle.text_lines.proofs.Laws.{number_only}

-- what was read on
pub record Followed {A B : Type 0} (g : Got A) (more : A → ℕ → List ℕ → Got B) (b : B) (m : ℕ) (rest : List ℕ) : Type 0 where
  pub value : A
  pub lines : ℕ
  pub text : List ℕ
  pub first : g ≡ got value lines text
  pub second : more value lines text ≡ got b m rest

pub then_got : {A B : Type 0} (g : Got A) (more : A → ℕ → List ℕ → Got B) (b : B) (m : ℕ) (rest : List ℕ) → then g more ≡ got b m rest → Followed g more b m rest
then_got (bad n) more b m rest e = let z : ◌≡◌ {A = ℕ} 0 1 = cc in absurd (omega arith)
then_got (got a n t) more b m rest e = record { value = a; lines = n; text = t; first = refl; second = e }

-- two that are one
pub got_inj : {A : Type 0} (a b : A) (n m : ℕ) (t u : List ℕ) → got a n t ≡ got b m u → (a ≡ b) × (n ≡ m) × (t ≡ u)
got_inj a b n m t u e = (cc, cc, cc)

-- a number's line, read on
pub record NumberThen {B : Type 0} (name : List ℕ) (least most n : ℕ) (t : List ℕ) (more : ℕ → ℕ → List ℕ → Got B) (b : B) (m : ℕ) (rest : List ℕ) : Type 0 where
  pub value : ℕ
  pub text : List ℕ
  pub is : t ≡ number_text name value ++ text
  pub low : least ≤ value
  pub high : value ≤ most
  pub second : more value (n + 1) text ≡ got b m rest

pub number_then : {B : Type 0} (name : List ℕ) (least most n : ℕ) (t : List ℕ) (more : ℕ → ℕ → List ℕ → Got B) (b : B) (m : ℕ) (rest : List ℕ) → then (number_line name least most n t) more ≡ got b m rest
    → NumberThen name least most n t more b m rest
number_then name least most n t more b m rest e =
    let a = then_got (number_line name least most n t) more b m rest e in
    let x = number_only name least most n t a.value a.lines a.text a.first in
    record { value = a.value; text = a.text; is = x.is; low = x.low; high = x.high; second = ap (λ (k : ℕ). more a.value k a.text) (sym x.lines) ∙ a.second }

-- a test that was passed
pub provided_got : {A : Type 0} (b : Bool) (a : A) (n : ℕ) (t : List ℕ) (a' : A) (m : ℕ) (rest : List ℕ) → provided b a n t ≡ got a' m rest → (b ≡ true) × (a ≡ a') × (n ≡ m) × (t ≡ rest)
provided_got true a n t a' m rest e = (refl, cc, cc, cc)
provided_got false a n t a' m rest e = let z : ◌≡◌ {A = ℕ} 0 1 = cc in absurd (omega arith)

pub ended_got : {A : Type 0} (a : A) (n : ℕ) (t : List ℕ) (a' : A) (m : ℕ) (rest : List ℕ) → ended a n t ≡ got a' m rest → (a ≡ a') × (t ≡ [])
ended_got a n [] a' m rest e = (cc, refl)
ended_got a n (c ∷ t) a' m rest e = let z : ◌≡◌ {A = ℕ} 0 1 = cc in absurd (omega arith)

-- ---- where it went wrong
pub number_bad : (name : List ℕ) (least most n : ℕ) (t : List ℕ) (m : ℕ) → number_line name least most n t ≡ bad m → m ≡ n + 1
unfolding line
number_bad name least most n t m e = by (holds 10 t) (named name (decimal_from least most) (up_to 10 t)) e where
  by : (b : Bool) (o : Option ℕ) → cond b (said n (behind t) o) (bad (n + 1)) ≡ bad m → m ≡ n + 1
  by true None f = cc
  by true (Some v) f = let z : ◌≡◌ {A = ℕ} 0 1 = cc in absurd (omega arith)
  by false o f = cc

-- where reading on went wrong
pub data Stopped {A B : Type 0} (g : Got A) (more : A → ℕ → List ℕ → Got B) (m : ℕ) : Type 0 where
  at_first : g ≡ bad m → Stopped g more m
  later : (a : A) (n : ℕ) (t : List ℕ) → g ≡ got a n t → more a n t ≡ bad m → Stopped g more m

pub then_bad : {A B : Type 0} (g : Got A) (more : A → ℕ → List ℕ → Got B) (m : ℕ) → then g more ≡ bad m → Stopped g more m
then_bad (bad n) more m e = let k : n ≡ m = cc in at_first (ap bad k)
then_bad (got a n t) more m e = later a n t refl e
