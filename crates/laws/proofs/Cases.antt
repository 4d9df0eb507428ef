-- The library's `cond`, which chooses between two cases by a test.
use mathlib.Core.Path.{◌≡◌, refl}
use mathlib.Core.Bool.{Bool, true, false, cond}

-- what holds of each where it is chosen holds of the one that is chosen
pub cond_cases : {A : Type 0} (P : A → Type 0) (b : Bool) {x y : A} → (b ≡ true → P x) → (b ≡ false → P y) → P (cond b x y)
cond_cases P true h g = h refl
cond_cases P false h g = g refl

pub cond_by : {A : Type 0} (P : A → Type 0) (b : Bool) {x y : A} → P x → P y → P (cond b x y)
cond_by P b h g = cond_cases P b (λ _. h) (λ _. g)

-- two that are one
pub cond_same : {A : Type 0} {x : A} (b : Bool) → cond b x x ≡ x
cond_same true = refl
cond_same false = refl

-- a function of two
pub cond_ap : {A B : Type 0} (f : A → B) (c : Bool) (x y : A) → f (cond c x y) ≡ cond c (f x) (f y)
cond_ap f true x y = refl
cond_ap f false x y = refl

-- where the test holds two agree, so they agree under it
pub cond_when : {A : Type 0} (b : Bool) (x y z : A) → (b ≡ true → x ≡ y) → cond b x z ≡ cond b y z
cond_when true x y z h = h refl
cond_when false x y z h = refl
