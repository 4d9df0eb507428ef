-- Questions of a whole tank: 1 where there is no such tank, else what its head says, which is what it means.
use Prim.Native.Nat.{ℕ, zero, suc, ◌≤◌, ◌<◌}
use mathlib.Core.Path.{◌≡◌, refl, sym, ap, ◌∙◌}
use mathlib.Core.Bool.{Bool, false}
use native.Mathlib.Omega.{arith}
use lib.ListN.{get_or}
use borrow.Author.Tests.{le-leb, lt-leb}
use Rattle.tank.specs.Rules.{View}
use Rattle.tank.specs.Answers.{Said, saying}
use Rattle.tank.specs.State.{view}
use Rattle.tank.proofs.Calls.{when_refused}
use Rattle.tanks.specs.declared.Count.{Count}
use Rattle.tanks.specs.declared.Tanks.{Tanks}
use Rattle.tanks.specs.declared.YesNo.{YesNo}
use Rattle.tanks.specs.House.{tank_at, held, ask_number}
use Rattle.tanks.specs.Pool.{no_head, tank_in, tank_of, meaning, Sound}
use Rattle.tanks.specs.Promises.{refused_or_given, counts, says}
use Rattle.tanks.specs.Answers.{count_said, yes_no_said}
use Rattle.tanks.proofs.MeaningLaws.{tank_at_lem, held_is}

module _ {A R : Type 0} (refused : ℕ → R) (given : A → R) (t : ℕ) where
  pub asked_past : (a : A) → 8 ≤ t → refused 1 ≡ refused_or_given refused given (ask_number t) a
  asked_past a h = rw (le-leb 8 t h)

  pub asked_in : (a b : A) → t < 8 → a ≡ b → given a ≡ refused_or_given refused given (ask_number t) b
  asked_in a b h e = rw (lt-leb 8 t h) (ap given e)

-- ---- the head says what the tank means
module _ (s : Tanks) (t : ℕ) (h : t < 8) where
  pub length_said : (get_or s.heads t no_head).length ≡ (tank_at (meaning s) t).length
  unfolding tank_of tank_in view
  length_said = sym (ap (λ (v : View). v.length) (tank_at_lem s t h))

  pub touched_said : (get_or s.heads t no_head).touched ≡ (tank_at (meaning s) t).touched
  unfolding tank_of tank_in view
  touched_said = sym (ap (λ (v : View). v.touched) (tank_at_lem s t h))

  pub runs_said : Sound s → (get_or s.heads t no_head).runs ≡ held (meaning s) t
  runs_said ok = sym (held_is s ok t h)

-- ---- an answer says the number and the value that it was made of
module _ {A R : Type 0} (refused : ℕ → R) (given : A → R) (said : R → Said A) (beside : A)
    (number-said : (n : ℕ) → said (refused n) ≡ record { number = n; value = beside })
    (value_said_lem : (a : A) → said (given a) ≡ record { number = 0; value = a }) where
  said_back : (n : ℕ) (a : A) → said (refused_or_given refused given n a) ≡ saying n a beside
  said_back zero a = value_said_lem a
  said_back (suc n) a = ap said (when_refused (suc n) (given a) (refused (suc n)) (omega arith)) ∙ number-said (suc n)

pub counts_said : (n k : ℕ) → count_said (counts n k) ≡ saying n k 0
counts_said = said_back Count.Refused Count.Counts count_said 0 (λ n. refl) (λ k. refl)

pub says_said : (n : ℕ) (b : Bool) → yes_no_said (says n b) ≡ saying n b false
says_said = said_back YesNo.Refused YesNo.Says yes_no_said false (λ n. refl) (λ b. refl)
