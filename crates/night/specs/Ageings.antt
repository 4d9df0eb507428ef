-- Document 02, request 14, over eight tanks: one call of ageing, and calls one after another.
use Rattle.std.specs.Prelude.{ℕ, suc, ◌+◌, ◌≡◌, cond}
use Rattle.styles.specs.declared.Party.{Party}
use Rattle.tank.specs.Rules.{is_lab, when_accepted}
use Rattle.tanks.specs.declared.Tanks.{Tanks}
use Rattle.tanks.specs.House.{House, tank_at, no_tank, with_tank}
use Rattle.tanks.specs.Pool.{meaning, Sound}
use Rattle.night.specs.declared.Aged.{Aged}
use Rattle.night.specs.Ageing.{age_refusal, after_age, aged_count, aged_left}

-- a call's number: 1, then 3 for a budget of 0, then 4
unfoldable pub age_number : House → ℕ → ℕ → ℕ → ℕ
age_number h t before budget = cond (no_tank t) 1 (age_refusal before budget (tank_at h t))

-- the house after it; refused: as it was
unfoldable pub aged_house : House → ℕ → ℕ → ℕ → House
aged_house h t before budget = when_accepted (age_number h t before budget) (with_tank h t (after_age before budget (tank_at h t))) h

-- how many stretches it dropped; refused: 0
abbrev pub dropped_at : House → ℕ → ℕ → ℕ → ℕ
dropped_at h t before budget = when_accepted (age_number h t before budget) (aged_count before budget (tank_at h t)) 0

-- what remains of `before`; refused: 0, so that the number has to be looked at first
abbrev pub remaining_at : House → ℕ → ℕ → ℕ → ℕ
remaining_at h t before budget = when_accepted (age_number h t before budget) (aged_left before budget (tank_at h t)) 0

-- what a call hands back
pub record AgedAt (s : Tanks) (t before budget : ℕ) (r : Aged) : Type 0 where
  pub number_is : r.number ≡ age_number (meaning s) t before budget
  pub dropped_is : r.dropped ≡ dropped_at (meaning s) t before budget
  pub remaining_is : r.remaining ≡ remaining_at (meaning s) t before budget
  pub is : meaning r.tanks ≡ aged_house (meaning s) t before budget
  pub sound : Sound r.tanks

-- the state as it was, with nothing dropped and nothing left to do: beside a refusal, or where there was nothing to do
abbrev pub LeftAlone : Tanks → ℕ → Aged → Type 0
LeftAlone s number r = (r.number ≡ number) × (r.dropped ≡ 0) × (r.remaining ≡ 0) × (r.tanks ≡ s)

-- ---- By a party
-- a call's number: 1, then 16 where the laboratory tries, then as above
unfoldable pub age_number_by : House → ℕ → Party → ℕ → ℕ → ℕ
age_number_by h t who before budget = cond (no_tank t) 1 (cond (is_lab who) 16 (age_refusal before budget (tank_at h t)))

-- the house after it; refused: as it was
unfoldable pub aged_house_by : House → ℕ → Party → ℕ → ℕ → House
aged_house_by h t who before budget = when_accepted (age_number_by h t who before budget) (with_tank h t (after_age before budget (tank_at h t))) h

-- how many stretches it dropped; refused: 0
unfoldable pub dropped_by : House → ℕ → Party → ℕ → ℕ → ℕ
dropped_by h t who before budget = when_accepted (age_number_by h t who before budget) (aged_count before budget (tank_at h t)) 0

-- what remains of `before`; refused: 0
unfoldable pub remaining_by : House → ℕ → Party → ℕ → ℕ → ℕ
remaining_by h t who before budget = when_accepted (age_number_by h t who before budget) (aged_left before budget (tank_at h t)) 0

-- what a party's call hands back
pub record AgedBy (s : Tanks) (t : ℕ) (who : Party) (before budget : ℕ) (r : Aged) : Type 0 where
  pub number_is : r.number ≡ age_number_by (meaning s) t who before budget
  pub dropped_is : r.dropped ≡ dropped_by (meaning s) t who before budget
  pub remaining_is : r.remaining ≡ remaining_by (meaning s) t who before budget
  pub is : meaning r.tanks ≡ aged_house_by (meaning s) t who before budget
  pub sound : Sound r.tanks

-- the number that the laboratory gets, for ageing and for a plan
abbrev pub barred_number : ℕ → ℕ
barred_number t = cond (no_tank t) 1 16

-- ---- The code's own calls one after another with one budget, each with what the one before it left of `before`
-- from s and `before`, after k calls: the state, what remains, and the sum of the counts. Between two calls other tanks may change, while
-- this one stays as it is
pub data Ages : ℕ → ℕ → Tanks → ℕ → ℕ → Tanks → ℕ → ℕ → Type 0 where
  no_age : {t budget before : ℕ} {s : Tanks} → Ages t budget s before 0 s before 0
  one_age : {t budget before k left sum : ℕ} {s u w : Tanks} {r : Aged} → Ages t budget s before k u left sum
      → tank_at (meaning w) t ≡ tank_at (meaning u) t → AgedAt w t left budget r
      → Ages t budget s before (suc k) r.tanks r.remaining (sum + r.dropped)
