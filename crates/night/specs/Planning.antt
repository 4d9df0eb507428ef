-- Document 02, request 9, over eight tanks: whoever made the plan, it is applied whole or refused by 15.
use Rattle.std.specs.Prelude.{ℕ, ◌≤◌, ◌<◌, ◌≡◌, true, cond, List, [], ◌∷◌, ◌++◌}
use Rattle.styles.specs.declared.Party.{Party}
use Rattle.styles.specs.declared.Party.TheVariants.{Plant}
use Rattle.tank.specs.Rules.{is_lab, deleting, when_accepted}
use Rattle.tanks.specs.declared.Tanks.{Tanks}
use Rattle.tanks.specs.House.{House, tank_at, no_tank, with_tank, Call}
use Rattle.tanks.specs.Pool.{meaning, Sound}
use Rattle.night.specs.declared.Range.{Range}
use Rattle.night.specs.declared.Plan.{Plan}
use Rattle.night.specs.Plans.{ranges_of, may_go, accepts_plan, after_plan}

-- a call's number: 1, then 15 for whatever is wrong about the plan
unfoldable pub plan_number : House → ℕ → ℕ → ℕ → Plan → ℕ
plan_number h t hold most p = cond (no_tank t) 1 (cond (accepts_plan hold most (ranges_of p) (tank_at h t)) 0 15)

-- the house after it: applied whole; refused: as it was
unfoldable pub house_after_plan : House → ℕ → ℕ → ℕ → Plan → House
house_after_plan h t hold most p = when_accepted (plan_number h t hold most p) (with_tank h t (after_plan (ranges_of p) (tank_at h t))) h

-- what it hands back; a refusal hands back the very same state
pub record AppliedAt (s : Tanks) (t hold most : ℕ) (p : Plan) (number : ℕ) (next : Tanks) : Type 0 where
  pub number_is : number ≡ plan_number (meaning s) t hold most p
  pub is : meaning next ≡ house_after_plan (meaning s) t hold most p
  pub sound : Sound next
  pub stays : (number ≡ 0 → ⊥) → next ≡ s

-- ---- By a party
-- a call's number: 1, then 16 where the laboratory tries, then 15
unfoldable pub plan_number_by : House → ℕ → Party → ℕ → ℕ → Plan → ℕ
plan_number_by h t who hold most p = cond (no_tank t) 1 (cond (is_lab who) 16 (cond (accepts_plan hold most (ranges_of p) (tank_at h t)) 0 15))

-- the house after it: applied whole; refused: as it was
unfoldable pub house_after_plan_by : House → ℕ → Party → ℕ → ℕ → Plan → House
house_after_plan_by h t who hold most p = when_accepted (plan_number_by h t who hold most p) (with_tank h t (after_plan (ranges_of p) (tank_at h t))) h

-- what a party's call hands back; a refusal hands back the very same state
pub record AppliedBy (s : Tanks) (t : ℕ) (who : Party) (hold most : ℕ) (p : Plan) (number : ℕ) (next : Tanks) : Type 0 where
  pub number_is : number ≡ plan_number_by (meaning s) t who hold most p
  pub is : meaning next ≡ house_after_plan_by (meaning s) t who hold most p
  pub sound : Sound next
  pub stays : (number ≡ 0 → ⊥) → next ≡ s

-- what deleting the ranges of a plan asks: that they may go
pub record CanApply (s : Tanks) (t hold : ℕ) (p : Plan) : Type 0 where
  pub sound : Sound s
  pub tank : t < 8
  pub few : p.count ≤ 32
  pub may : may_go hold (ranges_of p) (tank_at (meaning s) t) ≡ true

-- the state after it
pub record Applies (s : Tanks) (t : ℕ) (xs : List Range) (r : Tanks) : Type 0 where
  pub sound : Sound r
  pub is : meaning r ≡ with_tank (meaning s) t (after_plan xs (tank_at (meaning s) t))

-- a plan as deletions one after another, the last range first
unfoldable pub plan_calls : ℕ → List Range → List Call
plan_calls t [] = []
plan_calls t (x ∷ xs) = plan_calls t xs ++ (record { tank = t; edit = deleting Plant x.start x.end } ∷ [])
