-- Document 02, request 9: the plan that is proposed for a tank. It takes the oldest first and no more than needed: the unheld ranges below
-- the least position for which they are accepted.
use Rattle.std.specs.Prelude.{ℕ, zero, suc, ◌-◌, ◌≤◌, ◌<◌, ◌≡◌, Bool, true, false, cond, ◌&&◌, not, List, [], ◌∷◌, ltb, Option, Some, None, Result, Ok, Err}
use Rattle.runs.specs.Positions.{sum_below, seek_from}
use Rattle.tank.specs.Rules.{View}
use Rattle.tanks.specs.declared.Tanks.{Tanks}
use Rattle.tanks.specs.House.{House, tank_at, no_tank}
use Rattle.tanks.specs.Pool.{meaning, Sound}
use Rattle.night.specs.declared.Range.{Range}
use Rattle.night.specs.declared.Plan.{Plan}
use Rattle.night.specs.Plans.{range, plan_of, held_at, accepts_plan}

-- ---- Of one tank
-- position p does not have the hold key
abbrev pub unheld_at : ℕ → View → ℕ → Bool
unheld_at hold v p = not (held_at hold v p)

-- the first position from `from` on, of n, that passes the test, or n
abbrev pub seek : (ℕ → Bool) → ℕ → ℕ → ℕ
seek test n from = seek_from test from (n - from)

-- the first k maximal ranges of positions that pass the test, from `from` on, of n positions
unfoldable pub ranges_from : ℕ → (ℕ → Bool) → ℕ → ℕ → List Range
ranges_from zero test n from = []
ranges_from (suc k) test n from =
    let a = seek test n from in
    let b = seek (λ p. not (test p)) n a in
    cond (ltb a n) (range a b ∷ ranges_from k test n b) []

-- the unheld ranges below position p: the first 32 of them, the last clipped at p
abbrev pub unheld_below : ℕ → View → ℕ → List Range
unheld_below hold v p = ranges_from 32 (unheld_at hold v) p 0

-- they are accepted
abbrev pub works_below : ℕ → ℕ → View → ℕ → Bool
works_below hold most v p = accepts_plan hold most (unheld_below hold v p) v

-- the least position below which they are; the length where there is none before it
abbrev pub least_below : ℕ → ℕ → View → ℕ
least_below hold most v = seek_from (works_below hold most v) 0 v.length

-- the unheld ranges below the least position for which they are accepted, or no plan
unfoldable pub proposed : ℕ → ℕ → View → Option (List Range)
proposed hold most v =
    cond (works_below hold most v (least_below hold most v)) (Some (unheld_below hold v (least_below hold most v))) None

-- ---- As an answer
-- a proposal as an answer: no plan is an answer too
unfoldable pub proposal_of : Option (List Range) → Option Plan
proposal_of None = None
proposal_of (Some xs) = Some (plan_of xs)

-- the plan proposed for a tank, or 1
unfoldable pub proposal_at : House → ℕ → ℕ → ℕ → Result (Option Plan) ℕ
proposal_at h t hold most = cond (no_tank t) (Err 1) (Ok (proposal_of (proposed hold most (tank_at h t))))

-- ---- What trying asks
-- one of the eight tanks, and a position of it or its length
pub record CanTry (s : Tanks) (t below : ℕ) : Type 0 where
  pub sound : Sound s
  pub tank : t < 8
  pub fits : below ≤ (tank_at (meaning s) t).length

-- what finding the least position asks: that nothing would not do, and that all that is unheld would
pub record CanNarrow (s : Tanks) (t hold most length : ℕ) : Type 0 where
  pub sound : Sound s
  pub tank : t < 8
  pub whole : length ≡ (tank_at (meaning s) t).length
  pub some : works_below hold most (tank_at (meaning s) t) 0 ≡ false
  pub all : works_below hold most (tank_at (meaning s) t) length ≡ true

-- ---- What the theorems speak of
-- 1 where a maximal range of positions that pass the test begins
unfoldable pub begins : (ℕ → Bool) → ℕ → ℕ
begins test zero = cond (test zero) 1 0
begins test (suc p) = cond (not (test p) && test (suc p)) 1 0

-- how many such ranges n positions have
abbrev pub range_count : (ℕ → Bool) → ℕ → ℕ
range_count test n = sum_below (begins test) n
