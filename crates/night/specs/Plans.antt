-- Document 02, request 9, of one tank by its positions: a plan of ranges to delete, when it is accepted, and the tank after it. All ranges
-- are in the numbering before the first deletion.
use Rattle.std.specs.Prelude.{ℕ, zero, suc, ◌+◌, ◌-◌, Bool, true, false, cond, ◌&&◌, ◌||◌, not, List, [], ◌∷◌, ◌++◌, ltb, leb, length, replicate}
use Rattle.styles.specs.Marks.{has_key}
use Rattle.runs.specs.Positions.{within, any_at}
use Rattle.tank.specs.Rules.{View, after_delete, runs_held}
use Rattle.night.specs.declared.Range.{Range}
use Rattle.night.specs.declared.Plan.{Plan}

-- ---- A plan: up to 32 ranges
-- the positions a .. b
abbrev pub range : ℕ → ℕ → Range
range a b = record { start = a; end = b }

-- what stands in a free place of a plan
abbrev pub no_range : Range
no_range = range 0 0

-- the first n ranges of a list, and free places where there are fewer
unfoldable pub first_ranges : ℕ → List Range → List Range
first_ranges zero xs = []
first_ranges (suc n) [] = no_range ∷ first_ranges n []
first_ranges (suc n) (x ∷ xs) = x ∷ first_ranges n xs

-- the ranges of a plan: as many as it counts
abbrev pub ranges_of : Plan → List Range
ranges_of p = first_ranges p.count p.ranges

-- the plan of these ranges
abbrev pub plan_of : List Range → Plan
plan_of xs = record { count = length xs; ranges = xs ++ replicate (32 - length xs) no_range }

-- ---- When it is accepted
-- from position `from` on the ranges are non-empty, ascending and disjoint (touching ones are), and end within n
unfoldable pub in_order : ℕ → ℕ → List Range → Bool
in_order from n [] = leb from n
in_order from n (x ∷ xs) = leb from x.start && (ltb x.start x.end && in_order x.end n xs)

-- position p has the hold key: a mark with it, whatever its value, null too
abbrev pub held_at : ℕ → View → ℕ → Bool
held_at hold v p = has_key hold (v.at p)

-- no position of the ranges has
unfoldable pub free_of : ℕ → View → List Range → Bool
free_of hold v [] = true
free_of hold v (x ∷ xs) = not (any_at (held_at hold v) x.start x.end) && free_of hold v xs

-- there are none
unfoldable pub no_ranges : List Range → Bool
no_ranges [] = true
no_ranges (x ∷ xs) = false

-- the ranges may go: in order, within the length, free of the hold key; of an untouched tank none may
unfoldable pub may_go : ℕ → List Range → View → Bool
may_go hold xs v = cond v.touched (in_order 0 v.length xs && free_of hold v xs) (no_ranges xs)

-- the tank after deleting them all: the last first, so that each is still in the numbering before the first deletion
unfoldable pub after_plan : List Range → View → View
after_plan [] v = v
after_plan (x ∷ xs) v = after_delete x.start x.end (after_plan xs v)

-- accepted: at most 32 ranges that may go, and the tank after deleting them all holds at most `most` runs
unfoldable pub accepts_plan : ℕ → ℕ → List Range → View → Bool
accepts_plan hold most xs v = leb (length xs) 32 && (may_go hold xs v && leb (runs_held (after_plan xs v)) most)

-- ---- What the theorems speak of
-- position p is in one of the ranges
unfoldable pub planned : List Range → ℕ → Bool
planned [] p = false
planned (x ∷ xs) p = within x.start x.end p || planned xs p

-- of the positions from .. from + n those that are not gone, by what stands there, the last first
unfoldable pub kept_from : {A : Type 0} → (ℕ → A) → (ℕ → Bool) → ℕ → ℕ → List A
kept_from at gone from zero = []
kept_from at gone from (suc n) = cond (gone (from + n)) (kept_from at gone from n) (at (from + n) ∷ kept_from at gone from n)

-- 1 where a stretch begins at x, behind the list ys whose last stands first
unfoldable pub opens_on : {A : Type 0} → (A → A → Bool) → List A → A → ℕ
opens_on same [] x = 1
opens_on same (y ∷ ys) x = cond (same y x) 0 1

-- how many stretches of same neighbours a list has
unfoldable pub changes : {A : Type 0} → (A → A → Bool) → List A → ℕ
changes same [] = 0
changes same (x ∷ xs) = opens_on same xs x + changes same xs
