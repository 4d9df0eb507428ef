-- Document 02, request 14, of one tank by its positions: ageing a bit at a time. One call deletes the first `budget` of the stretches that
-- overlap 0 .. before, or all of them if they are fewer, the last clipped at `before`.
use Rattle.std.specs.Prelude.{ℕ, zero, suc, ◌+◌, ◌-◌, ◌/◌, cond, ltb, eqb}
use Rattle.runs.specs.Positions.{stretch_count, part_of}
use Rattle.tank.specs.Rules.{View, alike, after_delete}

-- how many stretches overlap 0 .. before: each of them starts below `before`
abbrev pub overlapping : ℕ → View → ℕ
overlapping before v = stretch_count (alike v.at) before

-- 3: a budget of 0; 4: `before` over the length; 0 for neither. They go before all else: also where nothing is left to do
unfoldable pub age_refusal : ℕ → ℕ → View → ℕ
age_refusal before budget v = cond (eqb budget 0) 3 (cond (ltb v.length before) 4 0)

-- how many positions one call deletes: those of 0 .. before that lie in its first `budget` stretches; none of an untouched tank
unfoldable pub aged_part : ℕ → ℕ → View → ℕ
aged_part before budget v = cond v.touched (part_of (alike v.at) budget before) 0

-- the tank after an accepted call: one deletion of a prefix
abbrev pub after_age : ℕ → ℕ → View → View
after_age before budget v = after_delete 0 (aged_part before budget v) v

-- how many stretches it dropped: those that overlap the prefix, the clipped one among them
abbrev pub aged_count : ℕ → ℕ → View → ℕ
aged_count before budget v = overlapping (aged_part before budget v) v

-- the remaining `before`, lessened by the positions deleted; an untouched tank is done at once, with 0
unfoldable pub aged_left : ℕ → ℕ → View → ℕ
aged_left before budget v = cond v.touched (before - aged_part before budget v) 0

-- ---- Calls in a row with one budget and no other edit of the tank between them
-- the tank, what remains of `before`, and the sum of the reported counts
pub record Ageing : Type 0 where
  pub tank : View
  pub before : ℕ
  pub dropped : ℕ

-- the three together
abbrev pub ageing : View → ℕ → ℕ → Ageing
ageing v before dropped = record { tank = v; before = before; dropped = dropped }

-- one accepted call more
abbrev pub aged_once : ℕ → Ageing → Ageing
aged_once budget s =
    ageing (after_age s.before budget s.tank) (aged_left s.before budget s.tank) (s.dropped + aged_count s.before budget s.tank)

-- k of them
unfoldable pub aged_times : ℕ → ℕ → Ageing → Ageing
aged_times budget zero s = s
aged_times budget (suc k) s = aged_once budget (aged_times budget k s)

-- n / b rounded up: so many calls end the work on n stretches
abbrev pub rounded_up : ℕ → ℕ → ℕ
rounded_up n b = (n + (b - 1)) / b
