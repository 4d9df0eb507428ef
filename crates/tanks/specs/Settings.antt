-- Document 01, "Numbers" and refusals 2, 9 and 10: eight pairs of share and limit, the rule that they keep, and the judgement by how many
-- runs each tank holds.
use Rattle.std.specs.Prelude.{ℕ, max, Bool, cond, ◌&&◌, List, ltb, leb, eqb, get_or}
use Rattle.runs.specs.Positions.{sum_below, all_at}
use Rattle.tanks.specs.declared.Setting.{Setting}

-- what stands where there is no pair
abbrev pub no_setting : Setting
no_setting = record { share = 0; limit = 0 }

-- the share of tank t
abbrev pub share_of : List Setting → ℕ → ℕ
share_of st t = (get_or st t no_setting).share

-- its limit
abbrev pub limit_of : List Setting → ℕ → ℕ
limit_of st t = (get_or st t no_setting).limit

-- ---- The settings' rule
-- a pair keeps it: 1 <= share <= limit <= 512
abbrev pub keeps_rule : Setting → Bool
keeps_rule s = leb 1 s.share && (leb s.share s.limit && leb s.limit 512)

-- each of the first n pairs keeps it
abbrev pub all_keep_rule : List Setting → ℕ → Bool
all_keep_rule st n = all_at (λ t. keeps_rule (get_or st t no_setting)) 0 n

-- the sum of the first n shares
abbrev pub shares : List Setting → ℕ → ℕ
shares st n = sum_below (share_of st) n

-- eight pairs that keep it, the shares summing to at most 512
unfoldable pub accepted : List Setting → Bool
accepted st = all_keep_rule st 8 && leb (shares st 8) 512

-- ---- Refusals 9 and 10, by how many runs each tank holds
-- what tank u claims: max(runs, share)
abbrev pub claim : List Setting → (ℕ → ℕ) → ℕ → ℕ
claim st held u = max (held u) (share_of st u)

-- the sum over the first n tanks
abbrev pub claims : List Setting → (ℕ → ℕ) → ℕ → ℕ
claims st held n = sum_below (claim st held) n

-- tank t comes to hold n runs, the others hold what they held
abbrev pub held_after : (ℕ → ℕ) → ℕ → ℕ → ℕ → ℕ
held_after held t n u = cond (eqb u t) n (held u)

-- 9: more runs than the tank's limit; 10: the sum over tanks of max(runs after, share) would pass 512; 0 for neither
unfoldable pub judgement : List Setting → (ℕ → ℕ) → ℕ → ℕ → ℕ
judgement st held t n = cond (ltb (limit_of st t) n) 9 (cond (ltb 512 (claims st (held_after held t n) 8)) 10 0)
