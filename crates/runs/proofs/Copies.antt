-- Pushes, copies and edits of a run list as the code makes them: a copy as pushes, run by run, and an edit as copies of parts.
use Prim.Native.Nat.{ℕ, ◌+◌, ◌-◌, ◌≤◌, ◌<◌, ◌^◌, min, max}
use mathlib.Core.Path.{◌≡◌}
use mathlib.Core.Bool.{cond}
use mathlib.Core.List.{List, [], ◌∷◌}
use lib.Dec.{eqb}
use lib.ListN.{length}
use Rattle.runs.specs.Runs.{Run, run, runs, total, changing}

-- ---- a push and a copy
-- `l` positions more, of which there is one at least
unfoldable pub join_run : List Run → ℕ → ℕ → List Run
join_run [] l s = run l s ∷ []
join_run (r ∷ rs) l s = cond (eqb r.set s) (run (r.len + l) s ∷ rs) (run l s ∷ r ∷ rs)

-- `l` positions more, with the set `s`, in joined form
unfoldable pub push_run : List Run → ℕ → ℕ → List Run
unfolding join_run
push_run rs l s = cond (eqb l 0) rs (join_run rs l s)

-- how many of the positions start .. start + l lie in from .. to
abbrev pub clip : ℕ → ℕ → ℕ → ℕ → ℕ
clip from to start l = min to (start + l) - max from start

-- onto `base`, the positions from .. to of `src`, each with its set changed by `f`
unfoldable pub copy_runs : (ℕ → ℕ) → List Run → ℕ → ℕ → List Run → List Run
unfolding total push_run
copy_runs f base from to [] = base
copy_runs f base from to (r ∷ rs) = push_run (copy_runs f base from to rs) (clip from to (total rs) r.len) (f r.set)

-- ---- the edits
-- a set with more bits in it
abbrev pub adding : ℕ → ℕ → ℕ
adding bits = changing bits 0

-- the positions from .. to of rs, onto base
abbrev pub part : List Run → ℕ → ℕ → List Run → List Run
part base from to rs = copy_runs (adding 0) base from to rs

-- the sets of the positions a .. b changed by f
unfoldable pub altered : List Run → ℕ → ℕ → (ℕ → ℕ) → List Run
altered rs a b f = part (copy_runs f (part [] 0 a rs) a b rs) b (total rs) rs

-- the positions a .. b taken away
unfoldable pub deleted : List Run → ℕ → ℕ → List Run
deleted rs a b = part (part [] 0 a rs) b (total rs) rs

-- l positions with the set s put in before position pos
unfoldable pub inserted : List Run → ℕ → ℕ → ℕ → List Run
inserted rs pos l s = part (push_run (part [] 0 pos rs) l s) pos (total rs) rs

-- there is room for such a result of m runs
pub record Room (out : List Run) (olens osets lens sets : List ℕ) (m all : ℕ) : Type 0 where
  pub even : length osets ≡ length olens
  pub lens_m : m ≤ length lens
  pub sets_m : m ≤ length sets
  pub all_is : all ≡ total (runs lens sets m)
  pub source : all < 2 ^ 63
  pub room : length out ≤ length olens
  pub sum : total out < 2 ^ 63
