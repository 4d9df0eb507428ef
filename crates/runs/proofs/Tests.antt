-- The definitions at small tanks, by computation. The last run stands first.
use Prim.Native.Nat.{ℕ, zero, suc, ◌+◌, ◌≤◌, ◌<◌}
use mathlib.Core.Path.{◌≡◌, refl}
use mathlib.Core.Bool.{true, false}
use mathlib.Core.List.{List, [], ◌∷◌}
use native.Mathlib.Omega.{arith}
use lib.Count.{ones, ones_in}
use lib.ListN.{get_or}
use Rattle.styles.specs.Bits.{open_bit, top_in}
use Rattle.runs.specs.declared.scan.Test.TheVariants.{Meets, Misses, Hides}
use Rattle.runs.specs.Runs.{Run, run, runs, total, set_at, Other, Canon, changing, sums, Found, SameBehind, Spare}
use Rattle.runs.specs.Positions.{followed_at, altered_at, deleted_at, inserted_at}
use Rattle.runs.proofs.Copies.{join_run, push_run, clip, copy_runs, adding, part, altered, deleted, inserted}
use Rattle.runs.specs.Gather.{gather, Renumbered}
use Rattle.runs.specs.Positions.{sum_below, any_at, all_at, stretch_to, seek_from, starts, stretch_count, first_of, last_of, stretch, extended, stretches_at, as_numbers}
use Rattle.runs.specs.Scan.{meets, shows, passes, common_at}
use Rattle.runs.specs.Stretches.{alike_in, marks_in, listed, entry, in_front}
use Rattle.runs.proofs.Clipped.{clipped}
use Rattle.runs.proofs.MapLaws.{AllSets, map_runs}

-- ten positions with no bit, then five with bit 1
t : List Run
t = run 5 2 ∷ run 10 0 ∷ []

-- ---- runs
is_runs : runs (10 ∷ 5 ∷ 99 ∷ []) (0 ∷ 2 ∷ 7 ∷ []) 2 ≡ t
unfolding runs t
is_runs = refl

is_total : total t ≡ 15
unfolding total t
is_total = refl

is_sums : sums (10 ∷ 5 ∷ 99 ∷ []) 2 ≡ 15
unfolding sum_below
is_sums = refl

at_12 : set_at t 12 ≡ 2
unfolding set_at t
at_12 = refl

at_15 : set_at t 15 ≡ 0
unfolding set_at t
at_15 = refl

-- joined: no run is empty, neighbours differ, and so the last run is other than 7
canon_t : Canon t
unfolding Canon Other t
canon_t = (omega arith, λ e. omega arith, (omega arith, tt, tt))

other_t : Other 7 t
unfolding Other t
other_t = λ e. omega arith

small_t : AllSets (λ s. s < 4) t
unfolding AllSets t
small_t = (omega arith, (omega arith, tt))

-- position 12 is in run 1, which starts at 10; position 15 is past the end
found_12 : Found (10 ∷ 5 ∷ []) 2 12 1 10 15
unfolding sum_below
found_12 = record { within = omega arith; starts = refl; reached = omega arith; inside = λ _. (omega arith, refl); past = λ h. absurd (omega arith) }

found_15 : Found (10 ∷ 5 ∷ []) 2 15 2 15 15
unfolding sum_below
found_15 = record { within = omega arith; starts = refl; reached = omega arith; inside = λ h. absurd (omega arith); past = λ h. refl }

-- a longer first run leaves place 1 as it was
behind_1 : SameBehind 1 (4 ∷ 9 ∷ []) (7 ∷ 8 ∷ []) (5 ∷ 9 ∷ []) (7 ∷ 8 ∷ [])
behind_1 = record { lens_stay = refl; sets_stay = refl }

-- from place 1 on there is nothing
spare_1 : Spare (4 ∷ 0 ∷ []) (7 ∷ 0 ∷ []) 1
unfolding Spare
spare_1 zero h = absurd (omega arith)
spare_1 (suc zero) h = (refl, refl)
spare_1 (suc (suc i)) h = (refl, refl)

-- ---- pushes and copies
joins_last : push_run t 3 2 ≡ run 8 2 ∷ run 10 0 ∷ []
unfolding push_run t
joins_last = refl

begins_new : push_run t 3 1 ≡ run 3 1 ∷ run 5 2 ∷ run 10 0 ∷ []
unfolding push_run t
begins_new = refl

pushes_none : push_run t 0 1 ≡ t
unfolding push_run t
pushes_none = refl

joins_nothing : join_run [] 3 1 ≡ run 3 1 ∷ []
unfolding join_run
joins_nothing = refl

clips : clip 8 12 10 5 ≡ 2
clips = refl

copied : copy_runs (adding 1) (run 4 1 ∷ []) 8 12 t ≡ run 2 3 ∷ run 6 1 ∷ []
unfolding copy_runs t changing
copied = refl

changes : changing 1 2 6 ≡ 5
unfolding changing
changes = refl

renumbered : map_runs (open_bit 1) t ≡ run 5 4 ∷ run 10 0 ∷ []
unfolding map_runs open_bit t
renumbered = refl

-- ---- edits
front : part [] 0 12 t ≡ run 2 2 ∷ run 10 0 ∷ []
unfolding copy_runs changing t
front = refl

noted : altered t 8 12 (adding 1) ≡ run 3 2 ∷ run 2 3 ∷ run 2 1 ∷ run 8 0 ∷ []
unfolding altered t changing copy_runs
noted = refl

joined : deleted (run 4 1 ∷ run 3 2 ∷ run 5 1 ∷ []) 5 8 ≡ run 9 1 ∷ []
unfolding deleted changing copy_runs
joined = refl

-- by position: behind the first 12 those with set 9, or those from 8 on
sets_behind : (followed_at 12 (set_at t) (λ q. 9) 11 ≡ 2) × (followed_at 12 (set_at t) (λ q. 9) 12 ≡ 9) × (followed_at 12 (set_at t) (λ q. set_at t (8 + q)) 13 ≡ 0)
unfolding t set_at
sets_behind = (refl, refl, refl)

-- bit 0 on 8 .. 12, the positions 5 .. 8 gone, four put in at 10
sets_after : (altered_at 8 12 (adding 1) (set_at t) 7 ≡ 0) × (altered_at 8 12 (adding 1) (set_at t) 8 ≡ 1) × (altered_at 8 12 (adding 1) (set_at t) 12 ≡ 2)
    × (deleted_at 5 8 (set_at t) 6 ≡ 0) × (deleted_at 5 8 (set_at t) 7 ≡ 2) × (inserted_at 10 4 9 (set_at t) 13 ≡ 9) × (inserted_at 10 4 9 (set_at t) 14 ≡ 2)
unfolding t changing set_at
sets_after = (refl, refl, refl, refl, refl, refl, refl)

grown : inserted t 10 4 0 ≡ run 5 2 ∷ run 14 0 ∷ []
unfolding inserted t changing copy_runs
grown = refl

-- ---- all sets together
gathered : gather (run 1 4 ∷ run 5 2 ∷ run 10 0 ∷ []) ≡ 6
unfolding gather
gathered = refl

-- the first two sets get bit 0 opened, the third stays
renumbered_two : Renumbered (λ s r. r ≡ open_bit 0 s) 2 (1 ∷ 3 ∷ 5 ∷ []) (2 ∷ 6 ∷ 5 ∷ [])
unfolding open_bit
renumbered_two = record { front = opened; rest = after; kept = refl }
  where
    opened : (j : ℕ) → j < 2 → get_or {A = ℕ} (2 ∷ 6 ∷ 5 ∷ []) j 0 ≡ open_bit 0 (get_or {A = ℕ} (1 ∷ 3 ∷ 5 ∷ []) j 0)
    opened zero h = refl
    opened (suc zero) h = refl
    opened (suc (suc j)) h = absurd (omega arith)

    after : (j : ℕ) → 2 ≤ j → get_or {A = ℕ} (2 ∷ 6 ∷ 5 ∷ []) j 0 ≡ get_or {A = ℕ} (1 ∷ 3 ∷ 5 ∷ []) j 0
    after zero h = absurd (omega arith)
    after (suc zero) h = absurd (omega arith)
    after (suc (suc j)) h = refl

-- ---- questions over a range
some : any_at (λ p. meets 2 (set_at t p)) 8 12 ≡ true
unfolding any_at set_at t
some = refl

none : any_at (λ p. meets 2 (set_at t p)) 8 10 ≡ false
unfolding any_at set_at t
none = refl

not_all : all_at (λ p. meets 2 (set_at t p)) 8 12 ≡ false
unfolding all_at set_at t
not_all = refl

all : all_at (λ p. meets 2 (set_at t p)) 10 15 ≡ true
unfolding all_at set_at t
all = refl

-- the stretch with bit 1 that ends at 13 starts at 10; at 9 there is none
from_10 : stretch_to (λ p. meets 2 (set_at t p)) 14 ≡ 10
unfolding stretch_to set_at t
from_10 = refl

from_none : stretch_to (λ p. meets 2 (set_at t p)) 10 ≡ 10
unfolding stretch_to set_at t
from_none = refl

-- the highest bit that 5 has of 3 is bit 0
shown : shows 3 1 5 ≡ true
unfolding top_in
shown = refl

passes_each : (passes (Meets 2) 6 ≡ true) × (passes (Misses 2) 6 ≡ false) × (passes (Hides 3 1) 5 ≡ false)
unfolding passes top_in
passes_each = (refl, refl, refl)

-- inside a run the new positions get its set, between runs what both have, at the start nothing
common : (common_at t 12 ≡ 2) × (common_at t 10 ≡ 0) × (common_at t 0 ≡ 0) × (common_at t 15 ≡ 0)
unfolding common_at set_at t
common = (refl, refl, refl, refl)

-- ---- counts
two_stretches : stretch_count (alike_in t) 15 ≡ 2
unfolding sum_below starts set_at t
two_stretches = refl

-- position 12 is in the stretch 10 .. 14, position 9 in 0 .. 9; both ends are in it
extents : (first_of (alike_in t) 12 ≡ 10) × (last_of (alike_in t) 15 12 ≡ 14) × (first_of (alike_in t) 9 ≡ 0) × (last_of (alike_in t) 15 9 ≡ 9)
unfolding stretch_to seek_from set_at t
extents = (refl, refl, refl, refl)

-- ---- lists
clipped_t : clipped 8 12 t ≡ stretch 10 12 1 ∷ stretch 8 10 0 ∷ []
unfolding clipped t ones ones_in
clipped_t = refl

by_position : stretches_at (alike_in t) (marks_in t) 8 12 ≡ stretch 10 12 1 ∷ stretch 8 10 0 ∷ []
unfolding stretches_at extended set_at t ones ones_in
by_position = refl

as_numbers_lem : as_numbers 0 (stretch 10 12 1 ∷ stretch 8 10 0 ∷ []) ≡ 8 ∷ 10 ∷ 0 ∷ 10 ∷ 12 ∷ 1 ∷ []
unfolding as_numbers
as_numbers_lem = refl

marked : listed 1 8 12 (10 ∷ 5 ∷ []) (0 ∷ 2 ∷ []) 2 ≡ 10 ∷ 12 ∷ 1 ∷ []
unfolding as_numbers stretches_at extended set_at total runs ones ones_in
marked = refl

entries : (entry 1 8 10 0 ≡ []) × (entry 0 8 10 0 ≡ 8 ∷ 10 ∷ 0 ∷ []) × (entry 0 8 8 3 ≡ [])
unfolding entry
entries = (refl, refl, refl)

in_front_lem : in_front {A = ℕ} (1 ∷ 2 ∷ []) (7 ∷ 8 ∷ 9 ∷ []) ≡ 1 ∷ 2 ∷ 9 ∷ []
in_front_lem = refl
