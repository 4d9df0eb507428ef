-- How many runs an edit leaves: an alteration, a deletion or an insertion at most two more.
use Prim.Native.Nat.{ℕ, ◌+◌, ◌-◌, ◌≤◌, ◌<◌, min, max}
use mathlib.Core.Path.{◌≡◌}
use mathlib.Core.List.{List, [], ◌∷◌}
use native.Mathlib.Omega.{arith}
use native.Mathlib.Decide.{dec_le}
use lib.ListN.{length}
use Rattle.runs.specs.Runs.{Run, total}
use Rattle.runs.proofs.Copies.{push_run, clip, copy_runs, adding, part, altered, deleted, inserted}
use Rattle.runs.proofs.Laws.{push_by}

-- 1 where there is one at least, else 0
ind : ℕ → ℕ
ind x = min 1 x

most_one : (x : ℕ) → ind x ≤ 1
unfolding ind
most_one x = omega arith

-- how many runs of rs have a position in from .. to
touched : ℕ → ℕ → List Run → ℕ
touched from to [] = 0
touched from to (r ∷ rs) = touched from to rs + ind (clip from to (total rs) r.len)

length_push : (rs : List Run) (l s : ℕ) → length (push_run rs l s) ≤ length rs + ind l
unfolding ind
length_push rs l s =
    push_by (λ a b. length b ≤ length a + min 1 l) l s (λ a z. omega arith) (λ r a nz e. omega arith) (λ a nz o. omega arith) rs

copied_runs : (f : ℕ → ℕ) (base : List Run) (from to : ℕ) (rs : List Run) → length (copy_runs f base from to rs) ≤ length base + touched from to rs
unfolding copy_runs touched
copied_runs f base from to [] = omega arith
copied_runs f base from to (r ∷ rs) =
    omega (arith, copied_runs f base from to rs, length_push (copy_runs f base from to rs) (clip from to (total rs) r.len) (f r.set))

touched_all : (from to : ℕ) (rs : List Run) → touched from to rs ≤ length rs
unfolding touched
touched_all from to [] = omega arith
touched_all from to (r ∷ rs) = omega (arith, touched_all from to rs, most_one (clip from to (total rs) r.len))

-- a cut at mid of one run
module _ (from mid to t l : ℕ) (up : from ≤ mid) (up' : mid ≤ to) where
  -- the run ends at mid or before, starts at mid or after, or has mid inside
  cut_left : t + l ≤ mid → ind (clip from mid t l) + ind (clip mid to t l) + ind (t - mid) ≤ ind (clip from to t l) + ind (t + l - mid)
  unfolding ind
  cut_left h =
      let a : min mid (t + l) ≡ min to (t + l) = omega arith in
      let b : min to (t + l) - max mid t ≡ 0 = omega arith in
      let z : t - mid ≡ 0 = omega arith in
      rw (b, z, a) (go (min to (t + l) - max from t) (t + l - mid))
    where
      go : (x y : ℕ) → min 1 x + min 1 0 + min 1 0 ≤ min 1 x + min 1 y
      go x y = omega arith

  cut_right : mid ≤ t → ind (clip from mid t l) + ind (clip mid to t l) + ind (t - mid) ≤ ind (clip from to t l) + ind (t + l - mid)
  unfolding ind
  cut_right h =
      let a : min mid (t + l) - max from t ≡ 0 = omega arith in
      let b : max mid t ≡ max from t = omega arith in
      rw (a, b) (go (min to (t + l) - max from t) (t - mid) (t + l - mid) (omega arith))
    where
      go : (x y z : ℕ) → y ≤ z → min 1 0 + min 1 x + min 1 y ≤ min 1 x + min 1 z
      go x y z g = omega arith

  cut_inside : t < mid → mid < t + l → ind (clip from mid t l) + ind (clip mid to t l) + ind (t - mid) ≤ ind (clip from to t l) + ind (t + l - mid)
  unfolding ind
  cut_inside g h =
      go (min mid (t + l) - max from t) (min to (t + l) - max mid t) (t - mid) (min to (t + l) - max from t) (t + l - mid) (omega arith) (omega arith) (omega arith)
    where
      go : (x y z u v : ℕ) → x ≤ u → z ≡ 0 → 0 < v → min 1 x + min 1 y + min 1 z ≤ min 1 u + min 1 v
      go x y z u v p q r = omega arith

  cut : ind (clip from mid t l) + ind (clip mid to t l) + ind (t - mid) ≤ ind (clip from to t l) + ind (t + l - mid)
  cut =
      elim (dec_le (t + l) mid) [
        | yes h ↦ cut_left h
        | no h ↦ elim (dec_le mid t) [ yes g ↦ cut_right g | no g ↦ cut_inside (omega arith) (omega arith) ]
      ]

-- a cut divides one run at most
touched_cut : (from mid to : ℕ) → from ≤ mid → mid ≤ to → (rs : List Run)
    → touched from mid rs + touched mid to rs ≤ touched from to rs + ind (total rs - mid)
unfolding touched total
touched_cut from mid to up up' [] = omega arith
touched_cut from mid to up up' (r ∷ rs) =
    omega (arith, touched_cut from mid to up up' rs, cut from mid to (total rs) r.len up up')

-- ---- the edits
module _ (rs : List Run) (a b : ℕ) (up : a ≤ b) (fits : b ≤ total rs) where
  around : (mid : List Run) → length mid ≤ length (part [] 0 a rs) + touched a b rs → length (part mid b (total rs) rs) ≤ length rs + 2
  around mid h =
      omega (
        arith,
        copied_runs (adding 0) mid b (total rs) rs,
        copied_runs (adding 0) [] 0 a rs,
        touched_cut 0 a (total rs) (omega arith) (omega arith) rs,
        touched_cut a b (total rs) up fits rs,
        touched_all 0 (total rs) rs,
        most_one (total rs - a),
        most_one (total rs - b),
      )

  pub altered_runs : (f : ℕ → ℕ) → length (altered rs a b f) ≤ length rs + 2
  unfolding altered
  altered_runs f = around _ (copied_runs f (part [] 0 a rs) a b rs)

  pub deleted_runs : length (deleted rs a b) ≤ length rs + 2
  unfolding deleted
  deleted_runs = around (part [] 0 a rs) (omega arith)

pub inserted_runs : (rs : List Run) (pos l s : ℕ) → pos ≤ total rs → length (inserted rs pos l s) ≤ length rs + 2
unfolding inserted
inserted_runs rs pos l s h =
    omega (
      arith,
      copied_runs (adding 0) (push_run (part [] 0 pos rs) l s) pos (total rs) rs,
      length_push (part [] 0 pos rs) l s,
      copied_runs (adding 0) [] 0 pos rs,
      touched_cut 0 pos (total rs) (omega arith) h rs,
      touched_all 0 (total rs) rs,
      most_one (total rs - pos),
      most_one l,
    )
