-- The laws of `own_runs` and `zero_filled`: a tank's runs and its arrays, place by place.
use Prim.Native.Nat.{ℕ, ◌+◌, ◌-◌, ◌≤◌, ◌<◌}
use mathlib.Core.Path.{◌≡◌, sym, ap, ap₂, ◌∙◌}
use mathlib.Core.List.{List, ◌++◌, map}
use native.Mathlib.Omega.{arith}
use lib.ListN.{length, get_or, drop, replicate, length-drop, length-replicate, length-map, get_or-map}
use lib.Seq.{take-length, length-take-le, get_or-take, get_or-drop}
use Rattle.laws.proofs.Lists.{get_d_padding, drop_filling, stored, stored_is}
use Rattle.tank.specs.declared.Tank.{Tank}
use Rattle.tanks.specs.declared.Head.{Head}
use Rattle.tanks.specs.declared.Run.{Run}
use Rattle.tanks.specs.declared.Table.{Table}
use Rattle.tanks.specs.Pool.{no_run, runs_in, runs_below, own_runs, zero_filled}

-- a tank by its head, its runs and its table
abbrev pub tank_from : Head → List Run → Table → Tank
tank_from h rs m = record {
  touched = h.touched;
  length = h.length;
  runs = h.runs;
  marks = h.marks;
  lens = zero_filled (map (λ r. r.len) rs);
  sets = zero_filled (map (λ r. r.set) rs);
  table = m.marks;
}

-- zeros stand behind a list either way
pub zero_filled_at : (ns : List ℕ) (k : ℕ) → get_or (zero_filled ns) k 0 ≡ get_or ns k 0
zero_filled_at ns k = get_d_padding 0 (514 - length ns) k ns

module _ (hs : List Head) (pool : List Run) (t : ℕ) where
  pub own_at : (k : ℕ) → k < runs_in hs t → get_or (own_runs hs pool t) k no_run ≡ get_or pool (runs_below hs t + k) no_run
  own_at k h = get_or-take (runs_in hs t) (drop (runs_below hs t) pool) k no_run h ∙ get_or-drop (runs_below hs t) pool k no_run

  -- a number of each run
  map_at : (f : Run → ℕ) (k : ℕ) → k < runs_in hs t → get_or (map f (own_runs hs pool t)) k (f no_run) ≡ f (get_or pool (runs_below hs t + k) no_run)
  map_at f k h = get_or-map f (own_runs hs pool t) k no_run ∙ ap f (own_at k h)

  -- a tank's arrays, of lengths and of sets
  pub array_at : (f : Run → ℕ) → f no_run ≡ 0 → (k : ℕ) → k < runs_in hs t → get_or (zero_filled (map f (own_runs hs pool t))) k 0 ≡ f (get_or pool (runs_below hs t + k) no_run)
  array_at f e k h = zero_filled_at (map f (own_runs hs pool t)) k ∙ ap (get_or (map f (own_runs hs pool t)) k) (sym e) ∙ map_at f k h

  -- of runs that all stand in the pool
  module _ (inside : runs_below hs t + runs_in hs t ≤ length pool) where
    pub length_own : length (own_runs hs pool t) ≡ runs_in hs t
    length_own = length-take-le (runs_in hs t) (drop (runs_below hs t) pool) (omega (arith, length-drop (runs_below hs t) pool))

    pub length_own_map : (f : Run → ℕ) → length (map f (own_runs hs pool t)) ≡ runs_in hs t
    length_own_map f = length-map (own_runs hs pool t) f ∙ length_own

    -- the slices are what a loop stores run by run
    pub own_stored : (f : Run → ℕ) → runs_in hs t ≤ 514 → stored (λ k. f (get_or pool (runs_below hs t + k) no_run)) (replicate 514 0) (runs_in hs t) ≡ zero_filled (map f (own_runs hs pool t))
    own_stored f h =
        let xs = map f (own_runs hs pool t) in
        let n = runs_in hs t in
        let l = length_own_map f in
        stored_is _ xs (replicate 514 0) (f no_run) n (omega (arith, l)) (omega (arith, length-replicate {A = ℕ} 514 0)) (λ k g. sym (map_at f k g))
        ∙ rw l (ap₂ (λ (front back : List ℕ). front ++ back) (rw l at (take-length xs)) (drop_filling 0 514 n))
