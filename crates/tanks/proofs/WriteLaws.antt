-- What the loop of `edit` does to the state, step by step, and that its places are inside the arrays.
use Prim.Native.Nat.{ℕ, suc, ◌+◌, ◌-◌, ◌≤◌, ◌<◌, max}
use mathlib.Core.Path.{◌≡◌, refl, sym, ap, ◌∙◌}
use mathlib.Core.Bool.{Bool, true, false, cond}
use mathlib.Core.List.{List}
use native.Mathlib.Omega.{arith}
use lib.Dec.{ltb, eqb}
use native.Mathlib.Numerals.{add-one}
use borrow.Author.Tests.{lt-ltb, le-ltb, ltb-true, ltb-false, eqb-true}
use lib.ListN.{length, get_or, set}
use Rattle.laws.proofs.Cases.{cond_same}
use Rattle.tank.specs.declared.Tank.{Tank}
use Rattle.tank.specs.State.{Formed}
use Rattle.runs.proofs.SumLaws.{sum_next}
use Rattle.tanks.specs.declared.Head.{Head}
use Rattle.tanks.specs.declared.Run.{Run}
use Rattle.tanks.specs.declared.Spots.{Spots}
use Rattle.tanks.specs.declared.Table.{Table}
use Rattle.tanks.specs.declared.Tanks.{Tanks}
use Rattle.tanks.specs.Settings.{judgement}
use Rattle.tank.specs.Rules.{first_refusal}
use Rattle.tanks.specs.Pool.{no_run, runs_in, runs_below, head_of, table_in, spots_of, Sound}
use Rattle.tanks.proofs.Put.{run_of, run_from, pool_with, puts}
use Rattle.tanks.proofs.LaidLaws.{laid, laid_out, laid_more, laid_back, laid_cong, laid_kept, below_later}
use Rattle.tanks.proofs.SettingLaws.{sound_held, second_zero}
use Rattle.tanks.proofs.MeaningLaws.{room}

abbrev pub with_pool : Tanks → List Run → Tanks
with_pool s p = record { settings = s.settings; heads = s.heads; tables = s.tables; pool = p }

-- ---- part of the runs written: k of them from the lo-th on
abbrev pub part : List Run → ℕ → (ℕ → Run) → ℕ → ℕ → List Run
part p at f lo k = laid p (at + lo) (λ i. f (lo + i)) k

part_up : (p : List Run) (at : ℕ) (f : ℕ → Run) (k : ℕ) → set (part p at f 0 k) (at + k) (f k) ≡ part p at f 0 (k + 1)
part_up p at f k =
    let e : at + 0 + k ≡ at + k = omega arith in
    let g : 0 + k ≡ k = omega arith in
    rw (e, g) at (laid_more p (at + 0) (λ i. f (0 + i)) k)

part_down : (p : List Run) (at : ℕ) (f : ℕ → Run) (lo k : ℕ) → set (part p at f (suc lo) k) (at + lo) (f lo) ≡ part p at f lo (k + 1)
part_down p at f lo k =
    let e : at + suc lo ≡ suc (at + lo) = omega arith in
    let z : lo + 0 ≡ lo = omega arith in
    let g : laid p (suc (at + lo)) (λ i. f (suc lo + i)) k ≡ laid p (suc (at + lo)) (λ i. f (lo + suc i)) k =
    laid_cong p (suc (at + lo)) _ _ k (λ i h. ap f (omega arith)) in
    rw (e, g, add-one) (rw z at (laid_back p (at + lo) (λ i. f (lo + i)) k))

-- where the next places are, from the front or from the back
abbrev pub lowest : Bool → ℕ → ℕ → ℕ
lowest back count k = cond back (count - k) 0

part_next : (p : List Run) (at : ℕ) (f : ℕ → Run) (back : Bool) (count k j : ℕ) → k < count → j ≡ cond back (count - 1 - k) k
    → set (part p at f (lowest back count k) k) (at + j) (f j) ≡ part p at f (lowest back count (k + 1)) (k + 1)
part_next p at f true count k j h e =
    let lo : count - k ≡ suc (count - (k + 1)) = omega arith in
    let g : j ≡ count - (k + 1) = omega arith in
    rw (g, lo) (part_down p at f (count - (k + 1)) k)
part_next p at f false count k j h e = rw e (part_up p at f k)

-- one run written
pub run_step : (s now : Tanks) (p : List Run) (at : ℕ) (f : ℕ → Run) (back : Bool) (count k j : ℕ) (r : Run) → k < count → j ≡ cond back (count - 1 - k) k
    → now ≡ with_pool s (part p at f (lowest back count k) k) → r ≡ f j
    → with_pool now (set now.pool (at + j) r) ≡ with_pool s (part p at f (lowest back count (k + 1)) (k + 1))
run_step s now p at f back count k j r h i e g = rw (e, g) (ap (with_pool s) (part_next p at f back count k j h i))

-- the same of a pool by itself
pub pool_step : (now p : List Run) (at : ℕ) (f : ℕ → Run) (back : Bool) (count k j : ℕ) (r : Run) → k < count → j ≡ cond back (count - 1 - k) k
    → now ≡ part p at f (lowest back count k) k → r ≡ f j → set now (at + j) r ≡ part p at f (lowest back count (k + 1)) (k + 1)
pool_step now p at f back count k j r h i e g = rw (e, g) (part_next p at f back count k j h i)

-- the run that is read has not been written over
kept : (p : List Run) (at : ℕ) (f : ℕ → Run) (back : Bool) (from m count k j : ℕ) → back ≡ ltb from (at + m) → k < count → j ≡ cond back (count - 1 - k) k → m ≤ j
    → get_or (part p at f (lowest back count k) k) (from + (j - m)) no_run ≡ get_or p (from + (j - m)) no_run
kept p at f true from m count k j b h e l =
    let g : from < at + m = ltb-true from (at + m) (sym b) in
    laid_out p (at + (count - k)) _ k _ no_run (λ i q z. omega arith)
kept p at f false from m count k j b h e l =
    let g : at + m ≤ from = ltb-false from (at + m) (sym b) in
    laid_out p (at + 0) _ k _ no_run (λ i q z. omega arith)

pub read_kept : (s now : Tanks) (at : ℕ) (f : ℕ → Run) (back : Bool) (from m count k j : ℕ) → back ≡ ltb from (at + m) → k < count → j ≡ cond back (count - 1 - k) k → m ≤ j
    → now ≡ with_pool s (part s.pool at f (lowest back count k) k) → get_or now.pool (from + (j - m)) no_run ≡ get_or s.pool (from + (j - m)) no_run
read_kept s now at f back from m count k j b h e l i = rw i (kept s.pool at f back from m count k j b h e l)

pub pool_kept : (now p : List Run) (at : ℕ) (f : ℕ → Run) (back : Bool) (from m count k j : ℕ) → back ≡ ltb from (at + m) → k < count → j ≡ cond back (count - 1 - k) k → m ≤ j
    → now ≡ part p at f (lowest back count k) k → get_or now (from + (j - m)) no_run ≡ get_or p (from + (j - m)) no_run
pool_kept now p at f back from m count k j b h e l i = rw i (kept p at f back from m count k j b h e l)

-- all of them written
pub part_all : (p : List Run) (at : ℕ) (f : ℕ → Run) (back : Bool) (count : ℕ) → part p at f (lowest back count count) count ≡ laid p at f count
part_all p at f back count =
    let z : at + 0 ≡ at = omega arith in
    let e : count - count ≡ 0 = omega arith in
    rw (e, cond_same {A = ℕ} {x = 0} back, z) (laid_cong p at _ f count (λ i h. ap f (omega arith)))

-- ---- which run is written
module _ (pool : List Run) (x : Tank) (from full k : ℕ) where
  pub run_own : k < x.runs → run_of x.lens x.sets k ≡ run_from pool x from full k
  unfolding run_from
  run_own h = rw (lt-ltb k x.runs h)

  pub run_behind : x.runs ≤ k → k < full → get_or pool (from + (k - x.runs)) no_run ≡ run_from pool x from full k
  unfolding run_from
  run_behind h g = rw (le-ltb k x.runs h, lt-ltb k full g)

  pub run_blank : x.runs ≤ k → full ≤ k → no_run ≡ run_from pool x from full k
  unfolding run_from
  run_blank h g = rw (le-ltb k x.runs h, le-ltb k full g)

-- ---- the runs behind the tank's own written first, then its own
-- the run of a tank behind it, and a blank, j places behind its own m
module _ (pool : List Run) (x : Tank) (from full left m j : ℕ) (same : m ≡ x.runs) (full_is : full ≡ m + left) where
  pub past_own : j < left → get_or pool (from + j) no_run ≡ run_from pool x from full (m + j)
  past_own h =
      let e : from + j ≡ from + (m + j - x.runs) = omega arith in
      ap (λ (i : ℕ). get_or pool i no_run) e ∙ run_behind pool x from full (m + j) (omega arith) (omega arith)

  pub past_all : left ≤ j → no_run ≡ run_from pool x from full (m + j)
  past_all h = run_blank pool x from full (m + j) (omega arith) (omega arith)

-- a run that is read there has not been written over
pub past_kept : (now p : List Run) (at : ℕ) (f : ℕ → Run) (back : Bool) (from m count k j : ℕ) → back ≡ ltb from (at + m) → k < count → j ≡ cond back (count - 1 - k) k
    → now ≡ part p (at + m) f (lowest back count k) k → get_or now (from + j) no_run ≡ get_or p (from + j) no_run
past_kept now p at f back from m count k j b h e i =
    let z : at + m + 0 ≡ at + m = omega arith in
    let d : from + (j - 0) ≡ from + j = omega arith in
    rw d at (pool_kept now p (at + m) f back from 0 count k j (rw z b) h e (omega arith) i)

-- of the places behind the tank's own there are so many, and all that are written are places of the state
pub record Beyond (m full count left behind : ℕ) : Type 0 where
  pub full_is : full ≡ m + left
  pub within : m + behind ≤ count

few_more : (b : Bool) (m c : ℕ) → m ≤ c → m + cond b 0 (c - m) ≤ c
few_more true m c h = omega arith
few_more false m c h = omega arith

pub beyond : (hs : List Head) (t m : ℕ) (r : Spots) → r ≡ spots_of hs t m → Beyond m r.full r.count r.left r.behind
beyond hs t m r e = rw e (record { full_is = refl; within = few_more (eqb m (runs_in hs t)) m _ (omega arith) })

-- where the tank holds as many runs as before those behind it stay
all_laid : (b : Bool) (pool : List Run) (at : ℕ) (f : ℕ → Run) (m n l : ℕ) → eqb m n ≡ b → ((j : ℕ) → m ≡ n → j < l → f (m + j) ≡ get_or pool (at + (m + j)) no_run)
    → laid pool at f (m + cond b 0 (max m n + l - m)) ≡ laid pool at f (max m n + l)
all_laid true pool at f m n l e h =
    let same : m ≡ n = eqb-true m n e in
    let z : m + 0 ≡ m = omega arith in
    let c : max m n + l ≡ m + l = omega arith in
    rw (z, c) (sym (laid_kept pool at f m l no_run (λ j g. h j same g)))
all_laid false pool at f m n l e h = ap (laid pool at f) (omega arith)

pub all_written : (hs : List Head) (pool : List Run) (t : ℕ) (x : Tank) → runs_below hs t + runs_in hs t ≤ runs_below hs 8
    → laid pool (runs_below hs t) (run_from pool x (spots_of hs t x.runs).from (spots_of hs t x.runs).full) (x.runs + (spots_of hs t x.runs).behind) ≡ pool_with pool (spots_of hs t x.runs) x
all_written hs pool t x h =
    let m = x.runs in
    let n = runs_in hs t in
    let at = runs_below hs t in
    let l = runs_below hs 8 - (at + n) in
    all_laid (eqb m n) pool at _ m n l refl
    (λ j same g.
    let e : at + n + j ≡ at + (m + j) = omega arith in
    sym (past_own pool x (at + n) (m + l) l m j refl refl g) ∙ ap (λ (i : ℕ). get_or pool i no_run) e)

-- ---- places inside the arrays
pub record Inside (x : Tank) (m at from full count : ℕ) (grows : Bool) : Type 0 where
  pub same : m ≡ x.runs
  pub most : m ≤ 514
  pub few : m ≤ count
  pub up : at ≤ from
  pub room : at + count ≤ 512
  pub source : from + (full - m) ≤ 512
  pub back : grows ≡ ltb from (at + m)
  pub lens_514 : length x.lens ≡ 514
  pub sets_514 : length x.sets ≡ 514

module _ (s : Tanks) (t number : ℕ) (x : Tank) (ok : Sound s) (t8 : t < 8) (formed : Formed x)
    (z : first_refusal number (judgement s.settings (runs_in s.heads) t x.runs) ≡ 0) where
  pub inside : (r : Spots) → r ≡ spots_of s.heads t x.runs → Inside x x.runs r.at r.from r.full r.count r.grows
  inside r e =
      rw e
      (
      let r = room s t x ok t8 formed (second_zero number _ z) in
      let l = below_later s.heads t (head_of x) 8 (omega (arith, ok.heads_8)) t8 in
      let b = sum_next (runs_in s.heads) t 8 t8 in
      let h = sound_held s ok in
      record {
        same = refl;
        most = formed.laid.most;
        few = omega arith;
        up = omega arith;
        room = omega arith;
        source = omega arith;
        back = refl;
        lens_514 = formed.laid.lens_514;
        sets_514 = formed.laid.sets_514;
      })

-- the state at the end
pub put_at_last : (s a : Tanks) (t : ℕ) (x : Tank) (r : Spots) (h : Head) (m : Table) → r ≡ spots_of s.heads t x.runs → h ≡ head_of x → m ≡ table_in x
    → a ≡ with_pool s (laid s.pool r.at (run_from s.pool x r.from r.full) r.count)
    → record { settings = a.settings; heads = set a.heads t h; tables = set a.tables t m; pool = a.pool } ≡ puts s t x
unfolding puts
put_at_last s a t x r h m g i j e = rw (e, g, i, j)
