-- What `puts` does to the tanks: tank t becomes x, and every other tank stays.
use Prim.Native.Nat.{ℕ, ◌+◌, ◌-◌, ◌≤◌, ◌<◌, max}
use mathlib.Core.Path.{◌≡◌, refl, sym, ap, ◌∙◌}
use mathlib.Core.Logic.{◌≢◌}
use mathlib.Core.List.{List, map}
use native.Mathlib.Omega.{arith}
use borrow.Author.Tests.{lt-ltb, le-ltb}
use native.Mathlib.Decide.{dec_lt}
use lib.ListN.{length, get_or, set, get_or-eq_default}
use lib.Seq.{get_or-set_same, get_or-set_other, ext_get_or}
use Rattle.runs.proofs.SumLaws.{sum_next}
use Rattle.laws.proofs.Lists.{length_filled}
use Rattle.tanks.specs.declared.Head.{Head}
use Rattle.tanks.specs.declared.Run.{Run}
use Rattle.tank.specs.declared.Tank.{Tank}
use Rattle.tanks.specs.declared.Table.{Table}
use Rattle.tanks.specs.declared.Tanks.{Tanks}
use Rattle.runs.specs.Runs.{Spare}
use Rattle.tank.specs.State.{Formed}
use Rattle.tank.proofs.Unique.{tank_eq}
use Rattle.tanks.specs.Pool.{no_run, no_head, no_table, runs_in, runs_below, own_runs, zero_filled, tank_in, tank_of, head_of, table_in, Sound}
use Rattle.tanks.proofs.Put.{run_of, run_from, puts}
use Rattle.tanks.proofs.SettingLaws.{sound_held, sound_place}
use Rattle.tanks.proofs.LaidLaws.{laid, length_laid, laid_out, laid_in, below_same, below_later}
use Rattle.tanks.proofs.SliceLaws.{tank_from, zero_filled_at, array_at, own_at, length_own, length_own_map}

-- the pool, place by place: n runs at `at` become x's, and `left` runs stand behind them
abbrev packed : List Run → ℕ → ℕ → ℕ → Tank → List Run
packed pool at n left x = laid pool at (run_from pool x (at + n) (x.runs + left)) (max x.runs n + left)

module _ (pool : List Run) (at n left : ℕ) (x : Tank) (l : length pool ≡ 512) (most : at + n + left ≤ 512) (room : at + x.runs + left ≤ 512) where
  pool_low : (k : ℕ) → k < at → get_or (packed pool at n left x) k no_run ≡ get_or pool k no_run
  pool_low k h = laid_out pool at (run_from pool x (at + n) (x.runs + left)) (max x.runs n + left) k no_run (λ j g i. omega arith)

  pool_in : (k : ℕ) → k < max x.runs n + left → get_or (packed pool at n left x) (at + k) no_run ≡ run_from pool x (at + n) (x.runs + left) k
  pool_in k h = laid_in pool at (run_from pool x (at + n) (x.runs + left)) (max x.runs n + left) k no_run (omega arith) h

  pool_mid : (k : ℕ) → k < x.runs → get_or (packed pool at n left x) (at + k) no_run ≡ run_of x.lens x.sets k
  unfolding run_from
  pool_mid k h = pool_in k (omega arith) ∙ rw (lt-ltb k x.runs h)

  pool_high : (k : ℕ) → k < left → get_or (packed pool at n left x) (at + x.runs + k) no_run ≡ get_or pool (at + n + k) no_run
  unfolding run_from
  pool_high k h =
      let e : at + (x.runs + k) ≡ at + x.runs + k = omega arith in
      let g : x.runs + k - x.runs ≡ k = omega arith in
      (rw e at (pool_in (x.runs + k) (omega arith)))
      ∙ rw (le-ltb (x.runs + k) x.runs (omega arith), lt-ltb (x.runs + k) (x.runs + left) (omega arith), g)

  pool_blank : ((k : ℕ) → at + n + left ≤ k → get_or pool k no_run ≡ no_run) → (k : ℕ) → at + x.runs + left ≤ k → get_or (packed pool at n left x) k no_run ≡ no_run
  unfolding run_from
  pool_blank spare k h =
      elim (dec_lt k (at + (max x.runs n + left))) [
        | yes g ↦
            let e : at + (k - at) ≡ k = omega arith in
            (rw e at (pool_in (k - at) (omega arith)))
            ∙ rw (le-ltb (k - at) x.runs (omega arith), le-ltb (k - at) (x.runs + left) (omega arith))
        | no g ↦ laid_out pool at (run_from pool x (at + n) (x.runs + left)) (max x.runs n + left) k no_run (λ j f i. omega arith) ∙ spare k (omega arith)
      ]

-- the tanks
module _ (s : Tanks) (t : ℕ) (x : Tank) (ok : Sound s) (t8 : t < 8) (formed : Formed x) (room : runs_below (set s.heads t (head_of x)) 8 ≤ 512) where
  h8 : length s.heads ≡ 8
  h8 = ok.heads_8

  at : ℕ
  at = runs_below s.heads t

  n : ℕ
  n = runs_in s.heads t

  left : ℕ
  unfolding at n
  left = runs_below s.heads 8 - (runs_below s.heads t + runs_in s.heads t)

  all_before : at + n + left ≡ runs_below s.heads 8
  unfolding at n left
  all_before = omega (arith, sum_next (runs_in s.heads) t 8 t8)

  all_after : at + x.runs + left ≡ runs_below (set s.heads t (head_of x)) 8
  unfolding at n left
  all_after = omega (arith, below_later s.heads t (head_of x) 8 (omega (arith, h8)) t8, sum_next (runs_in s.heads) t 8 t8)

  most : at + n + left ≤ 512
  most = omega (arith, all_before, sound_held s ok)

  fits : at + x.runs + left ≤ 512
  fits = omega (arith, all_after)

  head_same : get_or (set s.heads t (head_of x)) t no_head ≡ head_of x
  head_same = get_or-set_same s.heads t (head_of x) no_head (omega (arith, h8))

  pub put_length : length (puts s t x).pool ≡ 512
  unfolding puts
  put_length = length_laid s.pool _ _ _ ∙ ok.pool_512

  pub put_blank : (k : ℕ) → runs_below (puts s t x).heads 8 ≤ k → get_or (puts s t x).pool k no_run ≡ no_run
  unfolding puts at n left
  put_blank k h =
      pool_blank s.pool at n left x ok.pool_512 most fits (λ j g. ok.spare j (omega (arith, all_before))) k (omega (arith, all_after))

  -- the runs of the tank put
  put_run : (k : ℕ) → k < x.runs → get_or (puts s t x).pool (runs_below (puts s t x).heads t + k) no_run ≡ run_of x.lens x.sets k
  unfolding puts at n left
  put_run k h =
      rw (below_same s.heads t (head_of x) t (omega arith))
      (pool_mid s.pool at n left x ok.pool_512 most fits k h)

  -- the runs of another tank
  moved : (u : ℕ) → u ≢ t → u < 8 → (k : ℕ) → k < runs_in s.heads u
      → get_or (puts s t x).pool (runs_below (puts s t x).heads u + k) no_run ≡ get_or s.pool (runs_below s.heads u + k) no_run
  unfolding puts at n left
  moved u ne u8 k h =
      elim (dec_lt u t) [
        | yes l ↦
            rw (below_same s.heads t (head_of x) u (omega arith))
            (pool_low s.pool at n left x ok.pool_512 most fits (runs_below s.heads u + k) (omega (arith, sum_next (runs_in s.heads) u t l)))
        | no l ↦
            let f : runs_below s.heads t + runs_in s.heads t ≤ runs_below s.heads u = sum_next (runs_in s.heads) t u (omega arith) in
            let m : runs_below s.heads u + runs_in s.heads u ≤ runs_below s.heads 8 = sum_next (runs_in s.heads) u 8 u8 in
            let j : runs_below (set s.heads t (head_of x)) u + k ≡ runs_below s.heads t + x.runs + (runs_below s.heads u + k - (runs_below s.heads t + runs_in s.heads t)) =
            omega (arith, below_later s.heads t (head_of x) u (omega (arith, h8)) (omega arith)) in
            let i : runs_below s.heads t + runs_in s.heads t + (runs_below s.heads u + k - (runs_below s.heads t + runs_in s.heads t)) ≡ runs_below s.heads u + k = omega arith in
            rw j
            (pool_high s.pool at n left x ok.pool_512 most fits (runs_below s.heads u + k - (runs_below s.heads t + runs_in s.heads t)) (omega arith)
            ∙ ap (λ (z : ℕ). get_or s.pool z no_run) i)
      ]

  -- every tank's runs stand within the pool
  put_inside : (u : ℕ) → u < 8 → runs_below (puts s t x).heads u + runs_in (puts s t x).heads u ≤ length (puts s t x).pool
  unfolding puts
  put_inside u h = omega (arith, put_length, room, sum_next (runs_in (set s.heads t (head_of x))) u 8 h)

  -- an array of x is its part below the runs, and zeros
  array : (ns xs : List ℕ) → length ns ≡ x.runs → length xs ≡ 514 → ((k : ℕ) → k < x.runs → get_or (zero_filled ns) k 0 ≡ get_or xs k 0) → ((k : ℕ) → x.runs ≤ k → get_or xs k 0 ≡ 0)
      → zero_filled ns ≡ xs
  array ns xs n l eq spare =
      ext_get_or 0 (zero_filled ns) xs (length_filled 0 514 ns (omega (arith, fits)) ∙ sym l)
      (λ k _. elim (dec_lt k x.runs) [
        | yes h ↦ eq k h
        | no h ↦ zero_filled_at ns k ∙ get_or-eq_default ns 0 (omega arith) ∙ sym (spare k (omega arith))
      ])

  pub put_same : tank_of (puts s t x) t ≡ x
  unfolding tank_of tank_in puts Spare
  put_same =
      let heads = (puts s t x).heads in
      let pool = (puts s t x).pool in
      let r : runs_in (set s.heads t (head_of x)) t ≡ x.runs = ap (λ (h : Head). h.runs) head_same in
      tank_eq (tank_of (puts s t x) t) x
      (ap (λ (h : Head). h.touched) head_same)
      (ap (λ (h : Head). h.length) head_same)
      r
      (ap (λ (h : Head). h.marks) head_same)
      (array (map (λ (r : Run). r.len) (own_runs heads pool t)) x.lens (length_own_map heads pool t (put_inside t t8) (λ (r : Run). r.len) ∙ r) formed.laid.lens_514
      (λ k h. array_at heads pool t (λ r. r.len) refl k (omega (arith, r)) ∙ ap (λ (r : Run). r.len) (put_run k h)) (λ k h. (formed.laid.spare k h).0))
      (array (map (λ (r : Run). r.set) (own_runs heads pool t)) x.sets (length_own_map heads pool t (put_inside t t8) (λ (r : Run). r.set) ∙ r) formed.laid.sets_514
      (λ k h. array_at heads pool t (λ r. r.set) refl k (omega (arith, r)) ∙ ap (λ (r : Run). r.set) (put_run k h)) (λ k h. (formed.laid.spare k h).1))
      (ap (λ (m : Table). m.marks) (get_or-set_same s.tables t (table_in x) no_table (omega (arith, ok.tables_8))))

  own_other : (u : ℕ) → u ≢ t → u < 8 → own_runs (puts s t x).heads (puts s t x).pool u ≡ own_runs s.heads s.pool u
  unfolding puts
  own_other u ne u8 =
      let heads = (puts s t x).heads in
      let pool = (puts s t x).pool in
      let r : runs_in heads u ≡ runs_in s.heads u = ap (λ (h : Head). h.runs) (get_or-set_other s.heads t u (head_of x) no_head ne) in
      let n = length_own heads pool u (put_inside u u8) in
      ext_get_or no_run (own_runs heads pool u) (own_runs s.heads s.pool u)
      (n ∙ r ∙ sym (length_own s.heads s.pool u (omega (arith, ok.pool_512, sound_place s ok u u8))))
      (λ k h.
      own_at heads pool u k (omega (arith, n)) ∙ moved u ne u8 k (omega (arith, n, r)) ∙ sym (own_at s.heads s.pool u k (omega (arith, n, r))))

  pub put_other : (u : ℕ) → u ≢ t → u < 8 → tank_of (puts s t x) u ≡ tank_of s u
  unfolding tank_of tank_in puts
  put_other u ne u8 =
      λ i. tank_from (get_or-set_other s.heads t u (head_of x) no_head ne i) (own_other u ne u8 i) (get_or-set_other s.tables t u (table_in x) no_table ne i)
