-- An edit within one run: it is what the tank's own call leaves, and one run of the pool is all that changes.
use Prim.Native.Nat.{ℕ, ◌+◌, ◌-◌, ◌≤◌, ◌<◌, ◌^◌, min, max}
use mathlib.Core.Path.{◌≡◌, refl, sym, ap, ap₂, ◌∙◌, subst}
use mathlib.Core.Logic.{◌≢◌}
use mathlib.Core.Bool.{true, and-false}
use mathlib.Core.List.{List}
use native.Mathlib.Omega.{arith}
use native.Mathlib.Decide.{dec_lt, ℕ_discrete}
use borrow.Author.Tests.{le-ltb, eq-eqb, ne_eqb}
use lib.Bits.{bit_and}
use lib.ListN.{length, get_or, set, take, length-set}
use lib.Seq.{get_or-set_same, get_or-set_other, ext_get_or}
use Rattle.styles.specs.Answers.{styles_of}
use Rattle.styles.specs.Bits.{pick}
use Rattle.styles.specs.declared.Party.{Party}
use Rattle.runs.specs.Positions.{sum_below}
use Rattle.runs.specs.Runs.{runs, total, sums}
use Rattle.runs.specs.Scan.{common_at}
use Rattle.runs.proofs.Laws.{total_sums}
use Rattle.runs.proofs.SumLaws.{sum_more, sum_last, sum_some, sum_up, sum_next}
use Rattle.tank.specs.declared.Tank.{Tank}
use Rattle.tank.specs.Rules.{Edit, annotating, inserting, deleting, removing, largest, is_lab, passes_share, first_refusal, made_by}
use Rattle.tank.specs.State as state
use Rattle.tank.proofs.ResizeLaws.{resized_tank, run_inside, common_within, common_border, insert_within, delete_within}
use Rattle.tanks.specs.declared.Setting.{Setting}
use Rattle.tanks.specs.declared.Head.{Head}
use Rattle.tanks.specs.declared.Run.{Run}
use Rattle.tanks.specs.declared.Resize.{Resize}
use Rattle.tanks.specs.declared.Tanks.{Tanks}
use Rattle.tanks.specs.declared.Table.{Table}
use Rattle.tanks.specs.Settings.{share_of, claims, held_after, judgement}
use Rattle.tanks.specs.House.{share_number}
use Rattle.tanks.specs.Pool.{no_run, no_head, no_table, runs_in, runs_below, lens_in, sets_in, tank_in, tank_of, spots_of, Sound}
use Rattle.tanks.specs.Promises.{Parting, done_with, DoneAt, Performed, PerformedAs}
use Rattle.tanks.specs.Resizing.{Within, Resizes, Fits, Which, shown_by}
use Rattle.tanks.proofs.LaidLaws.{laid, length_laid, laid_out, laid_in}
use Rattle.tanks.proofs.SliceLaws.{array_at}
use Rattle.tanks.proofs.Put.{run_of, run_from, pool_with, puts}
use Rattle.tanks.proofs.WriteLaws.{run_own, run_behind}
use Rattle.tanks.proofs.SettingLaws.{at_each, claims_cong, judge_0, sound_held, taken}
use Rattle.tanks.proofs.PartsLaws.{parts_done}

-- ---- what is said of an edit
-- some position is asked for
pub asked_some : (e : Edit) (h : Head) (r : Resize) → Within e h r → 0 < r.to
asked_some (annotating a b m) h r w = absurd w
asked_some (inserting who pos len) h r w = omega (arith, w.from_is, w.to_is)
asked_some (deleting who a b) h r w = omega (arith, w.up, w.to_is)
asked_some (removing id last) h r w = absurd w

-- no length leaves its bounds
pub within_bounds : (e : Edit) (h : Head) (r : Resize) → h.length ≤ largest → r.to ≤ h.length → Within e h r → (r.less ≤ h.length) × (h.length + r.more ≤ largest)
within_bounds (annotating a b m) h r l g w = absurd w
within_bounds (inserting who pos len) h r l g w = (omega (arith, w.less_is), omega (arith, w.more_is, w.room))
within_bounds (deleting who a b) h r l g w = (omega (arith, w.less_is, w.to_is), omega (arith, w.more_is))
within_bounds (removing id last) h r l g w = absurd w

-- ---- the walk to the run: k runs end at `to`, and the last of them begins at `from`
pub record Walked (lens : List ℕ) (n k from to : ℕ) : Type 0 where
  pub most : k ≤ n
  pub ends : to ≡ sums lens k
  pub begins : from ≡ sums lens (k - 1)

pub walk_start : (lens : List ℕ) (n : ℕ) → Walked lens n 0 0 0
unfolding sum_below
walk_start lens n = record { most = omega arith; ends = refl; begins = refl }

module _ {lens : List ℕ} {n k from to : ℕ} (w : Walked lens n k from to) where
  -- it has not reached the end
  pub walk_on : {goal all : ℕ} → all ≡ sums lens n → goal ≤ all → to < goal → k < n
  walk_on {goal} {all} a g h =
      elim (dec_lt k n) [
        | yes l ↦ l
        | no l ↦ let m = w.most in let q = w.ends in let e : k ≡ n = omega arith in absurd (omega (arith, ap (sums lens) e, a))
      ]

  pub walk_room : k < n → to + get_or lens k 0 ≤ sums lens n
  walk_room h = omega (arith, w.ends, sum_next (λ i. get_or lens i 0) k n h)

  pub walk_step : (l : ℕ) → k < n → l ≡ get_or lens k 0 → Walked lens n (k + 1) to (to + l)
  walk_step l h e =
      let z : k + 1 - 1 ≡ k = omega arith in
      record { most = omega arith; ends = omega (arith, w.ends, e, sum_more (λ i. get_or lens i 0) k); begins = rw z w.ends }

  pub walk_up : from ≤ to
  walk_up = omega (arith, w.ends, w.begins, sum_up (λ i. get_or lens i 0) (k - 1) k (omega arith))

  -- it has come to a run
  module _ (some : 0 < to) where
    pub walk_some : 0 < k
    walk_some = sum_some (λ i. get_or lens i 0) k (omega (arith, w.ends))

    pub walk_there : k - 1 < n
    walk_there = let m = w.most in omega (arith, walk_some)

    pub walk_long : to ≡ from + get_or lens (k - 1) 0
    walk_long = omega (arith, w.ends, w.begins, sum_last (λ i. get_or lens i 0) k walk_some)

-- ---- by the tank's own rules
-- run i is the one that the edit changes: for an insertion it has no more than what the neighbours of the new positions have in common
abbrev pub Suits : Edit → Tank → ℕ → Type 0
Suits (annotating a b m) x i = Unit {0}
Suits (inserting who pos len) x i =
    (total (runs x.lens x.sets i) ≤ pos) × (pos ≤ total (runs x.lens x.sets i) + get_or x.lens i 0) × (get_or x.sets i 0 ≡ common_at (state.runs_of x) pos)
Suits (deleting who a b) x i =
    (total (runs x.lens x.sets i) ≤ a) × (b ≤ total (runs x.lens x.sets i) + get_or x.lens i 0) × (b - a < get_or x.lens i 0)
Suits (removing id last) x i = Unit {0}

-- what it loses it has
pub suits_less : (e : Edit) (x : Tank) (i : ℕ) (h : Head) (r : Resize) → Within e h r → Suits e x i → r.less ≤ get_or x.lens i 0
suits_less (annotating a b m) x i h r w f = absurd w
suits_less (inserting who pos len) x i h r w f = omega (arith, w.less_is)
suits_less (deleting who a b) x i h r w f = omega (arith, w.less_is, f.2)
suits_less (removing id last) x i h r w f = absurd w

module _ (x : Tank) (sound : state.Sound x) (i : ℕ) (there : i < x.runs) where
  -- what the edit comes to
  abbrev comes_to : Edit → Resize → Performed
  comes_to e r = record {
    number = 0;
    styles = styles_of (shown_by e (pick (state.table_of x) (get_or x.sets i 0)));
    first = 0;
    tank = resized_tank x i (get_or x.lens i 0 - r.less + r.more) (x.length - r.less + r.more);
  }

  pub within_performed : (e : Edit) (h : Head) (r : Resize) → h.touched ≡ x.touched → h.length ≡ x.length → r.to ≤ x.length → Within e h r → Suits e x i → PerformedAs e x (comes_to e r)
  within_performed (annotating a b m) h r t l g w f = absurd w
  within_performed (removing id last) h r t l g w f = absurd w
  within_performed (inserting who pos len) h r t l g w f =
      let n : get_or x.lens i 0 - r.less + r.more ≡ get_or x.lens i 0 + len = omega (arith, w.less_is, w.more_is) in
      let m : x.length - r.less + r.more ≡ x.length + len = omega (arith, w.less_is, w.more_is) in
      let q = insert_within sound i there who w.plant (sym t ∙ w.touched) pos len (λ z. omega (arith, w.some)) (omega (arith, w.to_is)) (omega (arith, w.room)) f.0 f.1 f.2 refl in
      record {
        called = subst (λ (v : ℕ). state.Called (inserting who pos len) x 0 (resized_tank x i v (x.length - r.less + r.more))) (sym n) (subst (λ (v : ℕ). state.Called (inserting who pos len) x 0 (resized_tank x i (get_or x.lens i 0 + len) v)) (sym m) q.0);
        styles_are = q.1;
        first_is = refl;
      }
  within_performed (deleting who a b) h r t l g w f =
      let n : get_or x.lens i 0 - r.less + r.more ≡ get_or x.lens i 0 - (b - a) = omega (arith, w.less_is, w.more_is) in
      let m : x.length - r.less + r.more ≡ x.length - (b - a) = omega (arith, w.less_is, w.more_is) in
      let q = delete_within sound i there who w.plant (sym t ∙ w.touched) a b w.up (omega (arith, w.to_is)) f.0 f.1 f.2 in
      record {
        called = subst (λ (v : ℕ). state.Called (deleting who a b) x 0 (resized_tank x i v (x.length - r.less + r.more))) (sym n) (subst (λ (v : ℕ). state.Called (deleting who a b) x 0 (resized_tank x i (get_or x.lens i 0 - (b - a)) v)) (sym m) q);
        styles_are = refl;
        first_is = refl;
      }

-- ---- the run that is chosen, where the walk has stopped
module _ (x : Tank) (sound : state.Sound x) {k from to here next one : ℕ} (w : Walked x.lens x.runs k from to) (q : Resize) (h : Head) (same : h.length ≡ x.length)
    (here-is : 0 < k → here ≡ get_or x.sets (k - 1) 0) (next_is : k < x.runs → next ≡ get_or x.sets k 0)
    (f : Fits q from to) (c : Which q to here next one) (some : 0 < q.to) (reached : q.to ≤ to) where
  there_is : 0 < to
  there_is = omega (arith, some, reached)

  begins_at : (i : ℕ) → total (runs x.lens x.sets i) ≡ sums x.lens i
  begins_at i = total_sums x.lens x.sets i

  -- the walk stopped before the end
  more_runs : {pos : ℕ} → to ≤ pos → pos < h.length → k < x.runs
  more_runs g l = walk_on w {goal = h.length} (sound.formed.laid.sum ∙ begins_at x.runs) (omega (arith, same)) (omega arith)

  this_suits : (e : Edit) → Within e h q → one ≡ 0 → Suits e x (k - 1)
  this_suits (annotating a b m) u p = absurd u
  this_suits (removing id last) u p = absurd u
  this_suits (deleting who a b) u p =
      (omega (arith, begins_at (k - 1), w.begins, u.from_is, f.begins), omega (arith, begins_at (k - 1), w.begins, walk_long w there_is, u.to_is), omega (arith, walk_long w there_is, u.less_is, f.left))
  this_suits (inserting who pos len) u p =
      let l = walk_long w there_is in
      let b = begins_at (k - 1) in
      let g = w.begins in
      let t = walk_there w there_is in
      let o = walk_some w there_is in (
        omega (arith, u.from_is, f.begins),
        omega (arith, u.to_is),
        elim (dec_lt pos to) [
          | yes y ↦ common_within sound (k - 1) t pos (omega (arith, u.from_is, f.begins)) (omega arith)
          | no y ↦
              let n = more_runs {pos = pos} (omega arith) u.inside in
              let z : k - 1 + 1 ≡ k = omega arith in
              let e : pos ≡ total (runs x.lens x.sets (k - 1)) + get_or x.lens (k - 1) 0 = omega (arith, u.to_is) in
              sym (here-is o) ∙ sym (c.this p (omega (arith, u.some, u.more_is)) (omega (arith, u.to_is))) ∙ ap₂ bit_and (here-is o) (next_is n)
              ∙ sym (rw z at (common_border sound (k - 1) t pos (omega arith) e))
        ],
      )

  that_suits : (e : Edit) → Within e h q → one ≡ 1 → (k < x.runs) × Suits e x k
  that_suits (annotating a b m) u p = absurd u
  that_suits (removing id last) u p = absurd u
  that_suits (deleting who a b) u p = absurd (omega (arith, u.more_is, (c.that p).0))
  that_suits (inserting who pos len) u p =
      let d = c.that p in
      let m : to ≡ pos = omega (arith, d.1, u.to_is) in
      let n = more_runs {pos = pos} (omega arith) u.inside in
      let b = begins_at k in
      let l = walk_long w there_is in
      let o = walk_some w there_is in
      let z : k - 1 + 1 ≡ k = omega arith in
      let e : pos ≡ total (runs x.lens x.sets (k - 1)) + get_or x.lens (k - 1) 0 = omega (arith, begins_at (k - 1), w.begins) in (
        n,
        (
          omega (arith, w.ends),
          omega (arith, w.ends),
          sym (next_is n) ∙ sym d.2 ∙ ap₂ bit_and (here-is o) (next_is n) ∙ sym (rw z at (common_border sound (k - 1) (walk_there w there_is) pos (omega arith) e)),
        ),
      )

  pub chosen : (e : Edit) → Within e h q → (1 ≤ k + one) × (k + one - 1 < x.runs) × Suits e x (k + one - 1)
  chosen e u =
      let o = walk_some w there_is in
      let m = c.most in
      elim (ℕ_discrete one 1) [
        | yes p ↦
            let i : k + one - 1 ≡ k = omega arith in
            let d = that_suits e u p in
            (omega arith, rw i d.0, rw i d.1)
        | no p ↦
            let y : one ≡ 0 = omega arith in
            let i : k + one - 1 ≡ k - 1 = omega arith in
            (omega arith, rw i (walk_there w there_is), rw i (this_suits e u y))
      ]

-- ---- as many runs as before: no refusal
same_share : (who : Party) (share n : ℕ) → share_number who share n n ≡ 0
unfolding passes_share
same_share who share n = rw (le-ltb n n (omega arith), and-false (is_lab who)) refl

pub same_verdict : (s : Tanks) → Sound s → (t : ℕ) → t < 8 → (e : Edit)
    → 0 ≡ first_refusal (first_refusal 0 (share_number (made_by e) (share_of s.settings t) (runs_in s.heads t) (runs_in s.heads t))) (judgement s.settings (runs_in s.heads) t (runs_in s.heads t))
same_verdict s ok t h e =
    let n = runs_in s.heads t in
    let f = runs_in s.heads in
    let same : (u : ℕ) → held_after f t n u ≡ f u = λ u. at_each (λ v. held_after f t n v ≡ f v) t u (rw (eq-eqb t t refl) refl) (λ ne. rw (ne_eqb u t ne) refl) in
    let sum : claims s.settings (held_after f t n) 8 ≤ 512 = omega (arith, ok.sum, claims_cong s.settings (held_after f t n) f 8 (λ u _. same u)) in
    sym (rw (same_share (made_by e) (share_of s.settings t) n, judge_0 s.settings f t n (ok.limits t h) sum) refl)

-- ---- and one run of the pool changes
module _ (hs : List Head) (pool : List Run) (t i v : ℕ) (there : i < runs_in hs t) (inside : runs_below hs t + runs_in hs t ≤ runs_below hs 8) (all : runs_below hs 8 ≤ 512) (long : length pool ≡ 512)
    (fit : i < length (lens_in hs pool t)) (y : Tank) (runs_are_lem : y.runs ≡ runs_in hs t) (lens-are : y.lens ≡ set (lens_in hs pool t) i v) (sets-are : y.sets ≡ sets_in hs pool t) where
  changed : List Run
  changed = set pool (runs_below hs t + i) (record { len = v; set = (get_or pool (runs_below hs t + i) no_run).set })

  own_same : get_or changed (runs_below hs t + i) no_run ≡ run_of y.lens y.sets i
  unfolding changed
  own_same =
      let l = ap (λ (xs : List ℕ). get_or xs i 0) lens-are ∙ get_or-set_same (lens_in hs pool t) i v 0 fit in
      let u = ap (λ (xs : List ℕ). get_or xs i 0) sets-are ∙ array_at hs pool t (λ (r : Run). r.set) refl i there in
      let r : Run = record { len = v; set = (get_or pool (runs_below hs t + i) no_run).set } in
      get_or-set_same pool (runs_below hs t + i) r no_run (omega arith) ∙ sym (λ j. record { len = l j; set = u j })

  own_other : (k : ℕ) → k < runs_in hs t → k ≢ i → get_or changed (runs_below hs t + k) no_run ≡ run_of y.lens y.sets k
  unfolding changed
  own_other k h ne =
      let l = ap (λ (xs : List ℕ). get_or xs k 0) lens-are ∙ get_or-set_other (lens_in hs pool t) i k v 0 ne ∙ array_at hs pool t (λ (r : Run). r.len) refl k h in
      let u = ap (λ (xs : List ℕ). get_or xs k 0) sets-are ∙ array_at hs pool t (λ (r : Run). r.set) refl k h in
      let r : Run = record { len = v; set = (get_or pool (runs_below hs t + i) no_run).set } in
      get_or-set_other pool (runs_below hs t + i) (runs_below hs t + k) r no_run (λ z. ne (omega arith)) ∙ sym (λ j. record { len = l j; set = u j })

  own_run : (k : ℕ) → k < runs_in hs t → get_or changed (runs_below hs t + k) no_run ≡ run_of y.lens y.sets k
  own_run k h =
      elim (ℕ_discrete k i) [
        | yes e ↦ subst (λ (j : ℕ). get_or changed (runs_below hs t + j) no_run ≡ run_of y.lens y.sets j) (sym e) own_same
        | no ne ↦ own_other k h ne
      ]

  out_run : (p : ℕ) → p ≢ runs_below hs t + i → get_or changed p no_run ≡ get_or pool p no_run
  unfolding changed
  out_run p ne = get_or-set_other pool (runs_below hs t + i) p _ no_run ne

  pub pool_resized : set pool (runs_below hs t + i) (record { len = v; set = (get_or pool (runs_below hs t + i) no_run).set }) ≡ pool_with pool (spots_of hs t y.runs) y
  unfolding changed
  pool_resized =
      let n = runs_in hs t in
      let at = runs_below hs t in
      let left = runs_below hs 8 - (at + n) in
      let f = run_from pool y (at + n) (y.runs + left) in
      let count = max y.runs n + left in
      ext_get_or no_run changed (laid pool at f count) (length-set pool (at + i) _ ∙ sym (length_laid pool at f count))
      (λ p _. elim (dec_lt p at) [
        | yes a ↦ out_run p (λ z. omega arith) ∙ sym (laid_out pool at f count p no_run (λ j g z. omega arith))
        | no a ↦
            let e : at + (p - at) ≡ p = omega arith in
            elim (dec_lt p (at + n)) [
              | yes b ↦ rw e at (own_run (p - at) (omega arith) ∙ run_own pool y (at + n) (y.runs + left) (p - at) (omega arith) ∙ sym (laid_in pool at f count (p - at) no_run (omega arith) (omega arith)))
              | no b ↦
                  elim (dec_lt p (at + n + left)) [
                    | yes d ↦
                        let g : at + n + (p - at - y.runs) ≡ p = omega arith in
                        rw e at
                        (ap (λ (z : ℕ). get_or changed z no_run) e ∙ out_run p (λ z. omega arith) ∙ ap (λ (z : ℕ). get_or pool z no_run) (sym g)
                        ∙ run_behind pool y (at + n) (y.runs + left) (p - at) (omega arith) (omega arith)
                        ∙ sym (laid_in pool at f count (p - at) no_run (omega arith) (omega arith)))
                    | no d ↦ out_run p (λ z. omega arith) ∙ sym (laid_out pool at f count p no_run (λ j g z. omega arith))
                  ]
            ]
      ])

-- ---- the run that was found
pub record Placed (e : Edit) (hs : List Head) (pool : List Run) (table : Table) (t at : ℕ) (q : Resize) (k one : ℕ) : Type 0 where
  pub two : 1 ≤ k + one
  pub there : k + one - 1 < runs_in hs t
  pub suits : Suits e (tank_in hs pool table t) (k + one - 1)
  pub within : Within e (get_or hs t no_head) q
  pub at_is : at ≡ runs_below hs t
  pub place : at + runs_in hs t ≤ 512
  pub short : q.less ≤ (get_or pool (at + (k + one - 1)) no_run).len
  pub long : (get_or pool (at + (k + one - 1)) no_run).len ≤ (get_or hs t no_head).length
  pub lesser : q.less ≤ (get_or hs t no_head).length
  pub larger : (get_or hs t no_head).length + q.more ≤ largest

module _ (hs : List Head) (pool : List Run) (table : Table) (t : ℕ) (sound : state.Sound (tank_in hs pool table t)) where
  pub tank_sums : (get_or hs t no_head).length ≡ sums (lens_in hs pool t) (runs_in hs t)
  unfolding tank_in
  tank_sums = sound.formed.laid.sum ∙ total_sums (lens_in hs pool t) (sets_in hs pool t) (runs_in hs t)

  pub tank_small : (get_or hs t no_head).length < 2 ^ 63
  unfolding tank_in
  tank_small = sound.formed.laid.small

  pub tank_few : (get_or hs t no_head).marks ≤ 64
  unfolding tank_in
  tank_few = sound.formed.laid.few

  -- its set
  pub set_of_lem : {at i : ℕ} → at ≡ runs_below hs t → i < runs_in hs t → get_or (sets_in hs pool t) i 0 ≡ (get_or pool (at + i) no_run).set
  set_of_lem {at} {i} e h = array_at hs pool t (λ (r : Run). r.set) refl i h ∙ ap (λ (z : ℕ). (get_or pool (z + i) no_run).set) (sym e)

  pub set_small : {at i : ℕ} → at ≡ runs_below hs t → i < runs_in hs t → (get_or pool (at + i) no_run).set < 2 ^ (get_or hs t no_head).marks
  unfolding tank_in
  set_small {at} {i} e h = subst (λ (z : ℕ). z < 2 ^ (get_or hs t no_head).marks) (set_of_lem e h) (run_inside sound i h)

  -- its length
  pub len_of : {at i : ℕ} → at ≡ runs_below hs t → i < runs_in hs t → (get_or pool (at + i) no_run).len ≡ get_or (lens_in hs pool t) i 0
  len_of {at} {i} e h = ap (λ (z : ℕ). (get_or pool (z + i) no_run).len) e ∙ sym (array_at hs pool t (λ (r : Run). r.len) refl i h)

  pub found : {at k from to here next one : ℕ} (e : Edit) (q : Resize) → at ≡ runs_below hs t → at + runs_in hs t ≤ 512 → Walked (lens_in hs pool t) (runs_in hs t) k from to → Resizes e (get_or hs t no_head) q
      → q.to ≤ to → here ≡ (get_or pool (at + k - 1) no_run).set → next ≡ (get_or pool (min (at + k) 511) no_run).set → (Fits q from to) × (Which q to here next one)
      → Placed e hs pool table t at q k one
  unfolding tank_in
  found {at} {k} {from} {to} {here} {next} {one} e q i p w r g a b c =
      let x : Tank = tank_in hs pool table t in
      let u = r.is in
      let m = within_bounds e (get_or hs t no_head) q (omega (arith, tank_small)) r.reach u in
      let y : 0 < k → here ≡ get_or x.sets (k - 1) 0 = λ z. a ∙ ap (λ (j : ℕ). (get_or pool j no_run).set) (omega arith) ∙ sym (set_of_lem i (omega (arith, w.most))) in
      let v : k < x.runs → next ≡ get_or x.sets k 0 = λ z. b ∙ ap (λ (j : ℕ). (get_or pool j no_run).set) (omega arith) ∙ sym (set_of_lem i z) in
      let d = chosen x sound w q (get_or hs t no_head) refl y v c.0 c.1 (asked_some e (get_or hs t no_head) q u) g e u in
      let l = len_of i d.1 in
      record {
        two = d.0;
        there = d.1;
        suits = d.2;
        within = u;
        at_is = i;
        place = p;
        short = omega (arith, l, suits_less e x (k + one - 1) (get_or hs t no_head) q u d.2);
        long = omega (arith, l, tank_sums, sum_next (λ j. get_or (lens_in hs pool t) j 0) (k + one - 1) (runs_in hs t) d.1);
        lesser = m.0;
        larger = m.1;
      }

-- ---- so the parts that are left are what the edit leaves
module _ (s : Tanks) (t : ℕ) (e : Edit) (ok : Sound s) (h : t < 8) where
  abbrev pub Did : List Setting → List Head → List Run → Table → Type 0
  Did st hs pool table =
      (at k one : ℕ) (q : Resize) → Placed e hs pool table t at q k one → Resizes e (get_or hs t no_head) q → (r : Parting)
      → r.pool ≡ set pool (at + (k + one - 1)) (record { len = (get_or pool (at + (k + one - 1)) no_run).len - q.less + q.more; set = (get_or pool (at + (k + one - 1)) no_run).set })
      → r.table ≡ table
      → r.head ≡ record { touched = true; length = (get_or hs t no_head).length - q.less + q.more; runs = runs_in hs t; marks = (get_or hs t no_head).marks }
      → r.number ≡ 0
      → pick (take (get_or hs t no_head).marks table.marks) r.shown ≡ shown_by e (pick (take (get_or hs t no_head).marks table.marks) (get_or pool (at + (k + one - 1)) no_run).set)
      → r.first ≡ 0
      → DoneAt s t e (done_with s t r)

  pub did_own : Did s.settings s.heads s.pool (get_or s.tables t no_table)
  unfolding tank_of tank_in puts
  did_own at k one q p z r pool_is table_is head-is number_is shown-are first_is =
      let hs = s.heads in
      let pool = s.pool in
      let table = get_or s.tables t no_table in
      let x : Tank = tank_in hs pool table t in
      let own = taken s ok t x h refl in
      let i = k + one - 1 in
      let u = get_or x.lens i 0 - q.less + q.more in
      let v = (get_or pool (at + i) no_run).len - q.less + q.more in
      let n : v ≡ u = ap (λ (l : ℕ). l - q.less + q.more) (len_of hs pool table t own.sound p.at_is p.there) in
      let y : Tank = resized_tank x i u (x.length - q.less + q.more) in
      let did = within_performed x own.sound i p.there e (get_or hs t no_head) q refl refl z.reach p.within p.suits in
      let g : set pool (at + i) (record { len = v; set = (get_or pool (at + i) no_run).set }) ≡ pool_with pool (spots_of hs t y.runs) y =
      ap (λ (l : ℕ). set pool (at + i) (record { len = l; set = (get_or pool (at + i) no_run).set })) n
      ∙ ap (λ (b : ℕ). set pool (b + i) (record { len = u; set = (get_or pool (b + i) no_run).set })) p.at_is
      ∙ pool_resized hs pool t i u p.there (sum_next (runs_in hs) t 8 h) (sound_held s ok) ok.pool_512 (omega (arith, p.there, own.sound.within, own.sound.formed.laid.lens_514)) y refl refl refl in
      parts_done s t e ok h x (record { number = 0; styles = styles_of (shown_by e (pick (state.table_of x) (get_or x.sets i 0))); first = 0; tank = y }) did 0 (refl, same_verdict s ok t h e) r refl
      (pool_is ∙ g) table_is head-is number_is
      (ap styles_of shown-are ∙ ap (λ (b : ℕ). styles_of (shown_by e (pick (state.table_of x) b))) (sym (set_of_lem hs pool table t own.sound p.at_is p.there))) first_is
