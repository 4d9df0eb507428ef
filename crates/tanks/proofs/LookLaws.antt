-- A walk over a tank's runs where they stand in the pool sees what the tank taken out has; and the bits of a party leave its marks.
use Prim.Native.Nat.{ℕ, zero, suc, ◌+◌, ◌-◌, ◌≤◌, ◌<◌, ◌^◌}
use mathlib.Core.Path.{◌≡◌, refl, sym, ap, ◌∙◌}
use mathlib.Core.Bool.{true, false, cond}
use mathlib.Core.List.{List}
use native.Mathlib.Omega.{arith}
use native.Mathlib.Decide.{dec_lt}
use native.Mathlib.Numerals.{add-one}
use borrow.Author.Tests.{lt-ltb, le-ltb}
use lib.Dec.{ltb}
use lib.Bits.{bit_and, and_le_l, and_zero_l}
use lib.ListN.{get_or, take}
use Rattle.styles.specs.declared.Mark.{Mark}
use Rattle.styles.specs.declared.Party.{Party}
use Rattle.styles.specs.Bits.{pick, MaskOf}
use Rattle.styles.specs.Marks.{Sorted, is_of, of_party}
use Rattle.styles.proofs.MaskLaws.{pick_mask}
use Rattle.styles.proofs.UnionLaws.{pick_none}
use Rattle.styles.proofs.Unique.{mask_only}
use Rattle.runs.specs.Positions.{sum_below}
use Rattle.runs.specs.Runs.{runs, set_at, Canon, sums, Found}
use Rattle.runs.specs.Scan.{common_at}
use Rattle.runs.proofs.ExtentLaws.{canon_front}
use Rattle.runs.proofs.Laws.{total_sums, found_set, found_none}
use Rattle.runs.proofs.ScanLaws.{common_end, common_in, common_edge}
use Rattle.runs.proofs.SumLaws.{sum_more, sum_same, sum_up, sum_next}
use Rattle.tank.specs.Rules.{shown_to, for_insert}
use Rattle.tank.specs.State.{view}
use Rattle.tank.proofs.Counted.{at_inside}
use Rattle.tank.proofs.GrowLaws.{common_small, common_for_insert}
use Rattle.tank.proofs.PartyLaws.{answer_seen}
use Rattle.tank.proofs.Shape.{can_find}
use Rattle.tanks.specs.declared.Head.{Head}
use Rattle.tanks.specs.declared.Run.{Run}
use Rattle.tanks.specs.declared.Table.{Table}
use Rattle.tanks.specs.declared.Tanks.{Tanks}
use Rattle.tanks.specs.House.{shown_at}
use Rattle.tanks.specs.Pool.{no_run, no_head, no_table, runs_in, runs_below, lens_in, sets_in, tank_in, tank_of, meaning, Sound}
use Rattle.tanks.specs.Looks.{run_list, CanWalk, Stands, shown_in}
use Rattle.tanks.proofs.SliceLaws.{array_at}
use Rattle.tanks.proofs.SettingLaws.{sound_held}
use Rattle.tanks.proofs.MeaningLaws.{tank_at_lem}

-- the length of the k-th run from a place on
abbrev pub len_from : List Run → ℕ → ℕ → ℕ
len_from pool at k = (get_or pool (at + k) no_run).len

-- i of n runs from a place on are passed, and end where the next begins
pub record Walked (pool : List Run) (at n i end : ℕ) : Type 0 where
  pub within : i ≤ n
  pub inside : at + n ≤ 512
  pub small : sum_below (len_from pool at) n < 2 ^ 63
  pub begun : end ≡ sum_below (len_from pool at) i

module _ {pool : List Run} {at n i end : ℕ} (w : Walked pool at n i end) (h : i < n) where
  -- the next run's end fits
  pub walk_fits : end + len_from pool at i < 2 ^ 63
  walk_fits =
      let a = w.begun in
      let b = w.small in
      omega (arith, sum_more (len_from pool at) i, sum_up (len_from pool at) (i + 1) n (omega arith))

  -- a turn
  pub walk_on : Walked pool at n (i + 1) (end + len_from pool at i)
  walk_on =
      let a = w.begun in
      record { within = omega arith; inside = w.inside; small = w.small; begun = omega (arith, sum_more (len_from pool at) i) }

module _ (hs : List Head) (pool : List Run) (t : ℕ) where
  sums_in : (k : ℕ) → k ≤ runs_in hs t → sum_below (len_from pool (runs_below hs t)) k ≡ sums (lens_in hs pool t) k
  sums_in k h = sum_same (len_from pool (runs_below hs t)) (λ j. get_or (lens_in hs pool t) j 0) k (λ u g. sym (array_at hs pool t (λ r. r.len) refl u (omega arith)))

  pub walk_begins : {at : ℕ} → CanWalk hs pool t → at ≡ runs_below hs t → Walked pool at (runs_in hs t) 0 0
  unfolding sum_below
  walk_begins {at} can e =
      let n = runs_in hs t in
      let a = can.small in
      let b = can.room in
      record {
        within = omega arith;
        inside = omega (arith, sum_next (runs_in hs) t 8 can.inside);
        small =
            omega (
              arith,
              ap (λ (x : ℕ). sum_below (len_from pool x) n) e,
              sums_in n (omega arith),
              total_sums (lens_in hs pool t) (sets_in hs pool t) n,
            );
        begun = refl;
      }

  module _ {at i end : ℕ} (e : at ≡ runs_below hs t) (w : Walked pool at (runs_in hs t) i end) (pos : ℕ) (reached : end ≤ pos) where
    starts_in : end ≡ sums (lens_in hs pool t) i
    starts_in = w.begun ∙ ap (λ (x : ℕ). sum_below (len_from pool x) i) e ∙ sums_in i w.within

    -- the position is in the next run
    pub found_in : i < runs_in hs t → pos < end + len_from pool at i → Found (lens_in hs pool t) (runs_in hs t) pos i end (end + len_from pool at i)
    found_in h l =
        let len : len_from pool at i ≡ get_or (lens_in hs pool t) i 0 = ap (λ (x : ℕ). len_from pool x i) e ∙ sym (array_at hs pool t (λ r. r.len) refl i h) in
        record {
          within = w.within;
          starts = starts_in;
          reached = reached;
          inside = λ _. (l, ap (λ (x : ℕ). end + x) len);
          past = λ z. absurd (omega arith);
        }

    pub set_found : i < runs_in hs t → pos < end + len_from pool at i → (get_or pool (at + i) no_run).set ≡ set_at (run_list hs pool t) pos
    set_found h l =
        ap (λ (x : ℕ). (get_or pool (x + i) no_run).set) e
        ∙ sym (array_at hs pool t (λ r. r.set) refl i h)
        ∙ sym (found_set (lens_in hs pool t) (sets_in hs pool t) (runs_in hs t) pos i end _ (found_in h l) h)

    -- or past them all
    pub none_found : runs_in hs t ≤ i → 0 ≡ set_at (run_list hs pool t) pos
    none_found h =
        sym
        (found_none (lens_in hs pool t) (sets_in hs pool t) (runs_in hs t) pos i end end
        (record { within = w.within; starts = starts_in; reached = reached; inside = λ z. absurd (omega arith); past = λ _. refl }) h)

-- ---- what two neighbours have in common
-- the set of the run before the i-th, 0 for the first
unfoldable pub before : List ℕ → ℕ → ℕ
before sets zero = 0
before sets (suc i) = get_or sets i 0

module _ (lens sets : List ℕ) (n : ℕ) (canon : Canon (runs lens sets n)) (pos start end : ℕ) where
  some_len : (k : ℕ) → k < n → 0 < get_or lens k 0
  unfolding runs Canon
  some_len k h = (canon_front lens sets (suc k) n h canon).0

  edge : (i : ℕ) → Found lens n pos i start end → i < n → pos ≤ start → common_at (runs lens sets n) pos ≡ bit_and (before sets i) (get_or sets i 0)
  unfolding sum_below common_at before
  edge zero f h l =
      let a = f.starts in
      let z : pos ≡ 0 = omega arith in
      ap (common_at (runs lens sets n)) z ∙ sym (and_zero_l (get_or sets 0 0))
  edge (suc j) f h l =
      let a = f.starts in
      let b = f.reached in
      let some = some_len j (omega arith) in
      common_edge lens sets n pos (suc j) start end f h (λ z. omega arith)
      ∙ ap (λ (x : ℕ). bit_and x (get_or sets (suc j) 0))
      (found_set lens sets n (pos - 1) j (sums lens j) (sums lens j + get_or lens j 0)
      (record { within = omega arith; starts = refl; reached = omega arith; inside = λ _. (omega arith, refl); past = λ z. absurd (omega arith) }) (omega arith))

  common_walk : (i : ℕ) → Found lens n pos i start end → i < n → common_at (runs lens sets n) pos ≡ cond (ltb start pos) (get_or sets i 0) (bit_and (before sets i) (get_or sets i 0))
  common_walk i f h =
      elim (dec_lt start pos) [
        | yes l ↦ common_in lens sets n pos i start end f h l ∙ sym (simp (lt-ltb start pos l))
        | no l ↦ edge i f h (omega arith) ∙ sym (simp (le-ltb start pos (omega arith)))
      ]

-- the same in the pool
unfoldable pub set_before : List Run → ℕ → ℕ → ℕ
set_before pool at zero = 0
set_before pool at (suc i) = (get_or pool (at + i) no_run).set

pub set_next : (pool : List Run) (at i : ℕ) → (get_or pool (at + i) no_run).set ≡ set_before pool at (i + 1)
unfolding set_before
set_next pool at i = rw add-one

pub set_first : (pool : List Run) (at : ℕ) → 0 ≡ set_before pool at 0
unfolding set_before
set_first pool at = refl

module _ (hs : List Head) (pool : List Run) (t : ℕ) (can : CanWalk hs pool t) where
  before_in_lem : (i : ℕ) → i < runs_in hs t → set_before pool (runs_below hs t) i ≡ before (sets_in hs pool t) i
  unfolding set_before before
  before_in_lem zero h = refl
  before_in_lem (suc i) h = sym (array_at hs pool t (λ r. r.set) refl i (omega arith))

  module _ {at i end last : ℕ} (e : at ≡ runs_below hs t) (w : Walked pool at (runs_in hs t) i end) (b : last ≡ set_before pool at i) (pos : ℕ) (reached : end ≤ pos) where
    pub common_found : i < runs_in hs t → pos < end + len_from pool at i
        → cond (ltb end pos) (get_or pool (at + i) no_run).set (bit_and last (get_or pool (at + i) no_run).set) ≡ common_at (run_list hs pool t) pos
    common_found h l =
        let here = ap (λ (x : ℕ). (get_or pool (x + i) no_run).set) e ∙ sym (array_at hs pool t (λ r. r.set) refl i h) in
        let prior = b ∙ ap (λ (x : ℕ). set_before pool x i) e ∙ before_in_lem i h in
        (λ j. cond (ltb end pos) (here j) (bit_and (prior j) (here j)))
        ∙ sym (common_walk (lens_in hs pool t) (sets_in hs pool t) (runs_in hs t) can.canon pos end (end + len_from pool at i) i (found_in hs pool t e w pos reached h l) h)

    pub common_none : runs_in hs t ≤ i → 0 ≡ common_at (run_list hs pool t) pos
    common_none h =
        let within = w.within in
        let z : i ≡ runs_in hs t = omega arith in
        sym (common_end (run_list hs pool t) pos
        (omega (arith, starts_in hs pool t e w pos reached, ap (sums (lens_in hs pool t)) z, total_sums (lens_in hs pool t) (sets_in hs pool t) (runs_in hs t))))

-- ---- a party's marks by its bits
module _ {hs : List Head} {pool : List Run} {table : Table} {t : ℕ} (ok : Stands hs pool table t) where
  pub can_walk : CanWalk hs pool t
  unfolding tank_in
  can_walk = record { inside = ok.inside; room = ok.room; canon = ok.formed.laid.canon; small = (can_find ok.formed.laid).look.small }

  pub few_in : (get_or hs t no_head).marks ≤ 64
  unfolding tank_in
  few_in = ok.formed.laid.few

  pub sorted_in : Sorted (take (get_or hs t no_head).marks table.marks)
  unfolding tank_in
  sorted_in = ok.formed.laid.sorted

  pub seen_small : (own pos : ℕ) → bit_and (set_at (run_list hs pool t) pos) own < 2 ^ (get_or hs t no_head).marks
  unfolding tank_in
  seen_small own pos =
      omega (
        arith,
        and_le_l (set_at (run_list hs pool t) pos) own,
        at_inside (run_list hs pool t) (get_or hs t no_head).marks pos ok.formed.laid.inside,
      )

pub own_marks : (who : Party) (ms : List Mark) (own : ℕ) → MaskOf (is_of who) ms own → (s : ℕ) → pick ms (bit_and s own) ≡ of_party who (pick ms s)
own_marks who ms own m s = ap (λ (x : ℕ). pick ms (bit_and s x)) (mask_only (is_of who) ms own m) ∙ pick_mask (is_of who) ms s

pub seen_marks : (hs : List Head) (pool : List Run) (table : Table) (t : ℕ) (who : Party) (own pos : ℕ)
    → MaskOf (is_of who) (take (get_or hs t no_head).marks table.marks) own
    → pick (take (get_or hs t no_head).marks table.marks) (bit_and (set_at (run_list hs pool t) pos) own) ≡ (shown_in hs pool table t who).at pos
unfolding tank_in shown_to view
seen_marks hs pool table t who own pos m = own_marks who (take (get_or hs t no_head).marks table.marks) own m (set_at (run_list hs pool t) pos)

-- ---- what an insertion would get
module _ {hs : List Head} {pool : List Run} {table : Table} {t : ℕ} (ok : Stands hs pool table t) (who : Party) (pos : ℕ) where
  pub insert_marks : (own : ℕ) → pos ≤ (get_or hs t no_head).length → (get_or hs t no_head).touched ≡ true
      → MaskOf (is_of who) (take (get_or hs t no_head).marks table.marks) own
      → pick (take (get_or hs t no_head).marks table.marks) (bit_and (common_at (run_list hs pool t) pos) own) ≡ for_insert pos (shown_in hs pool table t who)
  unfolding tank_in
  insert_marks own fits e m =
      own_marks who (take (get_or hs t no_head).marks table.marks) own m (common_at (run_list hs pool t) pos)
      ∙ ap (of_party who) (common_for_insert ok.formed.laid pos fits e)
      ∙ answer_seen who pos (view (tank_in hs pool table t))

  pub insert_small : (own : ℕ) → bit_and (common_at (run_list hs pool t) pos) own < 2 ^ (get_or hs t no_head).marks
  unfolding tank_in
  insert_small own = omega (arith, and_le_l (common_at (run_list hs pool t) pos) own, common_small ok.formed.laid pos)

  pub insert_none : (get_or hs t no_head).touched ≡ false → pick (take (get_or hs t no_head).marks table.marks) 0 ≡ for_insert pos (shown_in hs pool table t who)
  unfolding tank_in for_insert shown_to view
  insert_none e = pick_none (take (get_or hs t no_head).marks table.marks) ∙ sym (simp e)

-- ---- the parts of a state
module _ (s : Tanks) (t : ℕ) (h : t < 8) {table : Table} (e : table ≡ get_or s.tables t no_table) where
  pub stands_in : Sound s → Stands s.heads s.pool table t
  unfolding tank_of
  stands_in ok = rw e (record { inside = h; room = sound_held s ok; formed = ok.each t h })

  pub shown_there : (who : Party) → shown_in s.heads s.pool table t who ≡ shown_at (meaning s) who t
  unfolding tank_of
  shown_there who = rw e (ap (shown_to who) (sym (tank_at_lem s t h)))

pub shown_length : (hs : List Head) (pool : List Run) (table : Table) (t : ℕ) (who : Party) → (shown_in hs pool table t who).length ≡ (get_or hs t no_head).length
unfolding tank_in shown_to view
shown_length hs pool table t who = refl
