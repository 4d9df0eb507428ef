-- A test of the sets over a range, run by run where they stand in the pool; and with the party's bits it is a test of the marks that are shown.
use Prim.Native.Nat.{ℕ, zero, suc, ◌+◌, ◌≤◌, ◌<◌, ◌^◌, max}
use mathlib.Core.Path.{◌≡◌, refl, sym, ap, ◌∙◌, fun_ext}
use mathlib.Core.Bool.{Bool, true, false, ◌&&◌, and-eq-true_iff}
use mathlib.Core.List.{List, ◌∷◌, map}
use native.Mathlib.Omega.{arith}
use native.Mathlib.Decide.{dec_lt}
use borrow.Author.Tests.{lt-ltb, ltb-true}
use lib.Dec.{ltb, eqb}
use lib.Bits.{bit_and, and_le_r}
use lib.ListN.{length, get_or, take, drop, get_or-map}
use lib.Pow.{pow_mono}
use lib.Seq.{get_or-drop}
use Rattle.styles.specs.declared.Mark.{Mark}
use Rattle.styles.specs.declared.Party.{Party}
use Rattle.styles.specs.declared.Value.{Value}
use Rattle.styles.specs.Bits.{MaskOf, top_in}
use Rattle.styles.specs.Marks.{key_is, value_is, is_of, has_key, shows_value, same_marks, blank}
use Rattle.styles.proofs.Built.{mask_of}
use Rattle.styles.proofs.Digits.{and_digit, digits_ext}
use Rattle.styles.proofs.MaskLaws.{has_key_bits, shows_bits_lem, mask_less}
use Rattle.styles.proofs.SameLaws.{same_pick}
use Rattle.styles.proofs.Unique.{mask_only}
use Rattle.runs.specs.Positions.{any_at}
use Rattle.runs.specs.Runs as runs
use Rattle.runs.specs.Scan.{meets, shows}
use Rattle.runs.proofs.ExtentLaws.{canon_front}
use Rattle.runs.proofs.Laws.{total_sums, total_mono}
use Rattle.runs.proofs.ScanLaws.{any_yes, any_no, at_run, second_fails}
use Rattle.runs.proofs.SumLaws.{sum_same}
use Rattle.tank.specs.Rules.{alike}
use Rattle.tank.proofs.Unique.{table_length}
use Rattle.tanks.specs.declared.Head.{Head}
use Rattle.tanks.specs.declared.Run.{Run}
use Rattle.tanks.specs.declared.Table.{Table}
use Rattle.tanks.specs.Pool.{no_run, no_head, runs_in, runs_below, lens_in, sets_in, tank_in}
use Rattle.tanks.specs.Looks.{run_list, CanWalk, Within, Stands, shown_in, alike_by}
use Rattle.tanks.proofs.LookLaws.{len_from, Walked, seen_marks, seen_small, few_in, sorted_in}
use Rattle.tanks.proofs.SliceLaws.{array_at}

-- ---- the runs from a place of the pool on
abbrev lens_from : List Run → ℕ → List ℕ
lens_from pool at = map (λ (r : Run). r.len) (drop at pool)

abbrev sets_from : List Run → ℕ → List ℕ
sets_from pool at = map (λ (r : Run). r.set) (drop at pool)

-- n of them, the last first
abbrev pub runs_from : List Run → ℕ → ℕ → List runs.Run
runs_from pool at n = runs.runs (lens_from pool at) (sets_from pool at) n

len_from_lem : (pool : List Run) (at k : ℕ) → get_or (lens_from pool at) k 0 ≡ len_from pool at k
len_from_lem pool at k = get_or-map (λ (r : Run). r.len) (drop at pool) k no_run ∙ ap (λ (r : Run). r.len) (get_or-drop at pool k no_run)

set_from : (pool : List Run) (at k : ℕ) → get_or (sets_from pool at) k 0 ≡ (get_or pool (at + k) no_run).set
set_from pool at k = get_or-map (λ (r : Run). r.set) (drop at pool) k no_run ∙ ap (λ (r : Run). r.set) (get_or-drop at pool k no_run)

runs_same : (lens sets lens' sets' : List ℕ) (n : ℕ) → ((k : ℕ) → k < n → get_or lens k 0 ≡ get_or lens' k 0) → ((k : ℕ) → k < n → get_or sets k 0 ≡ get_or sets' k 0)
    → runs.runs lens sets n ≡ runs.runs lens' sets' n
unfolding runs.runs
runs_same lens sets lens' sets' zero f g = refl
runs_same lens sets lens' sets' (suc n) f g =
    λ i. runs.run (f n (omega arith) i) (g n (omega arith) i) ∷ runs_same lens sets lens' sets' n (λ k h. f k (omega arith)) (λ k h. g k (omega arith)) i

module _ (hs : List Head) (pool : List Run) (t : ℕ) {at : ℕ} (e : at ≡ runs_below hs t) where
  -- of a tank's first place they are the tank's
  pub from_in : runs_from pool at (runs_in hs t) ≡ run_list hs pool t
  from_in =
      runs_same (lens_from pool at) (sets_from pool at) (lens_in hs pool t) (sets_in hs pool t) (runs_in hs t)
      (λ k h. len_from_lem pool at k ∙ ap (λ (x : ℕ). len_from pool x k) e ∙ sym (array_at hs pool t (λ r. r.len) refl k h))
      (λ k h. set_from pool at k ∙ ap (λ (x : ℕ). (get_or pool (x + k) no_run).set) e ∙ sym (array_at hs pool t (λ r. r.set) refl k h))

  pub any_from : (test : ℕ → Bool) (from to : ℕ)
      → any_at (λ p. test (runs.set_at (runs_from pool at (runs_in hs t)) p)) from to ≡ any_at (λ p. test (runs.set_at (run_list hs pool t) p)) from to
  any_from test from to = ap (λ (rs : List runs.Run). any_at (λ p. test (runs.set_at rs p)) from to) from_in

  -- none is empty
  pub some_from : CanWalk hs pool t → (k : ℕ) → k < runs_in hs t → 0 < len_from pool at k
  unfolding runs.runs runs.Canon
  some_from can k h =
      let some = (canon_front (lens_in hs pool t) (sets_in hs pool t) (suc k) (runs_in hs t) h can.canon).0 in
      omega (arith, some, ap (λ (x : ℕ). len_from pool x k) e, array_at hs pool t (λ r. r.len) refl k h)

-- ---- a test over a range
begun_from : {pool : List Run} {at n i end : ℕ} → Walked pool at n i end → runs.total (runs_from pool at i) ≡ end
begun_from {pool} {at} {n} {i} w =
    total_sums (lens_from pool at) (sets_from pool at) i
    ∙ sum_same (λ k. get_or (lens_from pool at) k 0) (len_from pool at) i (λ k h. len_from_lem pool at k)
    ∙ sym w.begun

-- no position of those passed, from `from` on, passes the test
abbrev pub Missed : (ℕ → Bool) → List Run → ℕ → ℕ → ℕ → ℕ → Type 0
Missed test pool at n from end = (p : ℕ) → from ≤ p → p < end → test (runs.set_at (runs_from pool at n) p) ≡ false

module _ {pool : List Run} {at n i end : ℕ} (w : Walked pool at n i end) where
  -- the positions of the next run have its set
  pub on_run : i < n → (p : ℕ) → end ≤ p → p < end + len_from pool at i → runs.set_at (runs_from pool at n) p ≡ (get_or pool (at + i) no_run).set
  on_run h p a b =
      let t = begun_from w in
      at_run (lens_from pool at) (sets_from pool at) n i p h (omega arith) (omega (arith, len_from_lem pool at i)) ∙ set_from pool at i

  -- all runs are passed
  pub walked_all : n ≤ i → end ≡ runs.total (runs_from pool at n)
  walked_all h =
      let a = w.within in
      let e : i ≡ n = omega arith in
      sym (begun_from w) ∙ ap (λ (x : ℕ). runs.total (runs_from pool at x)) e

  pub walked_within : end ≤ runs.total (runs_from pool at n)
  walked_within = omega (arith, begun_from w, total_mono (lens_from pool at) (sets_from pool at) i n w.within)

  module _ (test : ℕ → Bool) (from : ℕ) where
    -- a turn
    pub missed_on : i < n → Missed test pool at n from end → (ltb from (end + len_from pool at i) && test (get_or pool (at + i) no_run).set) ≡ false
        → Missed test pool at n from (end + len_from pool at i)
    missed_on h m e p a b =
        elim (dec_lt p end) [
          | yes g ↦ m p a g
          | no g ↦
              ap test (on_run h p (omega arith) b)
              ∙ second_fails (ltb from (end + len_from pool at i)) (test (get_or pool (at + i) no_run).set) (lt-ltb from (end + len_from pool at i) (omega arith)) e
        ]

    pub met : (to : ℕ) → i < n → from < to → end < to → 0 < len_from pool at i → (ltb from (end + len_from pool at i) && test (get_or pool (at + i) no_run).set) ≡ true
        → any_at (λ p. test (runs.set_at (runs_from pool at n) p)) from to ≡ true
    met to h a b some e =
        let k = (and-eq-true_iff (ltb from (end + len_from pool at i)) (test (get_or pool (at + i) no_run).set)).0 e in
        let l = ltb-true from (end + len_from pool at i) k.0 in
        any_yes (λ p. test (runs.set_at (runs_from pool at n) p)) from to (max from end) (omega arith) (omega arith)
        (ap test (on_run h (max from end) (omega arith) (omega arith)) ∙ k.1)

    pub missed_all : (to : ℕ) → Missed test pool at n from end → to ≤ end → any_at (λ p. test (runs.set_at (runs_from pool at n) p)) from to ≡ false
    missed_all to m h = any_no (λ p. test (runs.set_at (runs_from pool at n) p)) from to (λ p a b. m p a (omega arith))

-- ---- the marks that a party is shown, by masks
and_assoc : (a b c : ℕ) → bit_and a (bit_and b c) ≡ bit_and (bit_and a b) c
and_assoc a b c = digits_ext _ _ (λ i. omega (arith, and_digit a (bit_and b c) i, and_digit b c i, and_digit (bit_and a b) c i, and_digit a b i))

module _ {hs : List Head} {pool : List Run} {table : Table} {t : ℕ} (ok : Stands hs pool table t) (who : Party) {own : ℕ}
    (m : MaskOf (is_of who) (take (get_or hs t no_head).marks table.marks) own) where
  abbrev marks : List Mark
  marks = take (get_or hs t no_head).marks table.marks

  marks_long : length (take (get_or hs t no_head).marks table.marks) ≡ (get_or hs t no_head).marks
  unfolding tank_in
  marks_long = table_length ok.formed.laid

  -- the party's bits at a position are within the table
  seen_less : (p : ℕ) → bit_and (runs.set_at (run_list hs pool t) p) own < 2 ^ length (take (get_or hs t no_head).marks table.marks)
  seen_less p = rw marks_long (seen_small ok own p)

  -- a position has one with the key where it has a bit that is the party's and the key's
  pub key_seen : (key : ℕ) {mask : ℕ} (p : ℕ) → MaskOf (key_is key) (take (get_or hs t no_head).marks table.marks) mask
      → meets (bit_and own mask) (runs.set_at (run_list hs pool t) p) ≡ has_key key ((shown_in hs pool table t who).at p)
  key_seen key {mask} p k =
      let s : ℕ = runs.set_at (run_list hs pool t) p in
      ap (ltb 0) (and_assoc s own mask)
      ∙ ap (λ (x : ℕ). meets x (bit_and s own)) (mask_only (key_is key) marks mask k)
      ∙ sym (has_key_bits marks (bit_and s own) key blank)
      ∙ ap (has_key key) (seen_marks hs pool table t who own p m)

  key_small : (key s : ℕ) → bit_and s (mask_of (key_is key) marks) < 2 ^ 64
  key_small key s =
      let few = few_in ok in
      omega (
        arith,
        and_le_r s (mask_of (key_is key) marks),
        mask_less (key_is key) marks,
        pow_mono {i = length marks} {j = 64} (omega (arith, marks_long)),
      )

  -- it shows a value where the highest of such bits is one of the value's
  pub value_seen : (key : ℕ) (w : Value) {first second : ℕ} (p : ℕ) → MaskOf (key_is key) (take (get_or hs t no_head).marks table.marks) first
      → MaskOf (value_is w) (take (get_or hs t no_head).marks table.marks) second
      → shows (bit_and own first) second (runs.set_at (run_list hs pool t) p) ≡ shows_value key w ((shown_in hs pool table t who).at p)
  value_seen key w {first} {second} p k v =
      let s : ℕ = runs.set_at (run_list hs pool t) p in
      ap (λ (x : ℕ). top_in 64 x second) (and_assoc s own first)
      ∙ (λ i. shows (mask_only (key_is key) marks first k i) (mask_only (value_is w) marks second v i) (bit_and s own))
      ∙ shows_bits_lem marks (bit_and s own) key w blank 64 (sorted_in ok) (key_small key (bit_and s own))
      ∙ ap (shows_value key w) (seen_marks hs pool table t who own p m)

  -- two positions show the same marks where they have the same of the party's bits
  pub same_seen : (p q : ℕ)
      → same_marks ((shown_in hs pool table t who).at p) ((shown_in hs pool table t who).at q) ≡ eqb (bit_and (runs.set_at (run_list hs pool t) p) own) (bit_and (runs.set_at (run_list hs pool t) q) own)
  same_seen p q =
      (λ i. same_marks (sym (seen_marks hs pool table t who own p m) i) (sym (seen_marks hs pool table t who own q m) i))
      ∙ same_pick marks _ _ (sorted_in ok) (seen_less p) (seen_less q)

-- ---- over a range
module _ {hs : List Head} {pool : List Run} {table : Table} {t : ℕ} (ok : Stands hs pool table t) where
  -- a range within the length is one over the runs
  pub within_in : {from to : ℕ} → from < to → to ≤ (get_or hs t no_head).length → Within hs pool t from to
  unfolding tank_in
  within_in h g = record { some = h; reach = omega (arith, g, ok.formed.laid.sum) }

  -- the length is how many positions the runs have
  pub total_in : runs.total (run_list hs pool t) ≡ (get_or hs t no_head).length
  unfolding tank_in
  total_in = sym ok.formed.laid.sum

  -- the party is shown the same marks at neighbours where they have the same of its bits
  pub alike_seen : (who : Party) {own : ℕ} → MaskOf (is_of who) (take (get_or hs t no_head).marks table.marks) own → alike_by own (run_list hs pool t) ≡ alike (shown_in hs pool table t who).at
  alike_seen who m = fun_ext (λ p. sym (same_seen ok who m p (suc p)))
