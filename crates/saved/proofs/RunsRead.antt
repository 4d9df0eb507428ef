-- The lines of runs as the code reads them, run after run.
use Rattle.std.specs.Prelude.{Option, Some, None, Result, Ok, Err}
use mathlib.Core.Path.{◌≡◌, refl, sym, ap, ap₂, ◌∙◌}
use mathlib.Core.Bool.{true, false, not}
use Rattle.std.specs.Option.{option_eq}
use mathlib.Core.List.{List, [], ◌∷◌}
use Prim.Native.Nat.{ℕ, zero, suc, ◌+◌, ◌-◌, ◌*◌, ◌^◌, ◌≤◌, ◌<◌, min}
use native.Mathlib.Omega.{arith}
use native.Mathlib.Numerals.{add-one}
use lib.Bits.{bit_or}
use lib.Dec.{eqb}
use lib.ListN.{length, set, drop, replicate, length-set}
use lib.Seq.{get_or-set_same, get_or-set_other}
use Rattle.text.specs.Bytes.{bytes}
use Rattle.text_lines.specs.Lines.{Got, bad, got, then, provided, hex_line, decimal_from, hex_from, taken_by, got_by}
use Rattle.text_lines.proofs.Laws.{taken_is, taken_inside}
use Rattle.runs.specs.Runs.{Run, run, runs, total, Spare}
use Rattle.runs.specs.Gather.{gather}
use Rattle.tank.proofs.Shape.{all_spare}
use Rattle.saved.specs.declared.ReadRuns.{ReadRuns}
use Rattle.saved.specs.Saying.{set_before, other_than, run_lines, runs_lines}
use Rattle.saved.specs.Reads.{got_run, got_runs, ReadsRun, ReadsRuns}

-- ---- a set is another than the one before it
pub other_is : (before : Option ℕ) (set : ℕ) → not (option_eq eqb (Some set) before) ≡ other_than set before
other_is None set = refl
other_is (Some x) set = refl

-- ---- one run
module _ (before : Option ℕ) (most : ℕ) (text : List ℕ) (from n : ℕ) where
  rest : ℕ → ℕ → ℕ → List ℕ → Got Run
  rest len set m x = provided (other_than set before) (run len set) m x

  more : ℕ → ℕ → List ℕ → Got Run
  more len m x = then (hex_line (bytes "set=") 0 most m x) (rest len)

  len_read : (r : Option (ℕ × ℕ)) → r ≡ taken_by (bytes "len=") (decimal_from 1 (2 ^ 64 - 1)) text from → run_lines most before n (drop from text) ≡ then (got_by text n r) more
  unfolding run_lines more rest
  len_read r e = ap (λ (g : Got ℕ). then g more) (sym (taken_is (bytes "len=") (decimal_from 1 (2 ^ 64 - 1)) text from n) ∙ ap (got_by text n) (sym e))

  pub len_wrong : None ≡ taken_by (bytes "len=") (decimal_from 1 (2 ^ 64 - 1)) text from → ReadsRun before most text from n (Err (n + 1))
  len_wrong e = record { is = sym (len_read None e); inside = omega arith; counted = omega arith }

  module _ (len next : ℕ) (e : Some (len, next) ≡ taken_by (bytes "len=") (decimal_from 1 (2 ^ 64 - 1)) text from) where
    set_read : (r : Option (ℕ × ℕ)) → r ≡ taken_by (bytes "set=") (hex_from 0 most) text next → run_lines most before n (drop from text) ≡ then (got_by text (n + 1) r) (rest len)
    unfolding more
    set_read r f =
        len_read (Some (len, next)) e
        ∙ ap (λ (g : Got ℕ). then g (rest len)) (sym (taken_is (bytes "set=") (hex_from 0 most) text next (n + 1)) ∙ ap (got_by text (n + 1)) (sym f))

    two : n + 2 ≡ n + 1 + 1
    two = omega arith

    pub set_wrong : None ≡ taken_by (bytes "set=") (hex_from 0 most) text next → ReadsRun before most text from n (Err (n + 2))
    set_wrong f = record { is = ap bad two ∙ sym (set_read None f); inside = omega arith; counted = omega arith }

    module _ (set last : ℕ) (f : Some (set, last) ≡ taken_by (bytes "set=") (hex_from 0 most) text next) where
      pub same_wrong : other_than set before ≡ false → ReadsRun before most text from n (Err (n + 2))
      unfolding rest
      same_wrong h = record { is = ap bad two ∙ sym (set_read (Some (set, last)) f ∙ rw h); inside = omega arith; counted = omega arith }

      pub run_read : other_than set before ≡ true → ReadsRun before most text from n (Ok (len, set, last))
      unfolding rest
      run_read h = record {
        is = ap (λ (m : ℕ). got (run len set) m (drop last text)) two ∙ sym (set_read (Some (set, last)) f ∙ rw h);
        inside = taken_inside (bytes "set=") (hex_from 0 most) text next set last (sym f);
        counted = omega arith;
      }

-- ---- a run stored behind the others
runs_kept : (lens sets : List ℕ) (j k l s : ℕ) → k ≤ j → runs (set lens j l) (set sets j s) k ≡ runs lens sets k
unfolding runs
runs_kept lens sets j zero l s h = refl
runs_kept lens sets j (suc k) l s h =
    let a = get_or-set_other lens j k l 0 (λ e. omega arith) in
    let b = get_or-set_other sets j k s 0 (λ e. omega arith) in
    let r = runs_kept lens sets j k l s (omega arith) in
    λ i. run (a i) (b i) ∷ r i

pub runs_more : (lens sets : List ℕ) (j l s : ℕ) → j < length lens → j < length sets → runs (set lens j l) (set sets j s) (suc j) ≡ run l s ∷ runs lens sets j
unfolding runs
runs_more lens sets j l s h g =
    let a = get_or-set_same lens j l 0 h in
    let b = get_or-set_same sets j s 0 g in
    let r = runs_kept lens sets j j l s (omega arith) in
    λ i. run (a i) (b i) ∷ r i

spare_more : (lens sets : List ℕ) (j l s : ℕ) → Spare lens sets j → Spare (set lens j l) (set sets j s) (suc j)
unfolding Spare
spare_more lens sets j l s h i g =
    let z = h i (omega arith) in
    (get_or-set_other lens j i l 0 (λ e. omega arith) ∙ z.0, get_or-set_other sets j i s 0 (λ e. omega arith) ∙ z.1)

spare_from : (k n : ℕ) → Spare (replicate k 0) (replicate k 0) n
unfolding Spare
spare_from k n i h = all_spare k i (omega arith)

-- ---- the loop: j runs are read, and the rest is to come
pub record Underway (most : ℕ) (text : List ℕ) (from n count : ℕ) (lens sets : List ℕ) (at : ℕ) (before : Option ℕ) (sum all j : ℕ) : Type 0 where
  pub few : j ≤ count
  pub lens_514 : length lens ≡ 514
  pub sets_514 : length sets ≡ 514
  pub inside : at ≤ length text
  pub spare : Spare lens sets j
  pub last : before ≡ set_before (runs lens sets j)
  pub sum_is : sum ≡ min (2 ^ 63) (total (runs lens sets j))
  pub all_is : all ≡ gather (runs lens sets j)
  pub is : runs_lines most [] count n (drop from text) ≡ runs_lines most (runs lens sets j) (count - j) (n + 2 * j) (drop at text)

pub underway_none : (most : ℕ) (text : List ℕ) (from n count : ℕ) → from ≤ length text → Underway most text from n count (replicate 514 0) (replicate 514 0) from None 0 0 0
unfolding runs total gather
underway_none most text from n count h =
    let a : count ≡ count - 0 = omega arith in
    let b : n ≡ n + 2 * 0 = omega arith in
    record {
      few = omega arith;
      lens_514 = refl;
      sets_514 = refl;
      inside = h;
      spare = all_spare 514;
      last = refl;
      sum_is = omega arith;
      all_is = refl;
      is = ap₂ (λ (k m : ℕ). runs_lines most [] k m (drop from text)) a b;
    }

pub runs_bad : (text : List ℕ) (n count : ℕ) (r : ReadRuns) (line : ℕ) → 1 ≤ line → got_runs text n count r line ≡ bad line
runs_bad text n count r zero h = absurd (omega arith)
runs_bad text n count r (suc k) h = refl

module _ (most : ℕ) (text : List ℕ) (from n count : ℕ) (lens sets : List ℕ) (at : ℕ) (before : Option ℕ) (sum all j : ℕ) (u : Underway most text from n count lens sets at before sum all j) (few : count ≤ 512) (h : j < count) where
  after_run : (r : Result (ℕ × ℕ × ℕ) ℕ) → ReadsRun before most text at (n + 2 * j) r
      → runs_lines most [] count n (drop from text) ≡ then (got_run text (n + 2 * j) r) λ r m x. runs_lines most (r ∷ runs lens sets j) (count - suc j) m x
  unfolding runs_lines
  after_run r p =
      let k : count - j ≡ suc (count - suc j) = omega arith in
      u.is
      ∙ ap (λ (i : ℕ). runs_lines most (runs lens sets j) i (n + 2 * j) (drop at text)) k
      ∙ ap (λ (g : Got Run). then g λ r m x. runs_lines most (r ∷ runs lens sets j) (count - suc j) m x)
      (ap (λ (o : Option ℕ). run_lines most o (n + 2 * j) (drop at text)) (sym u.last) ∙ sym p.is)

  pub run_wrong : (line : ℕ) → ReadsRun before most text at (n + 2 * j) (Err line)
      → ReadsRuns most text from n count (record { line = line; at = 0; sum = 0; all = 0; lens = replicate 514 0; sets = replicate 514 0 })
  run_wrong line p = record {
    is = runs_bad text (n + 2 * count) count (record { line = line; at = 0; sum = 0; all = 0; lens = replicate 514 0; sets = replicate 514 0 }) line p.counted ∙ sym (after_run (Err line) p);
    inside = omega arith;
    sum = λ e. absurd (omega (arith, p.counted));
    all = λ e. absurd (omega (arith, p.counted));
    spare = spare_from 514 count;
    lens_514 = refl;
    sets_514 = refl;
  }

  pub run_more : (len s next : ℕ) → ReadsRun before most text at (n + 2 * j) (Ok (len, s, next))
      → Underway most text from n count (set lens j len) (set sets j s) next (Some s) (min (2 ^ 63) (sum + len)) (bit_or s all) (j + 1)
  unfolding total gather
  run_more len s next p =
      let new : runs (set lens j len) (set sets j s) (j + 1) ≡ run len s ∷ runs lens sets j = rw (add-one j) (runs_more lens sets j len s (omega (arith, u.lens_514)) (omega (arith, u.sets_514))) in
      let m : n + 2 * j + 2 ≡ n + 2 * (j + 1) = omega arith in
      let c : count - suc j ≡ count - (j + 1) = omega arith in
      record {
        few = omega arith;
        lens_514 = length-set lens j len ∙ u.lens_514;
        sets_514 = length-set sets j s ∙ u.sets_514;
        inside = p.inside;
        spare = rw (add-one j) (spare_more lens sets j len s u.spare);
        last = rw new refl;
        sum_is = rw new (omega (arith, u.sum_is));
        all_is = rw new (ap (bit_or s) u.all_is);
        is = after_run (Ok (len, s, next)) p ∙ rw new (ap₂ (λ (k i : ℕ). runs_lines most (run len s ∷ runs lens sets j) k i (drop next text)) c m);
      }

pub runs_done : (most : ℕ) (text : List ℕ) (from n count : ℕ) (lens sets : List ℕ) (at : ℕ) (before : Option ℕ) (sum all j : ℕ) → Underway most text from n count lens sets at before sum all j → count ≤ j
    → ReadsRuns most text from n count (record { line = 0; at = at; sum = sum; all = all; lens = lens; sets = sets })
unfolding runs_lines
runs_done most text from n count lens sets at before sum all j u h =
    let e : j ≡ count = omega (arith, u.few) in
    let z : count - count ≡ 0 = omega arith in
    record {
      is = sym (u.is ∙ ap (λ (i : ℕ). runs_lines most (runs lens sets i) (count - i) (n + 2 * i) (drop at text)) e ∙ ap (λ (k : ℕ). runs_lines most (runs lens sets count) k (n + 2 * count) (drop at text)) z);
      inside = u.inside;
      sum = λ q. rw e at u.sum_is;
      all = λ q. rw e at u.all_is;
      spare = rw e at u.spare;
      lens_514 = u.lens_514;
      sets_514 = u.sets_514;
    }
