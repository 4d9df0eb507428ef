-- A walk over a tank's runs that keeps the bits of the run before, of a party's marks: the boundaries that the runs begin at, and the one behind the last,
-- have all the anchors that the party is shown.
use Prim.Native.Nat.{ℕ, zero, suc, ◌+◌, ◌-◌, ◌*◌, ◌≤◌, ◌<◌, ◌^◌}
use mathlib.Core.Path.{◌≡◌, refl, sym, ap, ap₂, ◌∙◌}
use mathlib.Core.List.{List, [], ◌++◌, append-nil}
use native.Mathlib.Omega.{arith}
use native.Mathlib.Numerals.{add-one}
use lib.Bits.{bit_and, and_zero_l, and_zero_r}
use lib.Count.{ones}
use lib.ListN.{length, get_or, take, length-append, length-map}
use lib.Pow.{pow_pos}
use Rattle.styles.specs.declared.Mark.{Mark}
use Rattle.styles.specs.declared.Party.{Party}
use Rattle.styles.specs.Bits.{pick, lacking_bits, MaskOf}
use Rattle.styles.specs.Marks.{is_of}
use Rattle.styles.proofs.CountLaws.{pick_length, ones_none}
use Rattle.styles.proofs.MaskLaws.{pick_short}
use Rattle.runs.specs.Positions.{sum_below}
use Rattle.runs.specs.Runs as runs
use Rattle.runs.proofs.Laws.{at_past}
use Rattle.runs.proofs.SumLaws.{sum_more}
use Rattle.richtext.specs.declared.AnchorType.TheVariants.{Start, End}
use Rattle.tank.proofs.Unique.{table_length}
use Rattle.lists.specs.declared.anchors.Anchor.{Anchor}
use Rattle.lists.specs.Anchors.{anchor_of, anchors_of, boundaries, anchors, between}
use Rattle.lists.proofs.AnchorLaws.{between_same, bits_before, ByBits, run_more, run_before, anchors_end}
use Rattle.tanks.specs.declared.Head.{Head}
use Rattle.tanks.specs.declared.Run.{Run}
use Rattle.tanks.specs.declared.Table.{Table}
use Rattle.tanks.specs.Pool.{no_run, no_head, runs_in, runs_below, tank_in}
use Rattle.tanks.specs.Looks.{run_list, Stands, shown_in}
use Rattle.tanks.proofs.LookLaws.{len_from, Walked, walk_begins, walk_on, can_walk, sorted_in, seen_marks, seen_small, shown_length}
use Rattle.tanks.proofs.RangeLaws.{from_in, some_from, on_run, walked_all, total_in}
use Rattle.tanks.proofs.ReachLaws.{bits_from}

-- ---- what the walk comes to
-- the bits of a mask that the k-th run from a place on has
abbrev pub bits_at : List Run → ℕ → ℕ → ℕ → ℕ
bits_at pool at own k = bit_and (get_or pool (at + k) no_run).set own

-- those of the run before it; before the first there is none
unfoldable pub bits_prior : List Run → ℕ → ℕ → ℕ → ℕ
bits_prior pool at own zero = 0
bits_prior pool at own (suc k) = bits_at pool at own k

pub prior_next : (pool : List Run) (at own k : ℕ) → bits_at pool at own k ≡ bits_prior pool at own (k + 1)
unfolding bits_prior
prior_next pool at own k = rw add-one

pub prior_first : (pool : List Run) (at own : ℕ) → 0 ≡ bits_prior pool at own 0
unfolding bits_prior
prior_first pool at own = refl

-- how many marks end or start where it begins
abbrev pub changes_at : List Run → ℕ → ℕ → ℕ → ℕ
changes_at pool at own k = ones (lacking_bits (bits_prior pool at own k) (bits_at pool at own k)) + ones (lacking_bits (bits_at pool at own k) (bits_prior pool at own k))

-- the anchors where the first i runs begin, over a table
unfoldable pub borders_to : List Mark → List Run → ℕ → ℕ → ℕ → List Anchor
borders_to ms pool at own zero = []
borders_to ms pool at own (suc i) = borders_to ms pool at own i ++ between ms (sum_below (len_from pool at) i) (bits_prior pool at own i) (bits_at pool at own i)

-- the marks of a tank's table
abbrev pub marks_in : List Head → Table → ℕ → List Mark
marks_in hs table t = take (get_or hs t no_head).marks table.marks

-- ---- it comes to all of them
module _ {hs : List Head} {pool : List Run} {table : Table} {t : ℕ} (ok : Stands hs pool table t) (who : Party) {own : ℕ}
    (m : MaskOf (is_of who) (marks_in hs table t) own) {at : ℕ} (e : at ≡ runs_below hs t) where
  -- a position carries the marks of its bits
  seen_by : ByBits (marks_in hs table t) (bits_from pool at (runs_in hs t) own) (shown_in hs pool table t who)
  seen_by =
      record {
        sorted = sorted_in ok;
        carried =
            λ p. sym (seen_marks hs pool table t who own p m)
            ∙ ap (λ (rs : List runs.Run). pick (marks_in hs table t) (bit_and (runs.set_at rs p) own)) (sym (from_in hs pool t e));
        none_past =
            λ p h. ap (λ (rs : List runs.Run). bit_and (runs.set_at rs p) own) (from_in hs pool t e)
            ∙ ap (λ (s : ℕ). bit_and s own) (at_past (run_list hs pool t) p (omega (arith, total_in ok, shown_length hs pool table t who)))
            ∙ and_zero_l own;
      }

  bits_small : (p : ℕ) → bits_from pool at (runs_in hs t) own p < 2 ^ (get_or hs t no_head).marks
  bits_small p = omega (arith, seen_small ok own p, ap (λ (rs : List runs.Run). bit_and (runs.set_at rs p) own) (from_in hs pool t e))

  walked_to : (i : ℕ) → i ≤ runs_in hs t → Walked pool at (runs_in hs t) i (sum_below (len_from pool at) i)
  walked_to i h =
      let w = walk_begins hs pool t (can_walk ok) e in
      record { within = h; inside = w.inside; small = w.small; begun = refl }

  module _ (i : ℕ) (h : i < runs_in hs t) where
    abbrev begun : ℕ
    begun = sum_below (len_from pool at) i

    long : 0 < len_from pool at i
    long = some_from hs pool t e (can_walk ok) i h

    bits_on : (p : ℕ) → sum_below (len_from pool at) i ≤ p → p < sum_below (len_from pool at) i + len_from pool at i → bits_from pool at (runs_in hs t) own p ≡ bits_at pool at own i
    bits_on p a b = ap (λ (s : ℕ). bit_and s own) (on_run (walked_to i (omega arith)) h p a b)

    pub at_small : bits_at pool at own i < 2 ^ (get_or hs t no_head).marks
    at_small = omega (arith, bits_small begun, bits_on begun (omega arith) (omega (arith, long)))

  prior_is : (i : ℕ) → i ≤ runs_in hs t → bits_prior pool at own i ≡ bits_before (bits_from pool at (runs_in hs t) own) (sum_below (len_from pool at) i)
  unfolding bits_prior sum_below
  prior_is zero h = refl
  prior_is (suc i) h = run_before seen_by (sum_below (len_from pool at) i) (len_from pool at i) (bits_at pool at own i) (long i (omega arith)) (bits_on i (omega arith))

  pub prior_small : (i : ℕ) → i ≤ runs_in hs t → bits_prior pool at own i < 2 ^ (get_or hs t no_head).marks
  unfolding bits_prior
  prior_small zero h = pow_pos (get_or hs t no_head).marks
  prior_small (suc i) h = at_small i (omega arith)

  borders_are : (i : ℕ) → i ≤ runs_in hs t → boundaries 0 (sum_below (len_from pool at) i) (shown_in hs pool table t who) ≡ borders_to (marks_in hs table t) pool at own i
  unfolding sum_below boundaries borders_to
  borders_are zero h = refl
  borders_are (suc i) h =
      let p = sum_below (len_from pool at) i in
      run_more seen_by p (len_from pool at i) (bits_at pool at own i) (long i (omega arith)) (bits_on i (omega arith))
      ∙ ap₂ (λ (xs : List Anchor) (s : ℕ). xs ++ between (marks_in hs table t) p s (bits_at pool at own i)) (borders_are i (omega arith)) (sym (prior_is i (omega arith)))

  pub all_borders : anchors (shown_in hs pool table t who)
      ≡ borders_to (marks_in hs table t) pool at own (runs_in hs t) ++ between (marks_in hs table t) (sum_below (len_from pool at) (runs_in hs t)) (bits_prior pool at own (runs_in hs t)) 0
  all_borders =
      let n = runs_in hs t in
      let l = sum_below (len_from pool at) n in
      anchors_end seen_by l
      (walked_all (walked_to n (omega arith)) (omega arith) ∙ ap runs.total (from_in hs pool t e) ∙ total_in ok ∙ sym (shown_length hs pool table t who))
      ∙ ap₂ (λ (xs : List Anchor) (s : ℕ). xs ++ between (marks_in hs table t) l s 0) (borders_are n (omega arith)) (sym (prior_is n (omega arith)))

-- ---- a walk that writes them, over the whole of a table: bits past the tank's marks are not in its sets
between_short : (n : ℕ) (ms : List Mark) (p x y : ℕ) → x < 2 ^ n → y < 2 ^ n → between ms p x y ≡ between (take n ms) p x y
between_short n ms p x y a b =
    ap₂ (λ (xs ys : List Mark). anchors_of (p - 1) End xs ++ anchors_of p Start ys) (pick_short n ms (lacking_bits x y) (omega arith)) (pick_short n ms (lacking_bits y x) (omega arith))

-- i of n runs are passed and end at `end`, behind the bits `last`
pub record Trail (pool : List Run) (at n own i end last : ℕ) : Type 0 where
  pub walked : Walked pool at n i end
  pub prior : last ≡ bits_prior pool at own i

pub trail_begins : {hs : List Head} {pool : List Run} {table : Table} {t at : ℕ} → Stands hs pool table t → at ≡ runs_below hs t → (own : ℕ) → Trail pool at (runs_in hs t) own 0 0 0
trail_begins {hs} {pool} {table} {t} {at} ok e own = record { walked = walk_begins hs pool t (can_walk ok) e; prior = prior_first pool at own }

module _ (ms : List Mark) {pool : List Run} {at n own i end last : ℕ} (w : Trail pool at n own i end last) where
  -- the next run's boundary
  pub borders_more : borders_to ms pool at own i ++ between ms end last (bits_at pool at own i) ≡ borders_to ms pool at own (i + 1)
  unfolding borders_to
  borders_more = rw add-one (ap₂ (λ (p x : ℕ). borders_to ms pool at own i ++ between ms p x (bits_at pool at own i)) w.walked.begun w.prior)

  -- a run with the same bits has none
  pub borders_same : bits_at pool at own i ≡ last → borders_to ms pool at own i ≡ borders_to ms pool at own (i + 1)
  borders_same e =
      sym (append-nil (borders_to ms pool at own i))
      ∙ ap (λ (xs : List Anchor). borders_to ms pool at own i ++ xs) (sym (between_same ms end last) ∙ ap (between ms end last) (sym e))
      ∙ borders_more

module _ {pool : List Run} {at n own i end last : ℕ} (w : Trail pool at n own i end last) (h : i < n) where
  pub trail_new : Trail pool at n own (i + 1) (end + len_from pool at i) (bits_at pool at own i)
  trail_new = record { walked = walk_on w.walked h; prior = prior_next pool at own i }

  pub trail_same : bits_at pool at own i ≡ last → Trail pool at n own (i + 1) (end + len_from pool at i) last
  trail_same e = record { walked = walk_on w.walked h; prior = sym e ∙ prior_next pool at own i }

pub borders_none : (ms : List Mark) (pool : List Run) (at own : ℕ) → [] ≡ borders_to ms pool at own 0
unfolding borders_to
borders_none ms pool at own = refl

pub table_full : {hs : List Head} {pool : List Run} {table : Table} {t : ℕ} → Stands hs pool table t → length table.marks ≡ 64
unfolding tank_in
table_full ok = ok.formed.laid.table_64

module _ {hs : List Head} {pool : List Run} {table : Table} {t : ℕ} (ok : Stands hs pool table t) (who : Party) {own : ℕ}
    (m : MaskOf (is_of who) (marks_in hs table t) own) {at : ℕ} (e : at ≡ runs_below hs t) where
  whole_table : (i : ℕ) → i ≤ runs_in hs t → borders_to table.marks pool at own i ≡ borders_to (marks_in hs table t) pool at own i
  unfolding borders_to
  whole_table zero h = refl
  whole_table (suc i) h =
      ap₂ (λ (xs ys : List Anchor). xs ++ ys) (whole_table i (omega arith))
      (between_short (get_or hs t no_head).marks table.marks (sum_below (len_from pool at) i) (bits_prior pool at own i) (bits_at pool at own i) (prior_small ok who m e i (omega arith)) (at_small ok who m e i (omega arith)))

  pub borders_all : {i end last : ℕ} → Trail pool at (runs_in hs t) own i end last → runs_in hs t ≤ i
      → borders_to table.marks pool at own i ++ between table.marks end last 0 ≡ anchors (shown_in hs pool table t who)
  borders_all {i} {end} {last} w h =
      let within = w.walked.within in
      let z : i ≡ runs_in hs t = omega arith in
      let n = runs_in hs t in
      ap₂ (λ (p x : ℕ). borders_to table.marks pool at own i ++ between table.marks p x 0) w.walked.begun w.prior
      ∙ ap (λ (j : ℕ). borders_to table.marks pool at own j ++ between table.marks (sum_below (len_from pool at) j) (bits_prior pool at own j) 0) z
      ∙ ap₂ (λ (xs ys : List Anchor). xs ++ ys) (whole_table n (omega arith))
      (between_short (get_or hs t no_head).marks table.marks (sum_below (len_from pool at) n) (bits_prior pool at own n) 0 (prior_small ok who m e n (omega arith)) (pow_pos (get_or hs t no_head).marks))
      ∙ sym (all_borders ok who m e)

-- ---- how many they are
module _ (ms : List Mark) (p x y : ℕ) where
  between_length : length (between ms p x y) ≡ length (pick ms (lacking_bits x y)) + length (pick ms (lacking_bits y x))
  unfolding anchors_of
  between_length =
      length-append (anchors_of (p - 1) End (pick ms (lacking_bits x y))) (anchors_of p Start (pick ms (lacking_bits y x)))
      ∙ ap₂ (λ (a b : ℕ). a + b) (length-map (pick ms (lacking_bits x y)) (anchor_of (p - 1) End)) (length-map (pick ms (lacking_bits y x)) (anchor_of p Start))

  pub between_count : x < 2 ^ length ms → y < 2 ^ length ms → length (between ms p x y) ≡ ones (lacking_bits x y) + ones (lacking_bits y x)
  between_count a b = omega (arith, between_length, pick_length ms (lacking_bits x y) (omega arith), pick_length ms (lacking_bits y x) (omega arith))

pub lack_nothing : (x : ℕ) → lacking_bits x 0 ≡ x
lack_nothing x = omega (arith, and_zero_r x)

pub nothing_lacks : (x : ℕ) → lacking_bits 0 x ≡ 0
nothing_lacks x = omega arith

module _ {hs : List Head} {pool : List Run} {table : Table} {t : ℕ} (ok : Stands hs pool table t) (who : Party) {own : ℕ}
    (m : MaskOf (is_of who) (marks_in hs table t) own) {at : ℕ} (e : at ≡ runs_below hs t) where
  table_long : length (marks_in hs table t) ≡ (get_or hs t no_head).marks
  unfolding tank_in
  table_long = table_length ok.formed.laid

  borders_count : (i : ℕ) → i ≤ runs_in hs t → length (borders_to (marks_in hs table t) pool at own i) ≡ sum_below (changes_at pool at own) i
  unfolding sum_below borders_to
  borders_count zero h = refl
  borders_count (suc i) h =
      let p = sum_below (len_from pool at) i in
      let x = bits_prior pool at own i in
      let y = bits_at pool at own i in
      omega (
        arith,
        length-append (borders_to (marks_in hs table t) pool at own i) (between (marks_in hs table t) p x y),
        borders_count i (omega arith),
        between_count (marks_in hs table t) p x y (rw table_long (prior_small ok who m e i (omega arith))) (rw table_long (at_small ok who m e i (omega arith))),
      )

  pub all_count : sum_below (changes_at pool at own) (runs_in hs t) + ones (bits_prior pool at own (runs_in hs t)) ≡ length (anchors (shown_in hs pool table t who))
  all_count =
      let n = runs_in hs t in
      let p = sum_below (len_from pool at) n in
      let x = bits_prior pool at own n in
      omega (
        arith,
        borders_count n (omega arith),
        ap length (all_borders ok who m e),
        length-append (borders_to (marks_in hs table t) pool at own n) (between (marks_in hs table t) p x 0),
        between_count (marks_in hs table t) p x 0 (rw table_long (prior_small ok who m e n (omega arith))) (rw table_long (pow_pos (get_or hs t no_head).marks)),
        ap ones (lack_nothing x),
        ap ones (nothing_lacks x),
        ones_none,
      )

-- ---- a walk that counts
-- of n runs i are passed, behind the bits `last`, with so many changes
pub record Tally (pool : List Run) (at n own i last count : ℕ) : Type 0 where
  pub within : i ≤ n
  pub inside : at + n ≤ 512
  pub prior : last ≡ bits_prior pool at own i
  pub sum : count ≡ sum_below (changes_at pool at own) i
  pub few : count ≤ 128 * i

pub tally_begins : {hs : List Head} {pool : List Run} {table : Table} {t at : ℕ} → Stands hs pool table t → at ≡ runs_below hs t → (own : ℕ) → Tally pool at (runs_in hs t) own 0 0 0
unfolding sum_below
tally_begins {hs} {pool} {table} {t} {at} ok e own =
    record {
      within = omega arith;
      inside = (walk_begins hs pool t (can_walk ok) e).inside;
      prior = prior_first pool at own;
      sum = refl;
      few = omega arith;
    }

pub tally_on : {pool : List Run} {at n own i last count more : ℕ} → Tally pool at n own i last count → i < n
    → (more ≡ ones (lacking_bits last (bits_at pool at own i)) + ones (lacking_bits (bits_at pool at own i) last)) × (more ≤ 128)
    → Tally pool at n own (i + 1) (bits_at pool at own i) (count + more)
tally_on {pool} {at} {n} {own} {i} {last} {count} {more} w h k =
    let a = w.few in
    record {
      within = omega arith;
      inside = w.inside;
      prior = prior_next pool at own i;
      sum =
          omega (
            arith,
            w.sum,
            k.0,
            sum_more (changes_at pool at own) i,
            ap (λ (x : ℕ). ones (lacking_bits x (bits_at pool at own i)) + ones (lacking_bits (bits_at pool at own i) x)) w.prior,
          );
      few = omega (arith, k.1);
    }

pub tally_all : {hs : List Head} {pool : List Run} {table : Table} {t : ℕ} → Stands hs pool table t → (who : Party) {own : ℕ} → MaskOf (is_of who) (marks_in hs table t) own
    → {at i last count more : ℕ} → at ≡ runs_below hs t → Tally pool at (runs_in hs t) own i last count → runs_in hs t ≤ i → more ≡ ones last
    → count + more ≡ length (anchors (shown_in hs pool table t who))
tally_all {hs} {pool} {table} {t} ok who {own} m {at} {i} {last} {count} {more} e w h k =
    let within = w.within in
    let z : i ≡ runs_in hs t = omega arith in
    omega (
      arith,
      w.sum,
      k,
      ap ones w.prior,
      ap (λ (j : ℕ). sum_below (changes_at pool at own) j + ones (bits_prior pool at own j)) z,
      all_count ok who m e,
    )
