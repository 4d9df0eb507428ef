-- A walk over a tank's runs where they stand comes to exactly its anchors: where it begins, how it goes on, and what is made ahead of its turn.
use Prim.Native.Nat.{ℕ, zero, suc, ◌+◌, ◌-◌, ◌*◌, ◌≤◌, ◌<◌, ◌^◌, min}
use mathlib.Core.Path.{◌≡◌, refl, sym, ap, ap₂, subst, ◌∙◌}
use mathlib.Core.Bool.{Bool, cond}
use mathlib.Core.List.{List, [], ◌∷◌, ◌++◌, append_assoc, append-nil}
use native.Mathlib.Omega.{arith}
use native.Mathlib.Nat.{add-zero}
use native.Mathlib.Numerals.{add-one}
use native.Mathlib.Decide.{dec_lt}
use lib.Bits.{and_le_r}
use lib.Count.{count_trailing_zeros, ones}
use lib.ListN.{length, get_or, set, take, drop, length-set, length-take, length-append, drop_of_length-le}
use lib.Pow.{pow_mono, pow_pos}
use lib.Seq.{length-take-le, take-suc-set, append_snoc, slice, slice-cons, slice_empty, drop-drop, get_or-drop}
use borrow.Author.Tests.{lt-leb, le-leb}
use Rattle.laws.proofs.Lists.{stored}
use Rattle.styles.specs.declared.Mark.{Mark}
use Rattle.styles.specs.declared.Party.{Party}
use Rattle.styles.specs.Bits.{pick, lacking_bits, without_bit, MaskOf}
use Rattle.styles.specs.Marks.{blank, is_of}
use Rattle.styles.proofs.CountLaws.{without_le, ones_none}
use Rattle.styles.proofs.UnionLaws.{pick_none}
use Rattle.runs.specs.Positions.{sum_below}
use Rattle.runs.proofs.SumLaws.{sum_more, sum_up}
use Rattle.richtext.specs.declared.AnchorType.TheVariants.{Start, End}
use Rattle.lists.specs.declared.Listed.{Listed}
use Rattle.lists.specs.declared.anchors.Anchor.{Anchor}
use Rattle.lists.specs.Lists.{list_refusal}
use Rattle.lists.specs.Anchors.{anchor_of, anchors_of, anchors, anchors_number, between, no_anchor}
use Rattle.lists.proofs.AnchorLaws.{between_same}
use Rattle.lists.proofs.CursorLaws.{first_taken}
use Rattle.lists.proofs.AnchorListLaws.{nth}
use Rattle.lists.proofs.ListLaws.{Handed}
use Rattle.tanks.specs.declared.Head.{Head}
use Rattle.tanks.specs.declared.Run.{Run}
use Rattle.tanks.specs.declared.Table.{Table}
use Rattle.tanks.specs.declared.Tanks.{Tanks}
use Rattle.tanks.specs.Promises.{place_of}
use Rattle.tanks.specs.House.{ask_number}
use Rattle.tanks.specs.Pool.{no_run, no_head, no_table, runs_in, runs_below, Sound}
use Rattle.tanks.specs.Looks.{Stands as StandsIn, shown_in}
use Rattle.tanks.proofs.LookLaws.{len_from, walk_begins, can_walk, few_in, stands_in, shown_there}
use Rattle.tanks.proofs.PartsLaws.{place_in, place_below}
use Rattle.ask.specs.declared.Spot.{Spot}
use Rattle.ask.specs.declared.records.Place.{Place}
use Rattle.ask.specs.declared.records.Walk.{Walk}
use Rattle.ask.specs.declared.records.Ahead.{Ahead}
use Rattle.ask.specs.Records.{len_at, bits_at, comes, records_of, Fits, PlacedIn, left_of, behind_of, rest_of, Walks, ready_of, come_from, Ready, Stands}
use Rattle.ask.proofs.AskLaws.{Says-asked, list_past}
use Rattle.ask.proofs.Borders.{bits_prior, changes_at, borders_to, marks_in, Trail, borders_all, between_count, lack_nothing, nothing_lacks, table_full, Tally, prior_first}

-- ---- how many they are
-- those where n runs begin, and those behind the last
abbrev pub changes_in : List Run → ℕ → ℕ → ℕ → ℕ
changes_in pool at own n = sum_below (changes_at pool at own) n + ones (bits_prior pool at own n)

module _ (ms : List Mark) (pool : List Run) (at own : ℕ) (small : own < 2 ^ length ms) where
  bits_in : (k : ℕ) → bits_at pool at own k < 2 ^ length ms
  bits_in k = omega (arith, and_le_r (get_or pool (at + k) no_run).set own)

  prior_in : (k : ℕ) → bits_prior pool at own k < 2 ^ length ms
  unfolding bits_prior
  prior_in zero = pow_pos (length ms)
  prior_in (suc k) = bits_in k

  borders_number : (i : ℕ) → length (borders_to ms pool at own i) ≡ sum_below (changes_at pool at own) i
  unfolding sum_below borders_to
  borders_number zero = refl
  borders_number (suc i) =
      let p = sum_below (len_from pool at) i in
      let x = bits_prior pool at own i in
      let y = bits_at pool at own i in
      omega (arith, length-append (borders_to ms pool at own i) (between ms p x y), borders_number i, between_count ms p x y (prior_in i) (bits_in i))

  borders_long : (n p : ℕ) → length (borders_to ms pool at own n ++ between ms p (bits_prior pool at own n) 0) ≡ changes_in pool at own n
  borders_long n p =
      let x = bits_prior pool at own n in
      omega (
        arith,
        borders_number n,
        length-append (borders_to ms pool at own n) (between ms p x 0),
        between_count ms p x 0 (prior_in n) (pow_pos (length ms)),
        ap ones (lack_nothing x),
        ap ones (nothing_lacks x),
        ones_none,
      )

-- ---- all that comes
module _ (ms : List Mark) (pool : List Run) (at own : ℕ) where
  -- behind the first i runs: those where they begin, and those that come, are those of all runs
  comes_front : (n i : ℕ) → borders_to ms pool at own i ++ comes ms pool at own n i (sum_below (len_from pool at) i) (bits_prior pool at own i)
      ≡ borders_to ms pool at own (i + n) ++ between ms (sum_below (len_from pool at) (i + n)) (bits_prior pool at own (i + n)) 0
  unfolding comes borders_to bits_prior sum_below
  comes_front zero i = rw (add-zero i)
  comes_front (suc n) i =
      let e : i + suc n ≡ suc i + n = omega arith in
      let p = sum_below (len_from pool at) i in
      let y = bits_at pool at own i in
      sym (append_assoc (borders_to ms pool at own i) (between ms p (bits_prior pool at own i) y) (comes ms pool at own n (suc i) (p + len_from pool at i) y))
      ∙ comes_front n (suc i)
      ∙ ap (λ (j : ℕ). borders_to ms pool at own j ++ between ms (sum_below (len_from pool at) j) (bits_prior pool at own j) 0) (sym e)

  comes_from : (n : ℕ) → comes ms pool at own n 0 0 0 ≡ borders_to ms pool at own n ++ between ms (sum_below (len_from pool at) n) (bits_prior pool at own n) 0
  unfolding borders_to bits_prior sum_below
  comes_from n =
      let e : 0 + n ≡ n = omega arith in
      comes_front n 0 ∙ ap (λ (j : ℕ). borders_to ms pool at own j ++ between ms (sum_below (len_from pool at) j) (bits_prior pool at own j) 0) e

  -- how many they are
  pub comes_count : own < 2 ^ length ms → (n : ℕ) → length (comes ms pool at own n 0 0 0) ≡ changes_in pool at own n
  comes_count small n = ap length (comes_from n) ∙ borders_long ms pool at own small n (sum_below (len_from pool at) n)

-- of a tank that stands there they are its anchors
pub comes_all : {hs : List Head} {pool : List Run} {table : Table} {t : ℕ} → StandsIn hs pool table t → (who : Party) {own : ℕ} → MaskOf (is_of who) (marks_in hs table t) own
    → {at : ℕ} → at ≡ runs_below hs t → comes table.marks pool at own (runs_in hs t) 0 0 0 ≡ anchors (shown_in hs pool table t who)
comes_all {hs} {pool} {table} {t} ok who {own} m {at} e =
    let n = runs_in hs t in
    let w = walk_begins hs pool t (can_walk ok) e in
    let trail : Trail pool at n own n (sum_below (len_from pool at) n) (bits_prior pool at own n) = record {
      walked = record { within = omega arith; inside = w.inside; small = w.small; begun = refl };
      prior = refl;
    } in
    comes_from table.marks pool at own n ∙ borders_all ok who m e trail (omega arith)

-- how many a place has
pub records_count : {p : Place} → Fits p → length (records_of p) ≡ changes_in p.pool p.from p.own p.runs
records_count {p} fits =
    let e = fits.table_64 in
    comes_count p.marks p.pool p.from p.own (rw e fits.bits_64) p.runs

-- the walk that counts them
pub tally_first : {p : Place} → Fits p → Tally p.pool p.from p.runs p.own 0 0 0
unfolding sum_below
tally_first {p} fits = record { within = omega arith; inside = fits.inside; prior = prior_first p.pool p.from p.own; sum = refl; few = omega arith }

pub tally_whole : {p : Place} → Fits p → {i last count more : ℕ} → Tally p.pool p.from p.runs p.own i last count → p.runs ≤ i → more ≡ ones last → count + more ≡ length (records_of p)
tally_whole {p} fits {i} {last} {count} {more} w h k =
    let within = w.within in
    let z : i ≡ p.runs = omega arith in
    omega (arith, w.sum, k, ap ones w.prior, ap (changes_in p.pool p.from p.own) z, records_count fits)

-- ---- a tank of a state
module _ (s : Tanks) (t u : ℕ) (place : u ≡ place_of t) (sound : Sound s) where
  pub place_stands : StandsIn s.heads s.pool (get_or s.tables u no_table) u
  place_stands = stands_in s u (omega (arith, place_below t)) refl sound

  pub placed_in : (who : Party) (own at : ℕ) → MaskOf (is_of who) (marks_in s.heads (get_or s.tables u no_table) u) own → at ≡ runs_below s.heads u
      → (p : Place) → p ≡ record { pool = s.pool; marks = (get_or s.tables u no_table).marks; from = at; runs = runs_in s.heads u; own = own } → PlacedIn s t who p
  placed_in who own at m e p is =
      let ok = place_stands in
      let w = walk_begins s.heads s.pool u (can_walk ok) e in
      let long = length-take-le (get_or s.heads u no_head).marks (get_or s.tables u no_table).marks (omega (arith, few_in ok, table_full ok)) in
      rw is
      (record {
        fits =
            record {
              inside = w.inside;
              small = w.small;
              table_64 = table_full ok;
              bits_64 = omega (arith, m.past, pow_mono {i = length (marks_in s.heads (get_or s.tables u no_table) u)} {j = 64} (omega (arith, long, few_in ok)));
            };
        all =
            λ h. comes_all ok who m e
            ∙ ap (λ (k : ℕ). anchors (shown_in s.heads s.pool (get_or s.tables k no_table) k who)) (place ∙ place_in t h)
            ∙ ap anchors (shown_there s t h refl who);
      })

-- ---- a walk
-- with nothing left of its boundary
none_left : (ms : List Mark) (w : Walk) → w.ends ≡ 0 → w.starts ≡ 0 → left_of ms w ≡ []
unfolding left_of anchors_of
none_left ms w a b = rw (a, b, pick_none ms)

module _ {p : Place} (fits : Fits p) where
  abbrev fresh : Walk
  fresh = record { passed = 0; end = 0; last = 0; at = 0; ends = 0; starts = 0 }

  pub fresh_walks : Walks p fresh
  unfolding sum_below
  fresh_walks = record { within = omega arith; begun = refl; last_64 = omega arith; ends_64 = omega arith; starts_64 = omega arith }

  pub fresh_rest : rest_of p fresh ≡ records_of p
  fresh_rest =
      let e : p.runs - 0 ≡ p.runs = omega arith in
      ap₂ (λ (xs : List Anchor) (n : ℕ). xs ++ comes p.marks p.pool p.from p.own n 0 0 0) (none_left p.marks fresh refl refl) e

  module _ {w : Walk} (k : Walks p w) where
    -- an end has its turn
    pub end_turn : (i : ℕ) → 0 < w.ends → i ≡ count_trailing_zeros 64 w.ends → (d : Walk)
        → d ≡ record { passed = w.passed; end = w.end; last = w.last; at = w.at; ends = without_bit i w.ends; starts = w.starts }
        → Walks p d × (rest_of p w ≡ anchor_of (w.at - 1) End (get_or p.marks i blank) ∷ rest_of p d)
    unfolding left_of anchors_of
    end_turn i h e d is =
        let l = k.ends_64 in
        rw is (
          record { within = k.within; begun = k.begun; last_64 = k.last_64; ends_64 = omega (arith, without_le i w.ends); starts_64 = k.starts_64 },
          ap (λ (l : List Mark). (anchors_of (w.at - 1) End l ++ anchors_of w.at Start (pick p.marks w.starts)) ++ behind_of p w) (first_taken p.marks w.ends i fits.table_64 k.ends_64 h e),
        )

    -- no end is left: a start has its turn
    pub start_turn : (i : ℕ) → w.ends ≡ 0 → 0 < w.starts → i ≡ count_trailing_zeros 64 w.starts → (d : Walk)
        → d ≡ record { passed = w.passed; end = w.end; last = w.last; at = w.at; ends = w.ends; starts = without_bit i w.starts }
        → Walks p d × (rest_of p w ≡ anchor_of w.at Start (get_or p.marks i blank) ∷ rest_of p d)
    unfolding left_of anchors_of
    start_turn i z h e d is =
        let l = k.starts_64 in
        let n = pick_none p.marks in
        rw (is, z, n) (
          record { within = k.within; begun = k.begun; last_64 = k.last_64; ends_64 = omega arith; starts_64 = omega (arith, without_le i w.starts) },
          ap (λ (l : List Mark). anchors_of w.at Start l ++ behind_of p w) (first_taken p.marks w.starts i fits.table_64 k.starts_64 h e),
        )

    -- the next run's end can be counted
    pub run_fits : w.passed < p.runs → w.end + len_at p.pool p.from w.passed < 2 ^ 63
    run_fits h =
        let a = k.begun in
        let b = fits.small in
        omega (arith, sum_more (len_at p.pool p.from) w.passed, sum_up (len_at p.pool p.from) (w.passed + 1) p.runs (omega arith))

    module _ (z : w.ends ≡ 0) (y : w.starts ≡ 0) where
      -- nothing is left: the boundary that the next run begins at
      pub run_turn : w.passed < p.runs → (d : Walk)
          → d ≡ record { passed = w.passed + 1; end = w.end + len_at p.pool p.from w.passed; last = bits_at p.pool p.from p.own w.passed; at = w.end; ends = lacking_bits w.last (bits_at p.pool p.from p.own w.passed); starts = lacking_bits (bits_at p.pool p.from p.own w.passed) w.last }
          → Walks p d × (rest_of p w ≡ rest_of p d)
      unfolding left_of comes
      run_turn h d is =
          let a = k.begun in
          let l = k.last_64 in
          let o = fits.bits_64 in
          let u = and_le_r (get_or p.pool (p.from + w.passed) no_run).set p.own in
          let e : p.runs - w.passed ≡ suc (p.runs - (w.passed + 1)) = omega arith in
          rw is (
            record {
              within = omega arith;
              begun = omega (arith, sum_more (len_at p.pool p.from) w.passed);
              last_64 = omega arith;
              ends_64 = omega arith;
              starts_64 = omega arith;
            },
            ap₂ (λ (xs : List Anchor) (n : ℕ). xs ++ comes p.marks p.pool p.from p.own n w.passed w.end w.last) (none_left p.marks w z y) e
                ∙ ap (λ (i : ℕ). between p.marks w.end w.last (bits_at p.pool p.from p.own w.passed) ++ comes p.marks p.pool p.from p.own (p.runs - (w.passed + 1)) i (w.end + len_at p.pool p.from w.passed) (bits_at p.pool p.from p.own w.passed)) (sym (add-one w.passed)),
          )

      module _ (h : p.runs ≤ w.passed) where
        none_behind : rest_of p w ≡ between p.marks w.end w.last 0
        unfolding comes
        none_behind =
            let e : p.runs - w.passed ≡ 0 = omega arith in
            ap₂ (λ (xs : List Anchor) (n : ℕ). xs ++ comes p.marks p.pool p.from p.own n w.passed w.end w.last) (none_left p.marks w z y) e

        -- the boundary behind the last run
        pub last_turn : (d : Walk) → d ≡ record { passed = w.passed; end = w.end; last = 0; at = w.end; ends = w.last; starts = 0 } → Walks p d × (rest_of p w ≡ rest_of p d)
        unfolding left_of comes
        last_turn d is =
            let e : p.runs - w.passed ≡ 0 = omega arith in
            let left : List Anchor = anchors_of (w.end - 1) End (pick p.marks w.last) ++ anchors_of w.end Start (pick p.marks 0) in
            rw is (
              record { within = k.within; begun = k.begun; last_64 = omega arith; ends_64 = k.last_64; starts_64 = omega arith },
              none_behind
                  ∙ ap₂ (λ (x y : ℕ). anchors_of (w.end - 1) End (pick p.marks x) ++ anchors_of w.end Start (pick p.marks y)) (lack_nothing w.last) (nothing_lacks w.last)
                  ∙ sym (append-nil left)
                  ∙ ap (λ (xs : List Anchor). left ++ xs) (sym (between_same p.marks w.end 0))
                  ∙ ap (λ (n : ℕ). left ++ comes p.marks p.pool p.from p.own n w.passed w.end 0) (sym e),
            )

        -- and nothing behind that
        pub no_turn : w.last ≡ 0 → rest_of p w ≡ []
        no_turn e = none_behind ∙ ap (λ (x : ℕ). between p.marks w.end x 0) e ∙ between_same p.marks w.end 0

-- ---- anchors made ahead
-- so many are made, and the walk that has made them stands where the rest comes from
pub record Filling (p : Place) (walk : Walk) (made : List Anchor) (count : ℕ) (w : Walk) : Type 0 where
  pub long : length made ≡ 16
  pub few : count ≤ 16
  pub walks : Walks p w
  pub same : take count made ++ rest_of p w ≡ rest_of p walk

pub fill_begins : {p : Place} {walk : Walk} (made : List Anchor) → length made ≡ 16 → Walks p walk → Filling p walk made 0 walk
fill_begins made e k = record { long = e; few = omega arith; walks = k; same = refl }

module _ {p : Place} {walk w d : Walk} {made : List Anchor} {count : ℕ} (f : Filling p walk made count w) where
  -- one more
  pub fill_more : {b : Anchor} (a : Anchor) → count < 16 → a ≡ b → Walks p d × (rest_of p w ≡ b ∷ rest_of p d) → Filling p walk (set made count a) (count + 1) d
  fill_more {b} a h e k =
      let l = f.long in
      record {
        long = length-set made count a ∙ l;
        few = omega arith;
        walks = k.0;
        same =
            rw add-one (ap (λ (xs : List Anchor). xs ++ rest_of p d) (take-suc-set made count a (omega arith)))
            ∙ append_snoc (take count made) a (rest_of p d)
            ∙ ap (λ (x : Anchor). take count made ++ x ∷ rest_of p d) e
            ∙ ap (λ (xs : List Anchor). take count made ++ xs) (sym k.1)
            ∙ f.same;
      }

  -- none more: the walk is a step on
  pub fill_on : Walks p d × (rest_of p w ≡ rest_of p d) → Filling p walk made count d
  fill_on k = record { long = f.long; few = f.few; walks = k.0; same = ap (λ (xs : List Anchor). take count made ++ xs) (sym k.1) ∙ f.same }

module _ {p : Place} {walk w : Walk} {made : List Anchor} {count : ℕ} (f : Filling p walk made count w) where
  abbrev filled : Ahead
  filled = record { made = made; next = 0; count = count; walk = w }

  -- all are made, or sixteen
  pub fill_ends : (count ≤ 0 → rest_of p w ≡ []) → (c : Ahead) → c ≡ filled → Stands p c × (come_from p c ≡ rest_of p walk)
  fill_ends over c e = rw e (record { ready = record { long = f.long; few = f.few; within = omega arith }; walks = f.walks; over = over }, f.same)

-- ---- it ends: each turn makes one, or passes a run, or the boundary behind the last
abbrev pub to_make : Place → ℕ → Walk → ℕ
to_make p count w = (16 - count) + 2 * (p.runs - w.passed) + min 1 w.last

module _ (p : Place) (count : ℕ) (w d : Walk) where
  pub less_made : count < 16 → d.passed ≡ w.passed → d.last ≡ w.last → to_make p (count + 1) d < to_make p count w
  less_made h a b = rw (a, b) (omega arith)

  pub less_run : w.passed < p.runs → d.passed ≡ w.passed + 1 → to_make p count d < to_make p count w
  less_run h a = rw a (omega arith)

  pub less_last : (w.last ≡ 0 → ⊥) → d.passed ≡ w.passed → d.last ≡ 0 → to_make p count d < to_make p count w
  less_last h a b = let some : 0 < w.last = elim (dec_lt 0 w.last) [ yes k ↦ k | no k ↦ absurd (h (omega arith)) ] in rw (a, b) (omega arith)

-- ---- whose turn it is
module _ {c : Ahead} (k : Ready c) where
  -- one that is made
  pub ready_one : c.next < c.count → ready_of c ≡ get_or c.made c.next no_anchor ∷ slice (suc c.next) c.count c.made
  ready_one h =
      let a = k.long in
      let b = k.few in
      slice-cons c.next c.count c.made no_anchor h (omega arith)

  pub ready_none : c.count ≤ c.next → ready_of c ≡ []
  ready_none h = drop_of_length-le (take c.count c.made) {i = c.next} (omega (arith, length-take c.count c.made))

  pub ready_is : c.next < c.count → get_or c.made c.next no_anchor ≡ get_or (ready_of c) 0 no_anchor
  ready_is h = sym (ap (λ (xs : List Anchor). get_or xs 0 no_anchor) (ready_one h))

  pub ready_past : c.count ≤ c.next → no_anchor ≡ get_or (ready_of c) 0 no_anchor
  ready_past h = sym (ap (λ (xs : List Anchor). get_or xs 0 no_anchor) (ready_none h))

module _ {p : Place} {c : Ahead} (s : Stands p c) where
  none_come : c.count ≤ c.next → come_from p c ≡ []
  none_come h = ap₂ (λ (xs ys : List Anchor). xs ++ ys) (ready_none s.ready h) (s.over h)

  one_comes : c.next < c.count → come_from p c ≡ get_or c.made c.next no_anchor ∷ (slice (suc c.next) c.count c.made ++ rest_of p c.walk)
  one_comes h = ap (λ (xs : List Anchor). xs ++ rest_of p c.walk) (ready_one s.ready h)

  -- what is ready comes first
  pub first_comes : get_or (ready_of c) 0 no_anchor ≡ get_or (come_from p c) 0 no_anchor
  first_comes = elim (dec_lt c.next c.count) [
    | yes h ↦ sym (ready_is s.ready h) ∙ sym (ap (λ (xs : List Anchor). get_or xs 0 no_anchor) (one_comes h))
    | no h ↦ sym (ready_past s.ready (omega arith)) ∙ sym (ap (λ (xs : List Anchor). get_or xs 0 no_anchor) (none_come (omega arith)))
  ]

  -- the next of those that are made
  pub turn_made : c.next + 1 < c.count → (d : Ahead) → d ≡ record { made = c.made; next = c.next + 1; count = c.count; walk = c.walk }
      → Stands p d × (come_from p d ≡ drop 1 (come_from p c))
  turn_made h d e =
      rw e (
        record { ready = record { long = s.ready.long; few = s.ready.few; within = omega (arith, s.ready.few) }; walks = s.walks; over = λ g. absurd (omega arith) },
        ap (λ (i : ℕ). slice i c.count c.made ++ rest_of p c.walk) (add-one c.next) ∙ sym (ap (drop 1) (one_comes (omega arith))),
      )

  -- the first of the next that are made
  pub turn_anew : c.count ≤ c.next + 1 → (d : Ahead) → Stands p d × (come_from p d ≡ rest_of p c.walk) → Stands p d × (come_from p d ≡ drop 1 (come_from p c))
  turn_anew h d k = (
    k.0,
    elim (dec_lt c.next c.count) [
      | yes g ↦
          let e : c.count ≡ suc c.next = omega arith in
          k.1 ∙ sym (ap (drop 1) (one_comes g) ∙ ap (λ (xs : List Anchor). xs ++ rest_of p c.walk) (ap (λ (i : ℕ). slice (suc c.next) i c.made) e ∙ slice_empty (suc c.next) c.made))
      | no g ↦ k.1 ∙ s.over (omega arith) ∙ sym (ap (drop 1) (none_come (omega arith)))
    ],
  )

-- ---- the walk that stores them
-- where it stands before turn j: the anchors from the j-th on come
pub record Standing (p : Place) (j : ℕ) (c : Ahead) : Type 0 where
  pub stands : Stands p c
  pub come : come_from p c ≡ drop j (records_of p)

pub stand_next : {p : Place} (j : ℕ) (c d : Ahead) → Standing p j c → Stands p d × (come_from p d ≡ drop 1 (come_from p c)) → Standing p (j + 1) d
stand_next {p} j c d s g =
    record {
      stands = g.0;
      come = g.1 ∙ ap (drop 1) s.come ∙ drop-drop 1 j (records_of p);
    }

pub stand_anchor : {p : Place} (j : ℕ) (c : Ahead) → Standing p j c → get_or (ready_of c) 0 no_anchor ≡ nth (records_of p) j
stand_anchor {p} j c s =
    first_comes s.stands
    ∙ ap (λ (l : List Anchor). get_or l 0 no_anchor) s.come
    ∙ get_or-drop j (records_of p) 0 no_anchor
    ∙ ap (nth (records_of p)) (add-zero j)

-- it is stored behind those before it
pub store_next : {p : Place} (j : ℕ) (c : Ahead) (zs ys : List Anchor) (a : Anchor) → Standing p j c → zs ≡ stored (nth (records_of p)) ys j → a ≡ get_or (ready_of c) 0 no_anchor
    → set zs j a ≡ stored (nth (records_of p)) ys (j + 1)
store_next {p} j c zs ys a s e f = rw add-one (ap₂ (λ (xs : List Anchor) (b : Anchor). set xs j b) e (f ∙ stand_anchor j c s))

-- ---- a tank's list, by its number
-- what `iter_anchors` is told by the one that stores
abbrev pub Said-listed : Place → ℕ → List Anchor → Listed → List Anchor → Type 0
Said-listed p n ys = Handed (list_refusal n (length ys) (length (records_of p))) (records_of p) ys

pub anchors_asked : (s : Tanks) (k : Spot) (n : ℕ) (p : Place) (ys zs : List Anchor) (r : Listed) → PlacedIn s k.tank k.who p → n ≡ ask_number k.tank → Said-listed p n ys r zs → Says-asked s k ys r zs
unfolding list_refusal
anchors_asked s spot n p ys zs r k e said =
    let t = spot.tank in
    elim (dec_lt t 8) [
      | yes h ↦
          let is : n ≡ 0 = e ∙ ap (λ (b : Bool). cond b 1 0) (lt-leb 8 t h) in
          let a : Said-listed p 0 ys r zs = subst (λ (m : ℕ). Said-listed p m ys r zs) is said in
          rw (lt-leb 8 t h) (subst (λ (xs : List Anchor). Handed (list_refusal 0 (length ys) (length xs)) xs ys r zs) (k.all h) a)
      | no h ↦
          let l : 8 ≤ t = omega arith in
          let is : n ≡ 1 = e ∙ ap (λ (b : Bool). cond b 1 0) (le-leb 8 t l) in
          let a : Said-listed p 1 ys r zs = subst (λ (m : ℕ). Said-listed p m ys r zs) is said in
          list_past s t spot.who (anchors_number (length ys)) anchors ys l a.0 a.1
    ]
