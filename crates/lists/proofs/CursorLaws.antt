-- A cursor runs through exactly the anchors: where it starts, how it goes to the next boundary, and what a step hands over.
use Prim.Native.Nat.{ℕ, zero, suc, ◌+◌, ◌-◌, ◌*◌, ◌/◌, ◌≤◌, ◌<◌, ◌^◌}
use mathlib.Core.Path.{◌≡◌, refl, sym, ap, ap₂, ◌∙◌}
use mathlib.Core.List.{List, [], ◌∷◌, ◌++◌}
use native.Mathlib.Omega.{arith}
use native.Mathlib.Decide.{dec_lt}
use lib.Count.{ones, ones_step, count_trailing_zeros}
use lib.ListN.{length, get_or, length-append, length-map}
use lib.Pow.{pow_pos}
use lib.Seq.{get_or-take}
use Rattle.styles.specs.declared.Mark.{Mark}
use Rattle.styles.specs.Marks.{blank}
use Rattle.styles.specs.Bits.{pick, lacking_bits, without_bit}
use Rattle.styles.proofs.BitLaws.{half_less}
use Rattle.styles.proofs.CountLaws.{pick_length, pick_first, lowest_less, without_le}
use Rattle.styles.proofs.UnionLaws.{pick_none}
use Rattle.runs.specs.Runs.{runs, total}
use Rattle.tank.specs.declared.Tank.{Tank}
use Rattle.lists.specs.declared.anchors.Anchor.{Anchor}
use Rattle.lists.specs.declared.anchors.AnchorCursor.{AnchorCursor}
use Rattle.richtext.specs.declared.AnchorType.TheVariants.{Start, End}
use Rattle.std.specs.Prelude.{None, Some}
use Rattle.tank.specs.State.{table_of, view, Laid}
use Rattle.lists.specs.Anchors.{anchor_of, anchors_of, boundaries, anchors, left_at, later_than, rest, Stands, Steps, Follows, Settles}
use Rattle.tank.proofs.Unique.{table_length}
use Rattle.lists.proofs.AnchorLaws.{set_in_lem, run_some, next_at, run_fits, to_next, differs, at_first}

-- ---- cursors that stand
-- at the boundary before run k, behind a set x
abbrev new_at : Tank → ℕ → ℕ → ℕ → AnchorCursor
new_at t k p x = record { index = k; at = p; ends = lacking_bits x (get_or t.sets k 0); starts = lacking_bits (get_or t.sets k 0) x }

boundary_stands : {t : Tank} → Laid t → (k p x : ℕ) → k ≤ t.runs → p ≡ total (runs t.lens t.sets k) → x < 2 ^ t.marks → (p ≡ 0 → x ≡ 0)
    → Stands t (new_at t k p x)
boundary_stands f k p x h e l z =
    let g = set_in_lem f k p h e in
    record { within = h; at_is = e; ends_in = omega arith; starts_in = omega arith; none_before = λ q. let y = z q in omega arith }

-- with fewer bits left
fewer_stands : {t : Tank} {d : AnchorCursor} → Stands t d → (u v : ℕ) → u ≤ d.ends → v ≤ d.starts
    → Stands t (record { index = d.index; at = d.at; ends = u; starts = v })
fewer_stands s u v a b =
    let k = s.ends_in in
    let l = s.starts_in in
    record { within = s.within; at_is = s.at_is; ends_in = omega arith; starts_in = omega arith; none_before = λ q. let y = s.none_before q in omega arith }

-- ---- the cursor before the first anchor
module _ {t : Tank} (f : Laid t) where
  first_stands : Stands t (new_at t 0 0 0)
  unfolding runs total
  first_stands = boundary_stands f 0 0 0 (omega arith) refl (pow_pos t.marks) (λ _. refl)

  first_rest : rest t (new_at t 0 0 0) ≡ anchors (view t)
  unfolding left_at later_than anchors boundaries view
  first_rest =
      let e : t.length - 0 ≡ t.length = omega arith in
      ap₂ (λ (xs : List Anchor) n. xs ++ boundaries 1 n (view t)) (sym (at_first f)) e

  pub first_is : (c : AnchorCursor) → c ≡ new_at t 0 0 0 → Stands t c × (rest t c ≡ anchors (view t)) × (c.index ≡ 0)
  first_is c e = rw e (first_stands, first_rest, refl)

-- ---- the next boundary
module _ {t : Tank} (f : Laid t) (c : AnchorCursor) (s : Stands t c) (h : c.index < t.runs) where
  pub next_fits : c.at + get_or t.lens c.index 0 ≤ t.length
  next_fits = run_fits f c.index c.at h s.at_is

  pub follows : (d : AnchorCursor) → d ≡ new_at t (c.index + 1) (c.at + get_or t.lens c.index 0) (get_or t.sets c.index 0) → Follows t c d
  unfolding left_at later_than
  follows d e =
      rw e
      (record {
        stands =
            boundary_stands f (c.index + 1) _ _ (omega arith) (next_at f c.index c.at h s.at_is) (set_in_lem f c.index c.at (omega arith) s.at_is)
            (λ q. absurd (omega (arith, run_some f c.index c.at h s.at_is)));
        next = refl;
        later = to_next f c.index c.at h s.at_is;
        some = differs f c.index c.at h s.at_is;
      })

-- ---- a cursor with nothing left
none_left : (t : Tank) (c : AnchorCursor) → c.ends ≡ 0 → c.starts ≡ 0 → left_at t c ≡ []
unfolding left_at anchors_of
none_left t c a b = rw (a, b, pick_none (table_of t))

-- behind the last boundary nothing comes
pub none_later : {t : Tank} → Laid t → (c : AnchorCursor) → Stands t c → c.index ≡ t.runs → later_than t c ≡ []
unfolding later_than boundaries
none_later {t} f c s e =
    let z : t.length - c.at ≡ 0 = omega (arith, f.sum, s.at_is, ap (λ n. total (runs t.lens t.sets n)) e) in
    rw z

none_rest : {t : Tank} → Laid t → (c : AnchorCursor) → Stands t c → c.index ≡ t.runs → c.ends ≡ 0 → c.starts ≡ 0 → rest t c ≡ []
none_rest {t} f c s e a b = rw (none_left t c a b, none_later f c s e)

module _ {t : Tank} (f : Laid t) (c : AnchorCursor) (s : Stands t c) where
  pub settles_here : 0 < c.ends + c.starts → Settles t c c
  settles_here h = record { stands = s; same = refl; over = λ a b. absurd (omega arith) }

  pub settles_end : c.index ≡ t.runs → Settles t c c
  settles_end e = record { stands = s; same = refl; over = none_rest f c s e }

  pub settles_next : c.ends ≡ 0 → c.starts ≡ 0 → (d : AnchorCursor) → Follows t c d → Settles t c d
  settles_next a b d g =
      record {
        stands = g.stands;
        same = rw (none_left t c a b) g.later;
        over =
            λ x y.
            elim (dec_lt d.index t.runs) [
              | yes k ↦ absurd (g.some k x y)
              | no k ↦ let w = g.stands.within in none_rest f d g.stands (omega arith) x y
            ];
      }

-- ---- a step
-- a set that counts none is empty
ones_some : (n s : ℕ) → s < 2 ^ n → ones s ≡ 0 → s ≡ 0
ones_some zero s h e = omega arith
ones_some (suc n) s h e = omega (arith, ones_step s, ones_some n (s / 2) (half_less n s h) (omega (arith, ones_step s)))

-- the lowest bit of one that is not empty is one of its bits
pub lowest_in : (n s : ℕ) → n ≤ 64 → s < 2 ^ n → 0 < s → count_trailing_zeros 64 s < n
lowest_in n s few inside has =
    lowest_less n 64 s few inside (elim (dec_lt 0 (ones s)) [ yes k ↦ k | no k ↦ absurd (omega (arith, ones_some n s inside (omega arith))) ])

-- of a set over a whole table the lowest bit's mark comes first
pub first_taken : (ms : List Mark) (s i : ℕ) → length ms ≡ 64 → s < 2 ^ 64 → 0 < s → i ≡ count_trailing_zeros 64 s → pick ms s ≡ get_or ms i blank ∷ pick ms (without_bit i s)
first_taken ms s i long small some e = rw e (pick_first 64 ms s blank (omega arith) (omega (arith, lowest_in 64 s (omega arith) small some)))

module _ {t : Tank} (f : Laid t) (s : ℕ) (inside : s < 2 ^ t.marks) (has : 0 < s) where
  -- the lowest bit is one of the table's marks
  pub lowest_mark : count_trailing_zeros 64 s < t.marks
  lowest_mark = lowest_in t.marks s f.few inside has

  pub mark_64 : (i : ℕ) → i ≡ count_trailing_zeros 64 s → i < 64
  mark_64 i e = let l = f.few in omega (arith, lowest_mark)

  -- it comes first
  pub lowest_first : pick (table_of t) s ≡ get_or t.table (count_trailing_zeros 64 s) blank ∷ pick (table_of t) (without_bit (count_trailing_zeros 64 s) s)
  lowest_first =
      let n = table_length f in
      let l = f.few in
      pick_first 64 (table_of t) s blank (omega arith) (omega (arith, lowest_mark))
      ∙ ap (λ (m : Mark). m ∷ pick (table_of t) (without_bit (count_trailing_zeros 64 s) s)) (get_or-take t.marks t.table (count_trailing_zeros 64 s) blank lowest_mark)

module _ {t : Tank} (f : Laid t) (c d : AnchorCursor) (g : Settles t c d) where
  pub end_place : 0 < d.ends → 0 < d.at
  end_place h = elim (dec_lt 0 d.at) [ yes k ↦ k | no k ↦ absurd (omega (arith, g.stands.none_before (omega arith))) ]

  -- an end, and the cursor without its bit
  pub takes_end : (a : Anchor) (i u : ℕ) → 0 < d.ends → i ≡ count_trailing_zeros 64 d.ends → a ≡ anchor_of (d.at - 1) End (get_or t.table i blank)
      → u ≡ without_bit i d.ends → Steps t c (Some (a, (record { index = d.index; at = d.at; ends = u; starts = d.starts })))
  unfolding Steps left_at later_than anchors_of
  takes_end a i u h e x y =
      let s = g.stands in
      rw (x, y, e) (
        g.same ∙ ap (λ (l : List Mark). (anchors_of (d.at - 1) End l ++ anchors_of d.at Start (pick (table_of t) d.starts)) ++ later_than t d) (lowest_first f d.ends s.ends_in h),
        fewer_stands s _ d.starts (without_le _ d.ends) (omega arith),
      )

  -- no end is left: a start, and the cursor without its bit
  pub takes_start : (a : Anchor) (i u : ℕ) → d.ends ≡ 0 → 0 < d.starts → i ≡ count_trailing_zeros 64 d.starts
      → a ≡ anchor_of d.at Start (get_or t.table i blank) → u ≡ without_bit i d.starts
      → Steps t c (Some (a, (record { index = d.index; at = d.at; ends = 0; starts = u })))
  unfolding Steps left_at later_than anchors_of
  takes_start a i u z h e x y =
      let s = g.stands in
      let n = pick_none (table_of t) in
      rw (x, y, e) (
        g.same
            ∙ ap₂ (λ (k l : List Mark). (anchors_of (d.at - 1) End k ++ anchors_of d.at Start l) ++ later_than t d) (ap (pick (table_of t)) z ∙ n) (lowest_first f d.starts s.starts_in h)
            ∙ ap (λ (k : List Mark). anchor_of d.at Start (get_or t.table (count_trailing_zeros 64 d.starts) blank) ∷ (anchors_of (d.at - 1) End k ++ anchors_of d.at Start (pick (table_of t) (without_bit (count_trailing_zeros 64 d.starts) d.starts))) ++ later_than t d) (sym n),
        fewer_stands s 0 _ (omega arith) (without_le _ d.starts),
      )

  pub takes_none : d.ends ≡ 0 → d.starts ≡ 0 → Steps t c None
  unfolding Steps
  takes_none a b = g.same ∙ g.over a b

-- ---- the count
pub left_length : (t : Tank) (c : AnchorCursor) → length (left_at t c) ≡ length (pick (table_of t) c.ends) + length (pick (table_of t) c.starts)
unfolding left_at anchors_of
left_length t c =
    let ends = pick (table_of t) c.ends in
    let starts = pick (table_of t) c.starts in
    length-append (anchors_of (c.at - 1) End ends) (anchors_of c.at Start starts)
    ∙ ap₂ (λ (x y : ℕ). x + y) (length-map ends (anchor_of (c.at - 1) End)) (length-map starts (anchor_of c.at Start))

pub left_count : {t : Tank} → Laid t → (c : AnchorCursor) → Stands t c → ones c.ends + ones c.starts ≡ length (left_at t c)
left_count {t} f c s =
    let n = table_length f in
    omega (arith, left_length t c, pick_length (table_of t) c.ends (rw n s.ends_in), pick_length (table_of t) c.starts (rw n s.starts_in))

-- the count at a boundary, with what comes behind it, is the whole count
pub record Tallied (t : Tank) (c : AnchorCursor) (count : ℕ) : Type 0 where
  pub stands : Stands t c
  pub sum : count + length (later_than t c) ≡ length (anchors (view t))
  pub few : count ≤ 128 * (c.index + 1)

pub tallied_first : {t : Tank} (c : AnchorCursor) (n : ℕ) → Stands t c × (rest t c ≡ anchors (view t)) × (c.index ≡ 0) → n ≡ length (left_at t c) → n ≤ 128 → Tallied t c n
tallied_first {t} c n h e l =
    record { stands = h.0; sum = omega (arith, ap length h.1, length-append (left_at t c) (later_than t c)); few = omega arith }

pub tallied_next : {t : Tank} (c d : AnchorCursor) (count n : ℕ) → Tallied t c count → Follows t c d → n ≡ length (left_at t d) → n ≤ 128 → Tallied t d (count + n)
tallied_next {t} c d count n h g e l =
    let a = h.few in
    let b = g.next in
    record {
      stands = g.stands;
      sum = omega (arith, h.sum, ap length g.later, length-append (left_at t d) (later_than t d));
      few = omega arith;
    }

pub tallied_end : {t : Tank} → Laid t → (c : AnchorCursor) (count : ℕ) → Tallied t c count → t.runs ≤ c.index → count ≡ length (anchors (view t))
tallied_end f c count h k =
    let w = h.stands.within in
    omega (arith, h.sum, ap length (none_later f c h.stands (omega arith)))

-- ---- one list, one walk: two steps from one cursor hand over the same anchor, and the same comes after it
pub one_anchor : (t : Tank) (c : AnchorCursor) (a b : Anchor) (d e : AnchorCursor) → Steps t c (Some (a, d)) → Steps t c (Some (b, e)) → (a ≡ b) × (rest t d ≡ rest t e)
unfolding Steps
one_anchor t c a b d e h g =
    let q : a ∷ rest t d ≡ b ∷ rest t e = sym h.0 ∙ g.0 in
    (cc, cc)

pub one_end : (t : Tank) (c : AnchorCursor) (a : Anchor) (d : AnchorCursor) → Steps t c (Some (a, d)) → Steps t c None → ⊥
unfolding Steps
one_end t c a d h g =
    let q : length (a ∷ rest t d) ≡ 0 = ap length (sym h.0 ∙ g) in
    omega arith
