-- The questions by their cases: each test by its number, and masks over the table in place of tests of marks.
use Prim.Native.Nat.{ℕ, zero, suc, ◌-◌, ◌≤◌, ◌<◌, ◌^◌}
use mathlib.Core.Path.{◌≡◌, refl, sym, ap, ◌∙◌, fun_ext}
use mathlib.Core.Bool.{Bool, true, false, cond}
use mathlib.Core.List.{List, []}
use native.Mathlib.Omega.{arith}
use lib.Bits.{bit_and, and_le_r}
use lib.ListN.{length, get_or}
use lib.Pow.{pow_mono}
use native.Mathlib.Decide.{dec_lt}
use borrow.Author.Tests.{lt-ltb, le-ltb, le-leb, lt-leb, eqb-true}
use Rattle.styles.specs.declared.Mark.{Mark}
use Rattle.styles.specs.declared.Styles.{Styles}
use Rattle.styles.specs.declared.Value.{Value}
use Rattle.styles.specs.Answers.{styles_of}
use Rattle.styles.specs.Bits.{pick, MaskOf}
use Rattle.styles.proofs.Built.{mask_of}
use Rattle.styles.proofs.Unique.{mask_only}
use Rattle.styles.specs.Marks.{key_is, value_is, same_marks, blank}
use Rattle.styles.specs.Values.{value_nan}
use Rattle.styles.proofs.MaskLaws.{has_key_bits, shows_bits_lem, mask_less}
use Rattle.styles.proofs.UnionLaws.{pick_none}
use Rattle.runs.specs.Runs.{set_at, sums, Found}
use Rattle.runs.specs.Stretches.{alike_in}
use Rattle.runs.proofs.Laws.{found_set}
use Rattle.runs.proofs.ExtentLaws.{found_first, found_last, found_same}
use Rattle.runs.specs.Positions.{any_at, all_at, first_of, last_of}
use Rattle.runs.specs.Scan.{meets, shows}
use Rattle.runs.proofs.ScanLaws.{any_ext, all_ext, can_find as can_ask}
use lib.Dec.{leb, eqb}
use Rattle.tank.specs.declared.Tank.{Tank}
use Rattle.questions.specs.declared.Extent.{Extent}
use Rattle.questions.specs.declared.SetAsked.{SetAsked}
use Rattle.questions.specs.declared.Shared.{Shared}
use Rattle.questions.specs.declared.Told.{Told}
use Rattle.questions.specs.declared.Told.TheVariants as told
use Rattle.tank.specs.Rules.{View, alike, for_insert}
use Rattle.tank.specs.State.{runs_of, table_of, view, Formed}
use Rattle.questions.specs.Questions.{told_of, set_of, shared_of, extent_of, stretch_at, position_refusal, insert_refusal, yes_no_refusal, yes_no, range_contains_key, range_has_key_value, same_refusal, agreeing, styles_of_range}
use Rattle.tank.proofs.Calls.{asked_empty, asked_over, asked_within}
use Rattle.tank.proofs.Counted.{at_inside, alike_at}
use Rattle.tank.proofs.Shape.{can_find}
use Rattle.tank.proofs.Unique.{table_length, inside_table}

-- ---- no set beside a number
pub no_set_is : (n : ℕ) {styles : Styles} → styles ≡ styles_of [] → ◌≡◌ {A = SetAsked} (record { number = n; styles = styles }) (set_of n [])
no_set_is zero e = λ i. record { number = 0; styles = e i }
no_set_is (suc n) e = λ i. record { number = suc n; styles = e i }

pub not_shared_is : (n : ℕ) {styles : Styles} → styles ≡ styles_of []
    → ◌≡◌ {A = Shared} (record { number = n; agree = false; styles = styles }) (shared_of n false [])
not_shared_is zero e = λ i. record { number = 0; agree = false; styles = e i }
not_shared_is (suc n) e = λ i. record { number = suc n; agree = false; styles = e i }

pub no_extent_is : (n : ℕ) → ◌≡◌ {A = Extent} (record { number = n; first = 0; last = 0 }) (extent_of n 0 0)
no_extent_is zero = refl
no_extent_is (suc n) = refl

-- ---- the yes/no questions, of any view
module _ (v : View) (a b : ℕ) (nan holds : Bool) where
  abbrev answer : Told
  answer = told_of (yes_no_refusal a b nan v) (yes_no a b holds v)

  pub no_empty : b ≤ a → told.No ≡ answer
  unfolding yes_no_refusal yes_no
  no_empty h = rw (asked_empty a b (cond nan 6 0) v h, le-ltb a b h)

  module _ (some : a < b) where
    pub told_4 : v.length < b → told.Refused 4 ≡ answer
    unfolding yes_no_refusal
    told_4 h = rw (asked_over a b (cond nan 6 0) v some h)

    module _ (fits : b ≤ v.length) where
      pub told_6 : nan ≡ true → told.Refused 6 ≡ answer
      unfolding yes_no_refusal
      told_6 e = rw (asked_within a b (cond nan 6 0) v some fits, e)

      module _ (number : nan ≡ false) where
        pub no_untouched : v.touched ≡ false → told.No ≡ answer
        unfolding yes_no_refusal yes_no
        no_untouched e = rw (asked_within a b (cond nan 6 0) v some fits, number, lt-ltb a b some, e)

        pub told_done : v.touched ≡ true → told_of 0 holds ≡ answer
        unfolding yes_no_refusal yes_no
        told_done e = rw (asked_within a b (cond nan 6 0) v some fits, number, lt-ltb a b some, e)

module _ {t : Tank} (f : Formed t) where
  -- ---- what the runs are asked
  pub finds : (t.runs ≤ length t.lens) × (t.length ≡ sums t.lens t.runs) × (t.length < 2 ^ 63)
  finds = can_ask (can_find f.laid)

  -- a set at a position is one over the table
  pub set_inside : (p : ℕ) → set_at (runs_of t) p < 2 ^ t.marks
  set_inside p = at_inside (runs_of t) t.marks p f.laid.inside

  -- ---- at a position: g is what is asked of the number and the marks
  module _ {A : Type 0} (g : ℕ → List Mark → A) (p : ℕ) where
    pub at_4 : t.length ≤ p → g 4 ((view t).at p) ≡ g (position_refusal p (view t)) ((view t).at p)
    unfolding position_refusal view
    at_4 h = simp (le-leb t.length p h)

    pub at_done : {s : ℕ} → p < t.length → s ≡ set_at (runs_of t) p
        → g 0 (pick (table_of t) s) ≡ g (position_refusal p (view t)) ((view t).at p)
    unfolding position_refusal view
    at_done h e = simp (lt-leb t.length p h, e)

  -- ---- the stretch that a position is in
  -- neighbours are alike where their bits are
  alike_is : alike (view t).at ≡ alike_in (runs_of t)
  unfolding view
  alike_is = fun_ext (λ p. alike_at (table_of t) (runs_of t) f.laid.sorted (inside_table f.laid) p (suc p))

  -- a position within the length is in a run
  pub found_in : {pos i start end : ℕ} → pos < t.length → Found t.lens t.runs pos i start end → i < t.runs
  found_in {pos} {i} {start} h g =
      let w = g.within in
      let a = g.starts in
      let b = g.reached in
      elim (dec_lt i t.runs) [
        | yes k ↦ k
        | no k ↦ let e : i ≡ t.runs = omega arith in absurd (omega (arith, ap (sums t.lens) e, finds.1))
      ]

  module _ {pos i start end : ℕ} (g : Found t.lens t.runs pos i start end) (there : i < t.runs) where
    pub extent_done : pos < t.length → record { number = 0; first = start; last = end - 1 } ≡ stretch_at pos (view t)
    unfolding position_refusal view
    extent_done h =
        let a : start ≡ first_of (alike (view t).at) pos =
        sym (ap (λ (x : ℕ → Bool). first_of x pos) alike_is ∙ found_first t.lens t.sets t.runs f.laid.canon g there) in
        let b : end - 1 ≡ last_of (alike (view t).at) t.length pos =
        sym
        (ap (λ (x : ℕ → Bool). last_of x t.length pos) alike_is ∙ ap (λ (n : ℕ). last_of (alike_in (runs_of t)) n pos) f.laid.sum
        ∙ found_last t.lens t.sets t.runs f.laid.canon g there) in
        let z : 0 ≡ position_refusal pos (view t) = sym (simp (lt-leb t.length pos h)) in
        (λ j. record { number = 0; first = a j; last = b j })
        ∙ ap (λ (n : ℕ). extent_of n (first_of (alike (view t).at) pos) (last_of (alike (view t).at) t.length pos)) z

    pub found_here : get_or t.sets i 0 ≡ set_at (runs_of t) pos
    found_here = sym (found_set t.lens t.sets t.runs pos i start end g there)

    -- the run reaches so far exactly where all positions have its set
    pub reaches : (to : ℕ) → pos < to → to ≤ t.length → leb to end ≡ all_at (λ p. eqb (set_at (runs_of t) p) (set_at (runs_of t) pos)) pos to
    reaches to l h = sym (found_same t.lens t.sets t.runs f.laid.canon g there to l (omega (arith, f.laid.sum)))

  pub extent_4 : (p : ℕ) → t.length ≤ p → extent_of 4 0 0 ≡ stretch_at p (view t)
  unfolding position_refusal view
  extent_4 p h = simp (le-leb t.length p h)

  -- ---- positions with the same marks by identity have the same marks
  pub same_equal : (p q : ℕ) → same_marks ((view t).at p) ((view t).at q) ≡ true → (view t).at p ≡ (view t).at q
  unfolding view
  same_equal p q e =
      ap (pick (table_of t)) (eqb-true _ _ (sym (alike_at (table_of t) (runs_of t) f.laid.sorted (inside_table f.laid) p q) ∙ e))

  -- ---- what an insertion would get
  module _ {A : Type 0} (g : ℕ → List Mark → A) (pos : ℕ) where
    pub insert_4 : t.length < pos → g 4 (for_insert pos (view t)) ≡ g (insert_refusal pos (view t)) (for_insert pos (view t))
    unfolding insert_refusal view
    insert_4 h = simp (lt-ltb t.length pos h)

    pub insert_done : (s : ℕ) → pos ≤ t.length → pick (table_of t) s ≡ for_insert pos (view t)
        → g 0 (pick (table_of t) s) ≡ g (insert_refusal pos (view t)) (for_insert pos (view t))
    unfolding insert_refusal view
    insert_done s h e = simp (le-ltb t.length pos h, e)

  pub none_for_insert : (pos : ℕ) → t.touched ≡ false → pick (table_of t) 0 ≡ for_insert pos (view t)
  unfolding for_insert view
  none_for_insert pos e = pick_none (table_of t) ∙ sym (simp e)

  -- ---- the yes/no questions, by masks
  module _ (a b : ℕ) (some : a < b) (fits : b ≤ t.length) (e : t.touched ≡ true) (key : ℕ) where
    -- some position has a bit of the key's mask where it has a mark with the key
    pub key_done : {mask : ℕ} {r : Bool} → MaskOf (key_is key) (table_of t) mask → r ≡ any_at (λ p. meets mask (set_at (runs_of t) p)) a b
        → told_of 0 r ≡ range_contains_key a b key (view t)
    unfolding view
    key_done {mask} m q =
        ap (told_of 0)
        (q
        ∙ any_ext _ _ a b
        (λ p g h. ap (λ (x : ℕ). meets x (set_at (runs_of t) p)) (mask_only _ _ mask m) ∙ sym (has_key_bits (table_of t) (set_at (runs_of t) p) key blank)))
        ∙ told_done (view t) a b false _ some fits refl e

    first_small : (s : ℕ) → bit_and s (mask_of (key_is key) (table_of t)) < 2 ^ 64
    first_small s =
        let few = f.laid.few in
        omega (
          arith,
          and_le_r s (mask_of (key_is key) (table_of t)),
          mask_less (key_is key) (table_of t),
          pow_mono {i = length (table_of t)} {j = 64} (omega (arith, table_length f.laid)),
        )

    -- every position has as the highest bit of the key's mask one of the value's where it shows the value
    pub value_done : (w : Value) {first second : ℕ} {r : Bool} → value_nan w ≡ false → MaskOf (key_is key) (table_of t) first
        → MaskOf (value_is w) (table_of t) second → r ≡ all_at (λ p. shows first second (set_at (runs_of t) p)) a b
        → told_of 0 r ≡ range_has_key_value a b key w (view t)
    unfolding view
    value_done w {first} {second} number m n q =
        ap (told_of 0)
        (q
        ∙ all_ext _ _ a b
        (λ p g h.
        let s = set_at (runs_of t) p in
        (λ i. shows (mask_only _ _ first m i) (mask_only _ _ second n i) s)
        ∙ shows_bits_lem (table_of t) s key w blank 64 f.laid.sorted (first_small s)))
        ∙ told_done (view t) a b (value_nan w) _ some fits number e

  -- ---- same marks throughout
  -- positions have one set where they have the same marks
  same_in : (a b : ℕ) → all_at (λ p. eqb (set_at (runs_of t) p) (set_at (runs_of t) a)) a b ≡ all_at (λ p. same_marks ((view t).at p) ((view t).at a)) a b
  unfolding view
  same_in a b = all_ext _ _ a b (λ p g h. sym (alike_at (table_of t) (runs_of t) f.laid.sorted (inside_table f.laid) p a))

  module _ (a b : ℕ) where
    pub shared_3 : b ≤ a → shared_of 3 false [] ≡ styles_of_range a b (view t)
    unfolding same_refusal
    shared_3 h = simp (le-leb b a h)

    module _ (some : a < b) where
      pub shared_4 : t.length < b → shared_of 4 false [] ≡ styles_of_range a b (view t)
      unfolding same_refusal view
      shared_4 h = simp (lt-leb b a some, lt-ltb t.length b h)

      module _ (fits : b ≤ t.length) where
        answers : (agree : Bool) → agreeing a b (view t) ≡ agree → shared_of 0 agree ((view t).at a) ≡ styles_of_range a b (view t)
        unfolding same_refusal view
        answers agree e = simp (lt-leb b a some, le-ltb t.length b fits, e)

        pub none_untouched : t.touched ≡ false → shared_of 0 false [] ≡ styles_of_range a b (view t)
        unfolding agreeing view
        none_untouched e = answers false (simp e)

        module _ (e : t.touched ≡ true) (same : Bool) (q : same ≡ all_at (λ p. eqb (set_at (runs_of t) p) (set_at (runs_of t) a)) a b) where
          agree_is : agreeing a b (view t) ≡ same
          unfolding agreeing view
          agree_is = simp e (sym (q ∙ same_in a b))

          pub none_shared : same ≡ false → shared_of 0 false [] ≡ styles_of_range a b (view t)
          none_shared g = answers false (agree_is ∙ g)

          pub shared_done : {s : ℕ} {styles : Styles} → same ≡ true → s ≡ set_at (runs_of t) a → styles ≡ styles_of (pick (table_of t) s)
              → record { number = 0; agree = true; styles = styles } ≡ styles_of_range a b (view t)
          unfolding view
          shared_done g h k =
              let done = answers true (agree_is ∙ g) in
              (λ i. record { number = 0; agree = true; styles = (k ∙ ap (λ x. styles_of (pick (table_of t) x)) h) i }) ∙ done
