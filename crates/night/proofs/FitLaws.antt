-- Whether a plan's ranges may go, range by range; and the unheld ranges, one by one.
use Prim.Native.Nat.{ℕ, zero, suc, ◌+◌, ◌≤◌, ◌<◌}
use mathlib.Core.Path.{◌≡◌, refl, sym, ap, ◌∙◌}
use mathlib.Core.Bool.{Bool, true, false, cond, not, ◌&&◌, true≢false, and-eq-true_iff}
use mathlib.Core.List.{List, [], ◌∷◌, ◌++◌}
use native.Mathlib.Omega.{arith}
use lib.Dec.{ltb, leb, eqb}
use lib.ListN.{length, get_or, drop}
use lib.Seq.{drop-cons}
use borrow.Author.Tests.{le-leb, lt-leb, ne_eqb, leb-true}
use Rattle.styles.specs.Bits.{MaskOf}
use Rattle.styles.specs.Marks.{key_is, blank}
use Rattle.styles.proofs.Unique.{mask_only}
use Rattle.styles.proofs.MaskLaws.{has_key_bits}
use Rattle.runs.specs.Runs.{set_at}
use Rattle.runs.specs.Positions.{any_at}
use Rattle.runs.specs.Scan.{meets}
use Rattle.runs.proofs.ScanLaws.{any_ext}
use Rattle.tank.specs.declared.Tank.{Tank}
use Rattle.tank.specs.Rules.{View}
use Rattle.tank.specs.State.{runs_of, table_of, view, Formed}
use Rattle.night.specs.declared.Range.{Range}
use Rattle.night.specs.declared.Plan.{Plan}
use Rattle.night.specs.Plans.{no_range, first_ranges, ranges_of, plan_of, in_order, held_at, free_of, no_ranges, may_go}
use Rattle.night.proofs.PlanLaws.{order_to}

-- ---- a range of a list, and the rest
-- what is asked of one range: `hold` says that it has a held position
abbrev pub clears : ℕ → ℕ → Bool → Range → Bool
clears from n hold x = leb from x.start && (ltb x.start x.end && (leb x.end n && not hold))

module _ (key : ℕ) (v : View) where
  -- one that is clear leaves the question to the rest
  pub clear_on : (from : ℕ) (x : Range) (xs : List Range) → clears from v.length (any_at (held_at key v) x.start x.end) x ≡ true
      → (in_order from v.length (x ∷ xs) && free_of key v (x ∷ xs)) ≡ (in_order x.end v.length xs && free_of key v xs)
  unfolding in_order free_of
  clear_on from x xs e =
      go (leb from x.start) (ltb x.start x.end) (leb x.end v.length) (any_at (held_at key v) x.start x.end) e
    where
      go : (a b c d : Bool) → (a && (b && (c && not d))) ≡ true
          → ((a && (b && in_order x.end v.length xs)) && (not d && free_of key v xs)) ≡ (in_order x.end v.length xs && free_of key v xs)
      go true true true false e = refl
      go true true true true e = absurd (true≢false (sym e))
      go true true false d e = absurd (true≢false (sym e))
      go true false c d e = absurd (true≢false (sym e))
      go false b c d e = absurd (true≢false (sym e))

  -- one that is not settles it
  pub clear_off : (from : ℕ) (x : Range) (xs : List Range) → clears from v.length (any_at (held_at key v) x.start x.end) x ≡ false
      → (in_order from v.length (x ∷ xs) && free_of key v (x ∷ xs)) ≡ false
  unfolding in_order free_of
  clear_off from x xs e =
      go (leb from x.start) (ltb x.start x.end) (leb x.end v.length) (any_at (held_at key v) x.start x.end) (in_order x.end v.length xs) refl refl e
    where
      past : leb x.end v.length ≡ false → in_order x.end v.length xs ≡ true → ⊥
      past l o = true≢false (sym (le-leb x.end v.length (order_to x.end v.length xs o)) ∙ l)

      go : (a b c d o : Bool) → leb x.end v.length ≡ c → in_order x.end v.length xs ≡ o → (a && (b && (c && not d))) ≡ false
          → ((a && (b && o)) && (not d && free_of key v xs)) ≡ false
      go true true true true true p q e = refl
      go true true true true false p q e = refl
      go true true true false o p q e = absurd (true≢false e)
      go true true false d true p q e = absurd (past p q)
      go true true false d false p q e = refl
      go true false c d o p q e = refl
      go false b c d o p q e = refl

-- ---- the tank's runs are asked in place of its marks
module _ {t : Tank} (f : Formed t) (key : ℕ) {mask : ℕ} (m : MaskOf (key_is key) (table_of t) mask) where
  pub meets_held : (p : ℕ) → meets mask (set_at (runs_of t) p) ≡ held_at key (view t) p
  unfolding view
  meets_held p =
      ap (λ (x : ℕ). meets x (set_at (runs_of t) p)) (mask_only _ _ mask m) ∙ sym (has_key_bits (table_of t) (set_at (runs_of t) p) key blank)

  pub any_held : (a b : ℕ) → any_at (λ p. meets mask (set_at (runs_of t) p)) a b ≡ any_at (held_at key (view t)) a b
  any_held a b = any_ext _ _ a b (λ p g h. meets_held p)

clears_end : (from n : ℕ) (hold : Bool) (x : Range) → clears from n hold x ≡ true → x.end ≤ n
clears_end from n hold x e =
    let a = (and-eq-true_iff (leb from x.start) _).0 e in
    let b = (and-eq-true_iff (ltb x.start x.end) _).0 a.1 in
    let c = (and-eq-true_iff (leb x.end n) _).0 b.1 in
    leb-true x.end n c.0

pub drop_all : {A : Type 0} (xs : List A) (n : ℕ) → length xs ≤ n → drop n xs ≡ []
drop_all [] zero h = refl
drop_all [] (suc n) h = refl
drop_all (x ∷ xs) zero h = absurd (omega arith)
drop_all (x ∷ xs) (suc n) h = drop_all xs n (omega arith)

-- ---- the ranges of a plan
pub length_first : (n : ℕ) (xs : List Range) → length (first_ranges n xs) ≡ n
unfolding first_ranges
length_first zero xs = refl
length_first (suc n) [] = ap suc (length_first n [])
length_first (suc n) (x ∷ xs) = ap suc (length_first n xs)

get_d_first : (n i : ℕ) (xs : List Range) → i < n → get_or (first_ranges n xs) i no_range ≡ get_or xs i no_range
unfolding first_ranges
get_d_first zero i xs h = absurd (omega arith)
get_d_first (suc n) zero [] h = refl
get_d_first (suc n) zero (x ∷ xs) h = refl
get_d_first (suc n) (suc i) [] h = get_d_first n i [] (omega arith)
get_d_first (suc n) (suc i) (x ∷ xs) h = get_d_first n i xs (omega arith)

-- a plan of ranges has these ranges
first_all : (xs ys : List Range) → first_ranges (length xs) (xs ++ ys) ≡ xs
unfolding first_ranges
first_all [] ys = refl
first_all (x ∷ xs) ys = ap (λ (zs : List Range). x ∷ zs) (first_all xs ys)

pub ranges_plan : (xs : List Range) → ranges_of (plan_of xs) ≡ xs
ranges_plan xs = first_all xs _

-- there are none exactly where none is counted
none_first : (n : ℕ) (xs : List Range) → no_ranges (first_ranges n xs) ≡ eqb n 0
unfolding no_ranges first_ranges
none_first zero xs = refl
none_first (suc n) [] = sym (ne_eqb (suc n) 0 (λ z. omega arith))
none_first (suc n) (x ∷ xs) = sym (ne_eqb (suc n) 0 (λ z. omega arith))

-- range i stands in front of those from i on
pub next_range_is : (plan : Plan) (i : ℕ) → i < plan.count → drop i (ranges_of plan) ≡ get_or plan.ranges i no_range ∷ drop (suc i) (ranges_of plan)
next_range_is plan i more =
    drop-cons (ranges_of plan) i no_range (omega (arith, length_first plan.count plan.ranges))
    ∙ ap (λ (x : Range). x ∷ drop (suc i) (ranges_of plan)) (get_d_first plan.count i plan.ranges more)

-- ---- a turn over a plan: what is asked of all ranges is what is asked of those from i on
pub record Checked (key : ℕ) (v : View) (plan : Plan) (i from : ℕ) : Type 0 where
  pub within : i ≤ plan.count
  pub fits : from ≤ v.length
  pub same : (in_order 0 v.length (ranges_of plan) && free_of key v (ranges_of plan)) ≡ (in_order from v.length (drop i (ranges_of plan)) && free_of key v (drop i (ranges_of plan)))

pub begun : (key : ℕ) (v : View) (plan : Plan) → Checked key v plan 0 0
begun key v plan = record { within = omega arith; fits = omega arith; same = refl }

module _ {key : ℕ} {v : View} {plan : Plan} {i from : ℕ} (inv : Checked key v plan i from) where
  module _ (more : i < plan.count) where
    module _ (test : Bool) (is : test ≡ clears from v.length (any_at (held_at key v) (get_or plan.ranges i no_range).start (get_or plan.ranges i no_range).end) (get_or plan.ranges i no_range)) where
      pub turn_off : test ≡ false → false ≡ (in_order 0 v.length (ranges_of plan) && free_of key v (ranges_of plan))
      turn_off e =
          sym
          (inv.same ∙ ap (λ (xs : List Range). in_order from v.length xs && free_of key v xs) (next_range_is plan i more)
          ∙ clear_off key v from (get_or plan.ranges i no_range) (drop (suc i) (ranges_of plan)) (sym is ∙ e))

      pub turn_on : test ≡ true → Checked key v plan (i + 1) (get_or plan.ranges i no_range).end
      turn_on e =
          let c = sym is ∙ e in
          let z : suc i ≡ i + 1 = omega arith in
          record {
            within = omega arith;
            fits = clears_end from v.length (any_at (held_at key v) (get_or plan.ranges i no_range).start (get_or plan.ranges i no_range).end) (get_or plan.ranges i no_range) c;
            same =
                inv.same ∙ ap (λ (xs : List Range). in_order from v.length xs && free_of key v xs) (next_range_is plan i more)
                ∙ clear_on key v from (get_or plan.ranges i no_range) (drop (suc i) (ranges_of plan)) c
                ∙ ap (λ (j : ℕ). in_order (get_or plan.ranges i no_range).end v.length (drop j (ranges_of plan)) && free_of key v (drop j (ranges_of plan))) z;
          }

  pub at_end_lem : plan.count ≤ i → true ≡ (in_order 0 v.length (ranges_of plan) && free_of key v (ranges_of plan))
  unfolding in_order free_of
  at_end_lem h =
      let w = inv.within in
      let e : drop i (ranges_of plan) ≡ [] = drop_all (ranges_of plan) i (omega (arith, length_first plan.count plan.ranges)) in
      sym
      (inv.same ∙ ap (λ (xs : List Range). in_order from v.length xs && free_of key v xs) e
      ∙ ap (λ (b : Bool). b && true) (le-leb from v.length inv.fits))

-- ---- the question as a whole
module _ (t : Tank) (key : ℕ) (plan : Plan) where
  abbrev answer : Bool
  answer = leb plan.count 32 && may_go key (ranges_of plan) (view t)

  pub fits_many : 32 < plan.count → false ≡ answer
  fits_many h = rw (lt-leb plan.count 32 h)

  module _ (few : plan.count ≤ 32) where
    pub fits_untouched : t.touched ≡ false → eqb plan.count 0 ≡ answer
    unfolding may_go view
    fits_untouched e =
        sym
        (rw (le-leb plan.count 32 few) (ap (λ (b : Bool). cond b (in_order 0 t.length (ranges_of plan) && free_of key (view t) (ranges_of plan)) (no_ranges (ranges_of plan))) e
        ∙ none_first plan.count plan.ranges))

    pub fits_touched : t.touched ≡ true → {r : Bool} → r ≡ (in_order 0 (view t).length (ranges_of plan) && free_of key (view t) (ranges_of plan)) → r ≡ answer
    unfolding may_go view
    fits_touched e g =
        g ∙ sym (rw (le-leb plan.count 32 few) (ap (λ (b : Bool). cond b (in_order 0 t.length (ranges_of plan) && free_of key (view t) (ranges_of plan)) (no_ranges (ranges_of plan))) e))
