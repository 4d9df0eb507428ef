-- A plan applied, range by range from the last; and the call by its cases.
use Prim.Native.Nat.{ℕ, zero, suc, ◌-◌, ◌≤◌, ◌<◌}
use mathlib.Core.Path.{◌≡◌, refl, sym, ap, ap₂, ◌∙◌, subst}
use mathlib.Core.Bool.{Bool, true, false, cond, ◌&&◌, true≢false, and-eq-true_iff}
use mathlib.Core.List.{List, [], ◌∷◌}
use native.Mathlib.Omega.{arith}
use lib.Dec.{leb}
use lib.ListN.{length, get_or, drop}
use lib.Seq.{set-set}
use borrow.Author.Tests.{le-leb, lt-leb, ne_eqb, leb-true}
use Rattle.styles.specs.declared.Party.TheVariants.{Plant}
use Rattle.tank.specs.Rules.{View, deleting, after, runs_held}
use Rattle.tank.specs.declared.Tank.{Tank}
use Rattle.tank.specs.State as state
use Rattle.tanks.specs.declared.Tanks.{Tanks}
use Rattle.tanks.specs.House.{House, tank_at, held, with_tank, refusal_at}
use Rattle.tanks.specs.Pool.{meaning, Sound}
use Rattle.tanks.specs.Promises.{CalledAt, Taken}
use Rattle.tanks.proofs.CallLaws.{after_done}
use Rattle.tanks.proofs.MeaningLaws.{tanks_length}
use Rattle.tanks.proofs.Theorems.{kept_sound, delete_own, with_same}
use Rattle.night.specs.declared.Range.{Range}
use Rattle.night.specs.declared.Plan.{Plan}
use Rattle.night.specs.Plans.{no_range, ranges_of, in_order, free_of, after_plan, no_ranges, may_go, accepts_plan}
use Rattle.night.specs.Planning.{plan_number, house_after_plan, AppliedAt, CanApply, Applies}
use Rattle.night.proofs.AgeLaws.{delete_accepted, with_own}
use Rattle.night.proofs.PlanLaws.{ordered, plan_reaches}
use Rattle.night.proofs.FitLaws.{length_first, next_range_is, drop_all}

-- ---- a tank put back twice
pub with_twice : (h : House) (t : ℕ) (v w : View) → with_tank (with_tank h t v) t w ≡ with_tank h t w
with_twice h t v w = λ i. record { settings = h.settings; tanks = set-set h.tanks t v w i }

-- the ranges from i on are in order
order_drop : (from n : ℕ) (xs : List Range) → in_order from n xs ≡ true → (i : ℕ) → (j : ℕ) × (in_order j n (drop i xs) ≡ true)
order_drop from n [] e zero = (from, e)
order_drop from n [] e (suc i) = (from, e)
order_drop from n (x ∷ xs) e zero = (from, e)
order_drop from n (x ∷ xs) e (suc i) = order_drop x.end n xs (ordered from n x xs e).rest i

-- one range more, before the others
pub after_range : (x : Range) (ys : List Range) (v : View) → after (deleting Plant x.start x.end) (after_plan ys v) ≡ after_plan (x ∷ ys) v
unfolding after after_plan
after_range x ys v = refl

-- ---- a turn
pub record AppliedFrom (s : Tanks) (t : ℕ) (plan : Plan) (i : ℕ) (u : Tanks) : Type 0 where
  pub within : i ≤ plan.count
  pub applies : Applies s t (drop i (ranges_of plan)) u

-- there are ranges, so the tank is touched, and they are in order
pub may_parts : (key : ℕ) (xs : List Range) (v : View) → may_go key xs v ≡ true → no_ranges xs ≡ false → (v.touched ≡ true) × (in_order 0 v.length xs ≡ true)
unfolding may_go
may_parts key xs v e n = go v.touched refl e
  where
    go : (b : Bool) → v.touched ≡ b → cond b (in_order 0 v.length xs && free_of key v xs) (no_ranges xs) ≡ true → (v.touched ≡ true) × (in_order 0 v.length xs ≡ true)
    go true t m = (t, ((and-eq-true_iff (in_order 0 v.length xs) _).0 m).0)
    go false t m = absurd (true≢false (sym m ∙ n))

some_ranges : (xs : List Range) (x : Range) (ys : List Range) (i : ℕ) → drop i xs ≡ x ∷ ys → no_ranges xs ≡ false
unfolding no_ranges
some_ranges [] x ys zero e = absurd (omega (arith, ap length e))
some_ranges [] x ys (suc i) e = absurd (omega (arith, ap length e))
some_ranges (z ∷ zs) x ys i e = refl

module _ {s : Tanks} {t key : ℕ} {plan : Plan} (can : CanApply s t key plan) where
  abbrev v : View
  v = tank_at (meaning s) t

  abbrev xs : List Range
  xs = ranges_of plan

  pub applied_none : AppliedFrom s t plan plan.count s
  unfolding after_plan
  applied_none =
      let e : drop plan.count xs ≡ [] = drop_all xs plan.count (omega (arith, length_first plan.count plan.ranges)) in
      record {
        within = omega arith;
        applies =
            record {
              sound = can.sound;
              is = sym (ap (λ (ys : List Range). with_tank (meaning s) t (after_plan ys v)) e ∙ with_own (meaning s) t);
            };
      }

  pub applied_all_lem : {u : Tanks} {i : ℕ} → AppliedFrom s t plan i u → i ≡ 0 → Applies s t xs u
  applied_all_lem {u} c z = subst (λ (j : ℕ). Applies s t (drop j xs) u) z c.applies

  pub applied_more : {u next : Tanks} {i number : ℕ} → AppliedFrom s t plan i u → 0 < i
      → CalledAt u t (deleting Plant (get_or plan.ranges (i - 1) no_range).start (get_or plan.ranges (i - 1) no_range).end) number next
      → AppliedFrom s t plan (i - 1) next
  applied_more {u} {next} {i} c up called =
      let w = c.within in
      let j = i - 1 in
      let x = get_or plan.ranges j no_range in
      let ys = drop i xs in
      let z : suc j ≡ i = omega arith in
      let front : drop j xs ≡ x ∷ ys = next_range_is plan j (omega arith) ∙ ap (λ (k : ℕ). x ∷ drop k xs) z in
      let parts = may_parts key xs v can.may (some_ranges xs x ys j front) in
      let o = order_drop 0 v.length xs parts.1 j in
      let ord = ordered o.0 v.length x ys (ap (in_order o.0 v.length) (sym front) ∙ o.1) in
      let own : tank_at (meaning u) t ≡ after_plan ys v =
      ap (λ (h : House). tank_at h t) c.applies.is ∙ with_same (meaning s) t (after_plan ys v) (tanks_length s) can.tank in
      let len = ap (λ (q : View). q.length) own in
      let made : refusal_at (meaning u) t (deleting Plant x.start x.end) ≡ 0 =
      delete_own (meaning u) t Plant x.start x.end (kept_sound u c.applies.sound) can.tank
      ∙ delete_accepted x.start x.end (tank_at (meaning u) t) ord.some
      (omega (arith, plan_reaches v parts.0 ys x.end ord.rest)) in
      record {
        within = omega arith;
        applies =
            record {
              sound = called.sound;
              is =
                  called.is ∙ after_done (meaning u) t (deleting Plant x.start x.end) made
                  ∙ ap₂ (λ (h : House) (q : View). with_tank h t (after (deleting Plant x.start x.end) q)) c.applies.is own
                  ∙ with_twice (meaning s) t (after_plan ys v) (after (deleting Plant x.start x.end) (after_plan ys v))
                  ∙ ap (with_tank (meaning s) t) (after_range x ys v)
                  ∙ ap (λ (zs : List Range). with_tank (meaning s) t (after_plan zs v)) (sym front);
            };
      }

-- ---- the call
module _ (s : Tanks) (t key most : ℕ) (plan : Plan) (ok : Sound s) where
  abbrev house : House
  house = meaning s

  refused : (n : ℕ) → plan_number house t key most plan ≡ suc n → AppliedAt s t key most plan (suc n) s
  unfolding house_after_plan
  refused n e = record { number_is = sym e; is = rw (e, ne_eqb (suc n) 0 (λ z. omega arith)) refl; sound = ok; stays = λ z. refl }

  pub plan_1 : 8 ≤ t → AppliedAt s t key most plan 1 s
  unfolding plan_number
  plan_1 h = refused 0 (rw (le-leb 8 t h))

  module _ (t8 : t < 8) {x : Tank} (taken : Taken s t x) where
    abbrev fit : Bool
    fit = leb plan.count 32 && may_go key (ranges_of plan) (tank_at house t)

    -- the two halves of the judgement
    halves : accepts_plan key most (ranges_of plan) (tank_at house t) ≡ (fit && leb (runs_held (after_plan (ranges_of plan) (tank_at house t))) most)
    unfolding accepts_plan
    halves =
        ap (λ (n : ℕ). leb n 32 && (may_go key (ranges_of plan) (tank_at house t) && leb (runs_held (after_plan (ranges_of plan) (tank_at house t))) most))
        (length_first plan.count plan.ranges)
        ∙ go (leb plan.count 32) (may_go key (ranges_of plan) (tank_at house t)) (leb (runs_held (after_plan (ranges_of plan) (tank_at house t))) most)
      where
        go : (a b c : Bool) → (a && (b && c)) ≡ ((a && b) && c)
        go true b c = refl
        go false b c = refl

    number : (b : Bool) → accepts_plan key most (ranges_of plan) (tank_at house t) ≡ b → plan_number house t key most plan ≡ cond b 0 15
    unfolding plan_number
    number b e = rw (lt-leb 8 t t8, e) refl

    is_fit : (r : Bool) → r ≡ (leb plan.count 32 && may_go key (ranges_of plan) (state.view x)) → r ≡ fit
    is_fit r e = e ∙ ap (λ (q : View). leb plan.count 32 && may_go key (ranges_of plan) q) taken.is

    pub plan_unfit : (r : Bool) → r ≡ (leb plan.count 32 && may_go key (ranges_of plan) (state.view x)) → r ≡ false → AppliedAt s t key most plan 15 s
    plan_unfit r e f =
        refused 14 (number false (halves ∙ ap (λ (b : Bool). b && leb (runs_held (after_plan (ranges_of plan) (tank_at house t))) most) (sym (is_fit r e) ∙ f)))

    module _ (r : Bool) (e : r ≡ (leb plan.count 32 && may_go key (ranges_of plan) (state.view x))) (yes-fit : r ≡ true) where
      fits : fit ≡ true
      fits = sym (is_fit r e) ∙ yes-fit

      pub can_apply : CanApply s t key plan
      can_apply =
          let a = (and-eq-true_iff (leb plan.count 32) _).0 fits in
          record { sound = ok; tank = t8; few = leb-true plan.count 32 a.0; may = a.1 }

      module _ {next : Tanks} (c : Applies s t (ranges_of plan) next) (k : ℕ) (is_held_lem : k ≡ held (meaning next) t) where
        left : k ≡ runs_held (after_plan (ranges_of plan) (tank_at house t))
        left =
            is_held_lem ∙ ap (λ (h : House). held h t) c.is
            ∙ ap runs_held (with_same house t (after_plan (ranges_of plan) (tank_at house t)) (tanks_length s) t8)

        pub plan_many : most < k → AppliedAt s t key most plan 15 s
        plan_many h =
            refused 14
            (number false
            (halves ∙ ap₂ (λ (a b : Bool). a && b) fits (lt-leb (runs_held (after_plan (ranges_of plan) (tank_at house t))) most (omega (arith, left)))))

        pub plan_done : k ≤ most → AppliedAt s t key most plan 0 next
        unfolding house_after_plan
        plan_done h =
            let n = number true (halves ∙ ap₂ (λ (a b : Bool). a && b) fits (le-leb (runs_held (after_plan (ranges_of plan) (tank_at house t))) most (omega (arith, left)))) in
            record { number_is = sym n; is = rw n c.is; sound = c.sound; stays = λ z. absurd (z refl) }
