-- A plan that is accepted is deletions one after another, none of them refused, and one that is not leaves the house as it was. So what
-- holds of edits holds of it: it keeps the rules of the settings, whatever r was asked, and changes no other tank.
use Prim.Native.Nat.{ℕ, ◌≤◌, ◌<◌}
use mathlib.Core.Path.{◌≡◌, refl, sym, ap, ◌∙◌, subst}
use mathlib.Core.Bool.{Bool, true, false, cond, ◌&&◌, and-eq-true_iff, true≢false}
use mathlib.Core.List.{List, [], ◌∷◌}
use mathlib.Core.Logic.{◌≢◌}
use native.Mathlib.Omega.{arith}
use native.Mathlib.Decide.{dec_lt}
use lib.Dec.{leb}
use lib.ListN.{length}
use lib.Seq.{get_or-set_other}
use borrow.Author.Tests.{le-leb, lt-leb, leb-true}
use Rattle.laws.proofs.Cases.{cond_by}
use Rattle.tank.specs.Rules.{View, fresh_view, runs_held}
use Rattle.tank.proofs.Calls.{when_refused}
use Rattle.tanks.specs.declared.Tanks.{Tanks}
use Rattle.tanks.specs.House.{House, tank_at, held, with_tank, after_all}
use Rattle.tanks.proofs.Theorems.{Kept, kept_all, with_same}
use Rattle.tanks.proofs.Unique.{unique}
use Rattle.night.specs.declared.Range.{Range}
use Rattle.night.specs.declared.Plan.{Plan}
use Rattle.night.specs.Plans.{ranges_of, in_order, free_of, after_plan, no_ranges, may_go, accepts_plan}
use Rattle.night.specs.Planning.{plan_number, house_after_plan, AppliedAt, plan_calls}
use Rattle.night.proofs.AgeLaws.{with_own}
use Rattle.night.proofs.PlanCalls.{plan_calls_lem}

-- ---- the number
-- what a number of a plan's call can be: accepted, no such tank, or not accepted; so never 9 or 10
pub data PlanSays : ℕ → Type 0 where
  accepted : PlanSays 0
  no_such_tank : PlanSays 1
  not_accepted : PlanSays 15

module _ (h : House) (t hold most : ℕ) (p : Plan) where
  abbrev xs : List Range
  xs = ranges_of p

  abbrev v : View
  v = tank_at h t

  pub plan_says_lem : PlanSays (plan_number h t hold most p)
  unfolding plan_number
  plan_says_lem = cond_by PlanSays (leb 8 t) no_such_tank (cond_by PlanSays (accepts_plan hold most xs v) accepted not_accepted)

  -- an accepted one is of one of the eight tanks, and keeps the rules
  plan_in : plan_number h t hold most p ≡ 0 → t < 8
  unfolding plan_number
  plan_in z =
      elim (dec_lt t 8) [
        | yes l ↦ l
        | no l ↦ let e : plan_number h t hold most p ≡ 1 = rw (le-leb 8 t (omega arith)) in absurd (omega arith)
      ]

  plan_accepted : plan_number h t hold most p ≡ 0 → accepts_plan hold most xs v ≡ true
  unfolding plan_number
  plan_accepted z =
      let own : plan_number h t hold most p ≡ cond (accepts_plan hold most xs v) 0 15 = rw (lt-leb 8 t (plan_in z)) in
      go (accepts_plan hold most xs v) (sym own ∙ z)
    where
      go : (b : Bool) → ◌≡◌ {A = ℕ} (cond b 0 15) 0 → b ≡ true
      go true e = refl
      go false e = absurd (omega arith)

  -- refused: as it was
  pub plan_refused : 0 < plan_number h t hold most p → house_after_plan h t hold most p ≡ h
  unfolding house_after_plan
  plan_refused l = when_refused _ _ h l

  -- accepted: applied whole
  pub plan_done : plan_number h t hold most p ≡ 0 → house_after_plan h t hold most p ≡ with_tank h t (after_plan xs v)
  unfolding house_after_plan
  plan_done z = rw z

  -- the tank then holds at most r runs
  pub plan_holds : Kept h → plan_number h t hold most p ≡ 0 → held (house_after_plan h t hold most p) t ≤ most
  unfolding accepts_plan
  plan_holds kept z =
      let a = (and-eq-true_iff (leb (length xs) 32) _).0 (plan_accepted z) in
      let b = (and-eq-true_iff (may_go hold xs v) _).0 a.1 in
      let own : tank_at (house_after_plan h t hold most p) t ≡ after_plan xs v =
      ap (λ (g : House). tank_at g t) (plan_done z) ∙ with_same h t (after_plan xs v) kept.eight (plan_in z) in
      omega (arith, ap runs_held own, leb-true (runs_held (after_plan xs v)) most b.1)

  -- accepted: deletions one after another, the last range first, and none of them is refused
  pub plan_as_deletes : Kept h → plan_number h t hold most p ≡ 0 → house_after_plan h t hold most p ≡ after_all h (plan_calls t xs)
  unfolding accepts_plan may_go no_ranges after_plan plan_calls after_all
  plan_as_deletes kept z =
      let a = (and-eq-true_iff (leb (length xs) 32) _).0 (plan_accepted z) in
      let b = (and-eq-true_iff (may_go hold xs v) _).0 a.1 in
      plan_done z ∙ go v.touched refl b.0
    where
      untouched : (ys : List Range) → no_ranges ys ≡ true → with_tank h t (after_plan ys v) ≡ after_all h (plan_calls t ys)
      untouched [] e = with_own h t
      untouched (y ∷ ys) e = absurd (true≢false (sym e))

      go : (b : Bool) → v.touched ≡ b → cond b (in_order 0 v.length xs && free_of hold v xs) (no_ranges xs) ≡ true
          → with_tank h t (after_plan xs v) ≡ after_all h (plan_calls t xs)
      go true e m = sym (plan_calls_lem h kept t (plan_in z) e xs 0 ((and-eq-true_iff (in_order 0 v.length xs) _).0 m).0)
      go false e m = untouched xs m

  -- the settings' rules hold after it: 9 and 10 would have nothing to refuse
  pub plan_kept : Kept h → Kept (house_after_plan h t hold most p)
  plan_kept kept =
      elim (dec_lt 0 (plan_number h t hold most p)) [
        | yes l ↦ subst Kept (sym (plan_refused l)) kept
        | no l ↦ subst Kept (sym (plan_as_deletes kept (omega arith))) (kept_all h (plan_calls t xs) kept)
      ]

  -- no other tank changes
  pub plan_others : (u : ℕ) → u ≢ t → tank_at (house_after_plan h t hold most p) u ≡ tank_at h u
  plan_others u ne =
      elim (dec_lt 0 (plan_number h t hold most p)) [
        | yes l ↦ ap (λ (g : House). tank_at g u) (plan_refused l)
        | no l ↦ ap (λ (g : House). tank_at g u) (plan_done (omega arith)) ∙ get_or-set_other h.tanks t u (after_plan xs v) fresh_view ne
      ]

-- ---- the code's own states: a call's contract settles what it hands back
pub one_plan : (s : Tanks) (t hold most : ℕ) (p : Plan) {n n' : ℕ} {next next' : Tanks}
    → AppliedAt s t hold most p n next → AppliedAt s t hold most p n' next' → (n ≡ n') × (next ≡ next')
one_plan s t hold most p {next = next} {next' = next'} a b =
    (a.number_is ∙ sym b.number_is, unique next next' a.sound b.sound (a.is ∙ sym b.is))
