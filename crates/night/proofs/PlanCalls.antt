-- A plan applied is deletions one after another, none of them refused: so what is said of calls in a row is said of plans.
use Prim.Native.Nat.{ℕ, ◌<◌}
use mathlib.Core.Path.{◌≡◌, sym, ap, ap₂, ◌∙◌}
use mathlib.Core.Bool.{true}
use mathlib.Core.List.{List, [], ◌∷◌, foldl-append}
use native.Mathlib.Omega.{arith}
use Rattle.styles.specs.declared.Party.TheVariants.{Plant}
use Rattle.tank.specs.Rules.{View, deleting, after}
use Rattle.tanks.specs.House.{House, tank_at, with_tank, refusal_at, after_at, Call, after_all}
use Rattle.tanks.proofs.CallLaws.{after_done}
use Rattle.tanks.proofs.Theorems.{Kept, kept_all, delete_own, with_same}
use Rattle.night.specs.declared.Range.{Range}
use Rattle.night.specs.Plans.{in_order, after_plan}
use Rattle.night.specs.Planning.{plan_calls}
use Rattle.night.proofs.AgeLaws.{delete_accepted, with_own}
use Rattle.night.proofs.PlanLaws.{ordered, plan_reaches}
use Rattle.night.proofs.ApplyLaws.{with_twice, after_range}

module _ (h : House) (kept : Kept h) (t : ℕ) (t8 : t < 8) (touched : (tank_at h t).touched ≡ true) where
  abbrev v : View
  v = tank_at h t

  pub plan_calls_lem : (xs : List Range) (from : ℕ) → in_order from v.length xs ≡ true → after_all h (plan_calls t xs) ≡ with_tank h t (after_plan xs v)
  unfolding after_all plan_calls after_plan
  plan_calls_lem [] from e = sym (with_own h t)
  plan_calls_lem (x ∷ xs) from e =
      let o = ordered from v.length x xs e in
      let g = after_all h (plan_calls t xs) in
      let rest : g ≡ with_tank h t (after_plan xs v) = plan_calls_lem xs x.end o.rest in
      let own : tank_at g t ≡ after_plan xs v = ap (λ (k : House). tank_at k t) rest ∙ with_same h t (after_plan xs v) kept.eight t8 in
      let len = ap (λ (w : View). w.length) own in
      let made : refusal_at g t (deleting Plant x.start x.end) ≡ 0 =
      delete_own g t Plant x.start x.end (kept_all h (plan_calls t xs) kept) t8
      ∙ delete_accepted x.start x.end (tank_at g t) o.some (omega (arith, plan_reaches v touched xs x.end o.rest)) in
      foldl-append (λ (k : House) (c : Call). after_at k c.tank c.edit) h (plan_calls t xs) (record { tank = t; edit = deleting Plant x.start x.end } ∷ [])
      ∙ after_done g t (deleting Plant x.start x.end) made
      ∙ ap₂ (λ (k : House) (w : View). with_tank k t (after (deleting Plant x.start x.end) w)) rest own
      ∙ with_twice h t (after_plan xs v) (after (deleting Plant x.start x.end) (after_plan xs v))
      ∙ ap (with_tank h t) (after_range x xs v)
