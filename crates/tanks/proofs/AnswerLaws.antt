-- What stands beside the number: the tank's own answer where the call is done, the empty set or 0 where it is refused.
use Prim.Native.Nat.{ℕ, ◌≤◌, ◌<◌}
use mathlib.Core.Path.{◌≡◌, refl, sym, ap, ◌∙◌}
use mathlib.Core.List.{[]}
use native.Mathlib.Omega.{arith}
use Rattle.styles.specs.Answers.{styles_of}
use Rattle.tank.specs.declared.Tank.{Tank}
use Rattle.tank.specs.Rules.{fresh_view, Edit, annotating, inserting, deleting, removing, shown_to, refusal, inserted_set, removed_first, View, for_insert, back_from, when_accepted}
use Rattle.tank.specs.State.{view, Sound}
use Rattle.tank.proofs.Calls.{when_refused}
use Rattle.tanks.specs.declared.Tanks.{Tanks}
use Rattle.tanks.specs.House.{tank_at, own_at, refusal_at, inserted_set_at, removed_first_at}
use Rattle.tanks.specs.Pool.{meaning}
use Rattle.tanks.specs.Promises.{Coming, CalledAt, Taken, set_beside, first_beside, Performed, PerformedAs, DoneAt}
use Rattle.tanks.proofs.SettingLaws.{first_zero, TakenOut}
use Rattle.tanks.proofs.MeaningLaws.{tank_at_lem, tank_past}
use Rattle.tanks.proofs.CallLaws.{refusal_in}

module _ (s : Tanks) (t : ℕ) where
  own_zero : (e : Edit) → t < 8 → refusal_at (meaning s) t e ≡ 0 → refusal e (tank_at (meaning s) t) ≡ 0
  own_zero e h z = first_zero (refusal e (tank_at (meaning s) t)) _ (first_zero (own_at (meaning s) t e) _ (sym (refusal_in (meaning s) t e h) ∙ z))

  -- what a tank taken out means
  own_view : (x : Tank) → t < 8 → TakenOut s t x → view x ≡ tank_at (meaning s) t
  own_view x h taken = ap view taken.is ∙ sym (tank_at_lem s t h)

  pub taken_in : {x : Tank} → t < 8 → TakenOut s t x → Taken s t x
  taken_in {x} h out = record { is = own_view x h out; sound = out.sound }

  -- a fresh tank where there is none
  pub taken_past : {x : Tank} → 8 ≤ t → (Sound x) × (view x ≡ fresh_view) → Taken s t x
  taken_past h new = record { is = new.1 ∙ sym (tank_past s t h); sound = new.0 }

  -- what stands beside an edit's number: the tank's own, where the house accepts it
  beside_done : {A : Type 0} (e : Edit) (given : View → A) (none : A) (x : Tank) → t < 8 → TakenOut s t x → refusal_at (meaning s) t e ≡ 0
      → when_accepted (refusal e (view x)) (given (view x)) none ≡ when_accepted (refusal_at (meaning s) t e) (given (tank_at (meaning s) t)) none
  beside_done e given none x h taken z = rw (own_view x h taken, z, own_zero e h z)

  -- the same for every edit
  set_beside_lem : (e : Edit) (x : Tank) → t < 8 → TakenOut s t x → refusal_at (meaning s) t e ≡ 0 → set_beside (λ who pos len. inserted_set who pos len (view x)) e ≡ set_beside (inserted_set_at (meaning s) t) e
  unfolding inserted_set_at
  set_beside_lem (annotating a b m) x h taken z = refl
  set_beside_lem (inserting who pos len) x h taken z = beside_done (inserting who pos len) (λ v. for_insert pos (shown_to who v)) [] x h taken z
  set_beside_lem (deleting who a b) x h taken z = refl
  set_beside_lem (removing id last) x h taken z = refl

  first_beside_lem : (e : Edit) (x : Tank) → t < 8 → TakenOut s t x → refusal_at (meaning s) t e ≡ 0 → first_beside (λ id last. removed_first id last (view x)) e ≡ first_beside (removed_first_at (meaning s) t) e
  unfolding removed_first_at
  first_beside_lem (annotating a b m) x h taken z = refl
  first_beside_lem (inserting who pos len) x h taken z = refl
  first_beside_lem (deleting who a b) x h taken z = refl
  first_beside_lem (removing id last) x h taken z = beside_done (removing id last) (back_from id last) 0 x h taken z

  no_set_lem : (e : Edit) → 0 < refusal_at (meaning s) t e → [] ≡ set_beside (inserted_set_at (meaning s) t) e
  unfolding inserted_set_at
  no_set_lem (annotating a b m) h = refl
  no_set_lem (inserting who pos len) h = sym (when_refused _ _ _ h)
  no_set_lem (deleting who a b) h = refl
  no_set_lem (removing id last) h = refl

  no_first : (e : Edit) → 0 < refusal_at (meaning s) t e → 0 ≡ first_beside (removed_first_at (meaning s) t) e
  unfolding removed_first_at
  no_first (annotating a b m) h = refl
  no_first (inserting who pos len) h = refl
  no_first (deleting who a b) h = refl
  no_first (removing id last) h = sym (when_refused _ _ _ h)

  -- a refused edit
  pub done_refused : (e : Edit) (v : ℕ) (r : Coming) → CalledAt s t e v s → 0 < v → (r.number ≡ v) × (r.styles ≡ styles_of []) × (r.first ≡ 0) × (r.tanks ≡ s) → DoneAt s t e r
  done_refused e v r called h is =
      let l : 0 < refusal_at (meaning s) t e = omega (arith, called.number_is) in
      record {
        called = rw (is.0, is.3) called;
        styles_are = is.1 ∙ ap styles_of (no_set_lem e l);
        first_is = is.2 ∙ no_first e l;
      }

  -- an edit that is done: the answer is the tank's own
  pub done_by : (e : Edit) (x : Tank) (p : Performed) (next : Tanks) → t < 8 → TakenOut s t x → PerformedAs e x p → CalledAt s t e 0 next
      → DoneAt s t e (record { number = 0; styles = p.styles; first = p.first; tanks = next })
  done_by e x p next h taken performed called =
      let z = sym called.number_is in
      record {
        called = called;
        styles_are = performed.styles_are ∙ ap styles_of (set_beside_lem e x h taken z);
        first_is = performed.first_is ∙ first_beside_lem e x h taken z;
      }
