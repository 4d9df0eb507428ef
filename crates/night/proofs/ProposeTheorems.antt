-- What the proposer answers over eight tanks: any plan it gives is accepted; where the tank already holds at most r it gives the empty
-- plan; and on a touched tank whose unheld positions form at most 32 ranges it says "no plan" exactly when none would be accepted.
use Prim.Native.Nat.{ℕ, ◌≤◌, ◌<◌}
use mathlib.Core.Path.{◌≡◌, refl, sym, ap, ◌∙◌}
use mathlib.Core.Bool.{Bool, true, false, cond}
use mathlib.Core.List.{List, []}
use Rattle.std.proofs.Common.{Option, Some, None, Result, Ok}
use native.Mathlib.Omega.{arith}
use borrow.Author.Tests.{lt-leb}
use Rattle.tank.specs.Rules.{View}
use Rattle.tanks.specs.House.{House, tank_at, held}
use Rattle.night.specs.declared.Range.{Range}
use Rattle.night.specs.declared.Plan.{Plan}
use Rattle.night.specs.Plans.{ranges_of, plan_of, accepts_plan}
use Rattle.night.specs.Planning.{plan_number}
use Rattle.night.specs.Proposing.{unheld_at, proposed, proposal_of, proposal_at, range_count}
use Rattle.night.proofs.FitLaws.{ranges_plan}
use Rattle.night.proofs.ProposeLaws.{proposed_accepted, proposed_empty, proposed_none}

module _ (h : House) (t hold most : ℕ) (t8 : t < 8) where
  abbrev v : View
  v = tank_at h t

  abbrev answer : Result (Option Plan) ℕ
  answer = proposal_at h t hold most

  -- the answer, by what is proposed
  answer_is : (o : Option (List Range)) → proposed hold most v ≡ o → answer ≡ Ok (proposal_of o)
  unfolding proposal_at
  answer_is o e = rw (lt-leb 8 t t8) (ap (λ (o : Option (List Range)). Ok (proposal_of o)) e)

  number_of : (p : Plan) (b : Bool) → accepts_plan hold most (ranges_of p) v ≡ b → plan_number h t hold most p ≡ cond b 0 15
  unfolding plan_number
  number_of p b e = rw (lt-leb 8 t t8, e) refl

  -- any plan it gives is accepted
  pub given_accepted : (p : Plan) → answer ≡ Ok (Some p) → plan_number h t hold most p ≡ 0
  unfolding proposal_of
  given_accepted p f = go (proposed hold most v) refl
    where
      go : (o : Option (List Range)) → proposed hold most v ≡ o → plan_number h t hold most p ≡ 0
      go None e = let g : Ok (Some p) ≡ Ok None = sym f ∙ answer_is None e in cc
      go (Some xs) e =
          let g : Ok (Some p) ≡ Ok (Some (plan_of xs)) = sym f ∙ answer_is (Some xs) e in
          let same : p ≡ plan_of xs = cc in
          ap (plan_number h t hold most) same
          ∙ number_of (plan_of xs) true (ap (λ (ys : List Range). accepts_plan hold most ys v) (ranges_plan xs) ∙ proposed_accepted hold v most xs e)

  -- the empty plan where the tank already holds at most r, touched or not
  pub given_empty : held h t ≤ most → answer ≡ Ok (Some (plan_of []))
  unfolding proposal_of
  given_empty l = answer_is (Some []) (proposed_empty hold v most l)

  -- it says "no plan": whoever makes one, it is not accepted
  pub no_plan_then : v.touched ≡ true → range_count (unheld_at hold v) v.length ≤ 32 → answer ≡ Ok None → (p : Plan) → plan_number h t hold most p ≡ 15
  unfolding proposal_of
  no_plan_then touched few f p = go (proposed hold most v) refl
    where
      go : (o : Option (List Range)) → proposed hold most v ≡ o → plan_number h t hold most p ≡ 15
      go None e = number_of p false (proposed_none hold v most touched few e (ranges_of p))
      go (Some xs) e = let g : Ok None ≡ Ok (Some (plan_of xs)) = sym f ∙ answer_is (Some xs) e in cc

  -- and where none is accepted it says so
  pub no_plan_only : ((p : Plan) → plan_number h t hold most p ≡ 15) → answer ≡ Ok None
  unfolding proposal_of
  no_plan_only none_is = go (proposed hold most v) refl
    where
      go : (o : Option (List Range)) → proposed hold most v ≡ o → answer ≡ Ok None
      go None e = answer_is None e
      go (Some xs) e = absurd (omega (arith, given_accepted (plan_of xs) (answer_is (Some xs) e), none_is (plan_of xs)))
