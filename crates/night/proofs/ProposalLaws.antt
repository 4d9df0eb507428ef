-- The proposer's code by its cases: a plan is tried as any plan is, and halving ends at the least position.
use Prim.Native.Nat.{ℕ, ◌+◌, ◌-◌, ◌/◌, ◌≤◌, ◌<◌}
use mathlib.Core.Path.{◌≡◌, refl, sym, ap, ◌∙◌, subst}
use mathlib.Core.Bool.{Bool, true, false, cond, true≢false}
use mathlib.Core.List.{List, []}
use Rattle.std.proofs.Common.{Option, Some, None, Ok, Err}
use native.Mathlib.Omega.{arith}
use native.Mathlib.Decide.{dec_lt}
use lib.Dec.{eqb}
use borrow.Author.Tests.{le-leb, lt-leb}
use Rattle.tank.specs.declared.Tank.{Tank}
use Rattle.tank.specs.Rules.{View}
use Rattle.tank.specs.State.{view, Formed}
use Rattle.tanks.specs.declared.Tanks.{Tanks}
use Rattle.tanks.specs.House.{tank_at}
use Rattle.tanks.specs.Pool.{meaning}
use Rattle.tanks.specs.Promises.{Taken}
use Rattle.night.specs.declared.Range.{Range}
use Rattle.night.specs.declared.Plan.{Plan}
use Rattle.night.specs.Plans.{plan_of, accepts_plan}
use Rattle.night.specs.Planning.{plan_number, AppliedAt}
use Rattle.night.specs.Proposing.{unheld_below, works_below, least_below, proposed, proposal_of, proposal_at, CanNarrow}
use Rattle.night.proofs.FitLaws.{ranges_plan}
use Rattle.night.proofs.ProposeLaws.{is_false, least_within, works_later, works_touched, works_least, proposed_nothing, proposed_some, proposed_no, Between, narrowed}

module _ (s : Tanks) (t : ℕ) where
  abbrev w : View
  w = tank_at (meaning s) t

  -- ---- trying
  pub can_below : {x : Tank} {below : ℕ} → Taken s t x → below ≤ w.length → (Formed x) × (below ≤ x.length)
  unfolding view
  can_below k l = (k.sound.formed, omega (arith, ap (λ (v : View). v.length) k.is))

  pub length_is : {x : Tank} → Taken s t x → x.length ≡ w.length
  unfolding view
  length_is k = ap (λ (v : View). v.length) k.is

  module _ (hold most : ℕ) where
    pub below_is : {x : Tank} (below : ℕ) {plan : Plan} → Taken s t x → plan ≡ plan_of (unheld_below hold (view x) below) → plan ≡ plan_of (unheld_below hold w below)
    below_is below k e = e ∙ ap (λ (v : View). plan_of (unheld_below hold v below)) k.is

    module _ (t8 : t < 8) where
      -- what a call says of a plan
      pub said : (xs : List Range) {plan : Plan} {n : ℕ} {next : Tanks} → plan ≡ plan_of xs → AppliedAt s t hold most plan n next → eqb n 0 ≡ accepts_plan hold most xs w
      unfolding plan_number
      said xs {n = n} {next = next} e a =
          let c = subst (λ (p : Plan). AppliedAt s t hold most p n next) e a in
          let own : n ≡ cond (accepts_plan hold most xs w) 0 15 =
          c.number_is ∙ rw (lt-leb 8 t t8) (ap (λ (ys : List Range). cond (accepts_plan hold most ys w) 0 15) (ranges_plan xs)) in
          ap (λ (m : ℕ). eqb m 0) own ∙ go (accepts_plan hold most xs w)
        where
          go : (b : Bool) → eqb (cond b 0 15) 0 ≡ b
          go true = refl
          go false = refl

    -- ---- halving
    module _ {length : ℕ} (can : CanNarrow s t hold most length) where
      touched : w.touched ≡ true
      touched = works_touched hold w most length can.some can.all

      -- where all would do and nothing would not, there is a position
      some_length : 0 < length
      some_length =
          elim (dec_lt 0 length) [
            | yes h ↦ h
            | no h ↦ let z : length ≡ 0 = omega arith in absurd (true≢false (sym can.all ∙ ap (works_below hold most w) z ∙ can.some))
          ]

      pub wide : Between hold w most 0 length
      wide = let z = can.whole in record { some = some_length; fits = omega arith; refused = can.some; accepted = can.all }

      module _ {low high : ℕ} (b : Between hold w most low high) where
        pub narrow_end : high - low ≤ 1 → high ≡ least_below hold most w
        narrow_end h = narrowed hold w most touched low high b (omega arith)

        pub narrow_high : (r : Bool) → r ≡ works_below hold most w (low + (high - low) / 2) → r ≡ true → 1 < high - low → Between hold w most low (low + (high - low) / 2)
        narrow_high r e y h =
            let s = b.some in
            let f = b.fits in
            record { some = omega arith; fits = omega arith; refused = b.refused; accepted = sym e ∙ y }

        pub narrow_low : (r : Bool) → r ≡ works_below hold most w (low + (high - low) / 2) → r ≡ false → 1 < high - low → Between hold w most (low + (high - low) / 2) high
        narrow_low r e y h =
            let s = b.some in
            let f = b.fits in
            record { some = omega arith; fits = f; refused = sym e ∙ y; accepted = b.accepted }

    -- ---- the answer
    pub propose_1 : 8 ≤ t → Err 1 ≡ proposal_at (meaning s) t hold most
    unfolding proposal_at
    propose_1 h = rw (le-leb 8 t h)

    module _ (t8 : t < 8) where
      proposal_is : (o : Option (List Range)) → proposed hold most w ≡ o → Ok (proposal_of o) ≡ proposal_at (meaning s) t hold most
      unfolding proposal_at
      proposal_is o e = rw (lt-leb 8 t t8) (sym (ap (λ (o : Option (List Range)). Ok (proposal_of o)) e))

      pub propose_nothing : works_below hold most w 0 ≡ true → Ok (Some (plan_of [])) ≡ proposal_at (meaning s) t hold most
      unfolding proposal_of
      propose_nothing e = proposal_is (Some []) (proposed_nothing hold w most e)

      pub propose_some : (length : ℕ) → length ≡ w.length → works_below hold most w length ≡ true → (p : ℕ) → p ≡ least_below hold most w
          → Ok (Some (plan_of (unheld_below hold w p))) ≡ proposal_at (meaning s) t hold most
      unfolding proposal_of
      propose_some length l e p z =
          ap (λ (q : ℕ). Ok (Some (plan_of (unheld_below hold w q)))) z
          ∙ proposal_is (Some (unheld_below hold w (least_below hold most w))) (proposed_some hold w most (works_least hold w most length (omega arith) e))

      pub propose_none : (length : ℕ) → length ≡ w.length → works_below hold most w 0 ≡ false → works_below hold most w length ≡ false
          → Ok None ≡ proposal_at (meaning s) t hold most
      unfolding proposal_of
      propose_none length l first last =
          proposal_is None
          (proposed_no hold w most
          (is_false (works_below hold most w (least_below hold most w))
          (λ y.
          let t = works_touched hold w most (least_below hold most w) first y in
          let in-length = least_within hold w most in
          true≢false (sym (works_later hold w most t (least_below hold most w) length (omega arith) (omega arith) y) ∙ last))))
