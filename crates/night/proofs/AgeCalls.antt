-- The code's own calls of ageing, one after another, are what the rules say: over after just as many as there are budgets in the stretches,
-- with all stretches reported, and with the tank that one deletion leaves.
use Prim.Native.Nat.{ℕ, ◌+◌, ◌-◌, ◌*◌, ◌≤◌, ◌<◌}
use mathlib.Core.Path.{◌≡◌, refl, sym, ap, ◌∙◌}
use mathlib.Core.Bool.{Bool, true, false, cond}
use mathlib.Core.List.{List}
use native.Mathlib.Omega.{arith}
use native.Mathlib.Nat.{div-add-mod', mod-lt, suc-mul, mul-le-mul_right}
use lib.Dec.{ltb}
use borrow.Author.Tests.{lt-leb, le-ltb, ne_eqb}
use Rattle.styles.specs.declared.Mark.{Mark}
use Rattle.styles.specs.declared.Party.TheVariants.{Plant}
use Rattle.tank.specs.Rules.{View, deleting, after, after_delete, when_accepted}
use Rattle.tanks.specs.declared.Tanks.{Tanks}
use Rattle.tanks.specs.House.{House, tank_at, with_tank, refusal_at}
use Rattle.tanks.specs.Pool.{meaning, Sound}
use Rattle.tanks.specs.Promises.{CalledAt}
use Rattle.tanks.proofs.CallLaws.{after_done}
use Rattle.tanks.proofs.MeaningLaws.{tanks_length}
use Rattle.tanks.proofs.Theorems.{with_same, kept_sound, delete_own}
use Rattle.night.specs.declared.Aged.{Aged}
use Rattle.night.specs.Ageing.{Ageing, ageing, overlapping, age_refusal, aged_part, after_age, aged_count, aged_left, aged_once, aged_times, rounded_up}
use Rattle.night.specs.Ageings.{age_number, aged_house, AgedAt, Ages, no_age, one_age}
use Rattle.night.proofs.AgeingLaws.{aged_over, aged_not_yet}
use Rattle.night.proofs.AgeLaws.{delete_accepted}

-- ---- n / b rounded up: so many b are enough for n, and fewer are not
module _ (n b k : ℕ) (some-b : 0 < b) where
  rounded_enough : rounded_up n b ≤ k → n ≤ k * b
  rounded_enough h = omega (arith, div-add-mod' (n + (b - 1)) b, mod-lt (n + (b - 1)) some-b, mul-le-mul_right b h)

  rounded_least : k < rounded_up n b → k * b < n
  rounded_least h = omega (arith, div-add-mod' (n + (b - 1)) b, suc-mul k b, mul-le-mul_right b h)

-- ---- calls one after another
-- what remains is within what is left of the tank
age_fits : (left budget : ℕ) (v : View) → left ≤ v.length → aged_left left budget v ≤ (after_age left budget v).length
unfolding aged_left after_delete
age_fits left budget v h = go v.touched (aged_part left budget v) (λ p. cond (ltb p 0) (v.at p) (v.at (p + (aged_part left budget v - 0))))
  where
    go : (b : Bool) (d : ℕ) (at : ℕ → List Mark) → cond b (left - d) 0 ≤ (cond b (record { length = v.length - (d - 0); touched = true; at = at }) v).length
    go true d at = omega arith
    go false d at = omega arith

module _ (t budget : ℕ) (t8 : t < 8) (some-budget : 0 < budget) where
  -- a call is refused nothing where `before` is within the length
  pub age_accepted : (h : House) (left : ℕ) → left ≤ (tank_at h t).length → age_number h t left budget ≡ 0
  unfolding age_number age_refusal
  age_accepted h left l = rw (lt-leb 8 t t8, ne_eqb budget 0 (λ z. omega arith), le-ltb (tank_at h t).length left l) refl

  -- the state after calls is what the rules say of its tank
  record Follows (s u : Tanks) (before k left sum : ℕ) : Type 0 where
    is : ageing (tank_at (meaning u) t) left sum ≡ aged_times budget k (ageing (tank_at (meaning s) t) before 0)
    fits : left ≤ (tank_at (meaning u) t).length

  one_call : {u : Tanks} {left : ℕ} {r : Aged} (sum : ℕ) → left ≤ (tank_at (meaning u) t).length → AgedAt u t left budget r
      → ageing (tank_at (meaning r.tanks) t) r.remaining (sum + r.dropped) ≡ aged_once budget (ageing (tank_at (meaning u) t) left sum)
  unfolding aged_house
  one_call {u} {left} {r} sum l a =
      let z = age_accepted (meaning u) left l in
      let v = tank_at (meaning u) t in
      let taken-on : aged_house (meaning u) t left budget ≡ with_tank (meaning u) t (after_age left budget v) = rw z refl in
      let given : (x : ℕ) → when_accepted (age_number (meaning u) t left budget) x 0 ≡ x = λ x. rw z refl in
      let w : tank_at (meaning r.tanks) t ≡ after_age left budget v =
      ap (λ (h : House). tank_at h t) (a.is ∙ taken-on) ∙ with_same (meaning u) t (after_age left budget v) (tanks_length u) t8 in
      let b : r.remaining ≡ aged_left left budget v = a.remaining_is ∙ given (aged_left left budget v) in
      let c : sum + r.dropped ≡ sum + aged_count left budget v = ap (λ (x : ℕ). sum + x) (a.dropped_is ∙ given (aged_count left budget v)) in
      λ i. record { tank = w i; before = b i; dropped = c i }

  ages_follow : {s u : Tanks} {before k left sum : ℕ} → before ≤ (tank_at (meaning s) t).length → Ages t budget s before k u left sum → Follows s u before k left sum
  unfolding aged_times
  ages_follow h no_age = record { is = refl; fits = h }
  ages_follow h (one_age {left = left} {sum = sum} {u = u} {w = w} c stays a) =
      let f = ages_follow h c in
      let fits : left ≤ (tank_at (meaning w) t).length = omega (arith, f.fits, ap (λ (v : View). v.length) stays) in
      let o = one_call sum fits a in
      let begun = ap (λ (v : View). ageing v left sum) stays in
      record {
        is = o ∙ ap (aged_once budget) (begun ∙ f.is);
        fits = omega (arith, ap (λ (x : Ageing). x.before) o, ap (λ (x : Ageing). x.tank.length) o, age_fits left budget (tank_at (meaning w) t) fits);
      }

  module _ {s u : Tanks} {before k left sum : ℕ} (fits : before ≤ (tank_at (meaning s) t).length) (touched : (tank_at (meaning s) t).touched ≡ true)
      (calls : Ages t budget s before k u left sum) where
    -- how many stretches there were to drop
    abbrev due : ℕ
    due = overlapping before (tank_at (meaning s) t)

    -- k budgets are enough: nothing remains, the counts sum to all stretches, and the tank is what one deletion leaves
    pub ages_over : due ≤ k * budget
        → ageing (tank_at (meaning u) t) left sum ≡ ageing (after_delete 0 before (tank_at (meaning s) t)) 0 due
    ages_over h = (ages_follow fits calls).is ∙ aged_over budget before (tank_at (meaning s) t) touched k h

    -- they are not: something remains
    pub ages_not_yet : k * budget < due → 0 < left
    ages_not_yet h = omega (arith, ap (λ (x : Ageing). x.before) (ages_follow fits calls).is, aged_not_yet budget before (tank_at (meaning s) t) touched k h)

    -- ---- in the request's words: the work is over after exactly n / b calls rounded up
    pub over_after : rounded_up due budget ≤ k → left ≡ 0
    over_after h = ap (λ (x : Ageing). x.before) (ages_over (rounded_enough due budget k some-budget h))

    pub not_over_before : k < rounded_up due budget → 0 < left
    not_over_before h = ages_not_yet (rounded_least due budget k some-budget h)

    -- the reported counts sum to n
    pub counts_sum : rounded_up due budget ≤ k → sum ≡ due
    counts_sum h = ap (λ (x : Ageing). x.dropped) (ages_over (rounded_enough due budget k some-budget h))

    -- and the tank equals what one call of delete leaves, which is accepted where there is anything to drop
    pub as_one_delete : rounded_up due budget ≤ k → 0 < before → Sound s → {number : ℕ} {next : Tanks} → CalledAt s t (deleting Plant 0 before) number next
        → (number ≡ 0) × (tank_at (meaning u) t ≡ tank_at (meaning next) t)
    unfolding after
    as_one_delete h some-before ok {next = next} called =
        let made : refusal_at (meaning s) t (deleting Plant 0 before) ≡ 0 =
        delete_own (meaning s) t Plant 0 before (kept_sound s ok) t8 ∙ delete_accepted 0 before (tank_at (meaning s) t) some-before fits in
        let left_by : tank_at (meaning next) t ≡ after_delete 0 before (tank_at (meaning s) t) =
        ap (λ (g : House). tank_at g t) (called.is ∙ after_done (meaning s) t (deleting Plant 0 before) made)
        ∙ with_same (meaning s) t (after_delete 0 before (tank_at (meaning s) t)) (tanks_length s) t8 in (
          called.number_is ∙ made,
          ap (λ (x : Ageing). x.tank) (ages_over (rounded_enough due budget k some-budget h)) ∙ sym left_by,
        )
