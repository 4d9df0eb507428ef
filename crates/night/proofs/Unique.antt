-- What a call of ageing hands back is settled by its contract, and beside a refusal it is the very same state.
use Prim.Native.Nat.{ℕ, ◌<◌}
use mathlib.Core.Path.{◌≡◌, sym, ◌∙◌}
use native.Mathlib.Omega.{arith}
use Rattle.styles.specs.declared.Party.{Party}
use Rattle.tank.proofs.Calls.{when_refused}
use Rattle.tanks.specs.declared.Tanks.{Tanks}
use Rattle.tanks.specs.Pool.{meaning, Sound}
use Rattle.tanks.proofs.Unique.{unique}
use Rattle.night.specs.declared.Aged.{Aged}
use Rattle.night.specs.declared.Plan.{Plan}
use Rattle.night.specs.Ageings.{AgedAt, AgedBy, age_number_by, aged_house_by}
use Rattle.night.specs.Planning.{AppliedBy}
use Rattle.night.proofs.Theorems.{aged_refused}

pub one_age_lem : (s : Tanks) (t before budget : ℕ) (r r' : Aged) → AgedAt s t before budget r → AgedAt s t before budget r' → r ≡ r'
one_age_lem s t before budget r r' p q =
    let a : r.number ≡ r'.number = p.number_is ∙ sym q.number_is in
    let b : r.dropped ≡ r'.dropped = p.dropped_is ∙ sym q.dropped_is in
    let c : r.remaining ≡ r'.remaining = p.remaining_is ∙ sym q.remaining_is in
    let d : r.tanks ≡ r'.tanks = unique r.tanks r'.tanks p.sound q.sound (p.is ∙ sym q.is) in
    λ i. record { number = a i; dropped = b i; remaining = c i; tanks = d i }

pub age_refused_same : (s : Tanks) (t before budget : ℕ) (r : Aged) → Sound s → AgedAt s t before budget r → 0 < r.number → r.tanks ≡ s
age_refused_same s t before budget r ok p h =
    unique r.tanks s p.sound ok (p.is ∙ aged_refused (meaning s) t before budget (omega (arith, p.number_is)))

-- the same of a party's call
pub one_age_by : (s : Tanks) (t : ℕ) (who : Party) (before budget : ℕ) (r r' : Aged) → AgedBy s t who before budget r → AgedBy s t who before budget r' → r ≡ r'
one_age_by s t who before budget r r' p q =
    let a : r.number ≡ r'.number = p.number_is ∙ sym q.number_is in
    let b : r.dropped ≡ r'.dropped = p.dropped_is ∙ sym q.dropped_is in
    let c : r.remaining ≡ r'.remaining = p.remaining_is ∙ sym q.remaining_is in
    let d : r.tanks ≡ r'.tanks = unique r.tanks r'.tanks p.sound q.sound (p.is ∙ sym q.is) in
    λ i. record { number = a i; dropped = b i; remaining = c i; tanks = d i }

pub age_by_refused_same : (s : Tanks) (t : ℕ) (who : Party) (before budget : ℕ) (r : Aged) → Sound s → AgedBy s t who before budget r → 0 < r.number → r.tanks ≡ s
unfolding aged_house_by
age_by_refused_same s t who before budget r ok p h =
    unique r.tanks s p.sound ok (p.is ∙ when_refused (age_number_by (meaning s) t who before budget) _ (meaning s) (omega (arith, p.number_is)))

-- and of a plan that a party applies
pub one_plan_by : (s : Tanks) (t : ℕ) (who : Party) (hold most : ℕ) (p : Plan) {n n' : ℕ} {next next' : Tanks}
    → AppliedBy s t who hold most p n next → AppliedBy s t who hold most p n' next' → (n ≡ n') × (next ≡ next')
one_plan_by s t who hold most p {next = next} {next' = next'} a b =
    (a.number_is ∙ sym b.number_is, unique next next' a.sound b.sound (a.is ∙ sym b.is))
