-- A night's call by a party: the plant's is the one without a party, and the laboratory's is a refusal.
use Prim.Native.Nat.{ℕ}
use mathlib.Core.Path.{◌≡◌, refl, sym, ap, subst, ◌∙◌}
use mathlib.Core.Bool.{true, false, false≢true, true≢false}
use Rattle.laws.proofs.Cases.{cond_by}
use Rattle.styles.specs.declared.Party.{Party}
use Rattle.styles.specs.declared.Party.TheVariants.{Plant, Lab}
use Rattle.tank.specs.Rules.{is_lab, when_accepted}
use Rattle.tanks.specs.declared.Tanks.{Tanks}
use Rattle.tanks.specs.House.{no_tank}
use Rattle.tanks.specs.Pool.{meaning, Sound}
use Rattle.night.specs.declared.Aged.{Aged}
use Rattle.night.specs.declared.Plan.{Plan}
use Rattle.night.specs.Ageings.{age_number, aged_house, AgedAt, LeftAlone, age_number_by, aged_house_by, dropped_by, remaining_by, AgedBy, barred_number}
use Rattle.night.specs.Planning.{plan_number, house_after_plan, AppliedAt, plan_number_by, house_after_plan_by, AppliedBy}

-- what stands beside a number that the laboratory gets
beside : {A : Type 0} (t : ℕ) (x y : A) → y ≡ when_accepted (barred_number t) x y
beside t x y = cond_by (λ (n : ℕ). y ≡ when_accepted n x y) (no_tank t) refl refl

-- ageing
pub plant_ages : {s : Tanks} {t before budget : ℕ} {r : Aged} (who : Party) → is_lab who ≡ false → AgedAt s t before budget r → AgedBy s t who before budget r
unfolding age_number aged_house age_number_by aged_house_by dropped_by remaining_by
plant_ages Plant e p = record { number_is = p.number_is; dropped_is = p.dropped_is; remaining_is = p.remaining_is; is = p.is; sound = p.sound }
plant_ages Lab e p = absurd (true≢false e)

pub lab_ages : {s : Tanks} {t before budget : ℕ} {r : Aged} (who : Party) → is_lab who ≡ true → Sound s → LeftAlone s (barred_number t) r → AgedBy s t who before budget r
unfolding age_number_by aged_house_by dropped_by remaining_by
lab_ages Plant e ok p = absurd (false≢true e)
lab_ages {s} {t} Lab e ok p =
    record { number_is = p.0; dropped_is = p.1 ∙ beside t _ _; remaining_is = p.2 ∙ beside t _ _; is = ap meaning p.3 ∙ beside t _ _; sound = subst Sound (sym p.3) ok }

-- and back, so that all that is said of ageing is said of the plant's calls
pub as_plant_ages : {s : Tanks} {t before budget : ℕ} {r : Aged} → AgedBy s t Plant before budget r → AgedAt s t before budget r
unfolding age_number aged_house age_number_by aged_house_by dropped_by remaining_by
as_plant_ages p = record { number_is = p.number_is; dropped_is = p.dropped_is; remaining_is = p.remaining_is; is = p.is; sound = p.sound }

-- a plan
pub plant_applies : {s : Tanks} {t hold most : ℕ} {p : Plan} {n : ℕ} {next : Tanks} (who : Party) → is_lab who ≡ false
    → AppliedAt s t hold most p n next → AppliedBy s t who hold most p n next
unfolding plan_number house_after_plan plan_number_by house_after_plan_by
plant_applies Plant e a = record { number_is = a.number_is; is = a.is; sound = a.sound; stays = a.stays }
plant_applies Lab e a = absurd (true≢false e)

pub lab_applies : {s : Tanks} {t hold most : ℕ} {p : Plan} {n : ℕ} (who : Party) → is_lab who ≡ true → Sound s → n ≡ barred_number t
    → AppliedBy s t who hold most p n s
unfolding plan_number_by house_after_plan_by
lab_applies Plant e ok b = absurd (false≢true e)
lab_applies {t = t} Lab e ok b = record { number_is = b; is = beside t _ _; sound = ok; stays = λ _. refl }

pub as_plant_applies : {s : Tanks} {t hold most : ℕ} {p : Plan} {n : ℕ} {next : Tanks} → AppliedBy s t Plant hold most p n next → AppliedAt s t hold most p n next
unfolding plan_number house_after_plan plan_number_by house_after_plan_by
as_plant_applies a = record { number_is = a.number_is; is = a.is; sound = a.sound; stays = a.stays }
