-- A call of ageing is a deletion of a prefix, or leaves the house as it was. So what holds of edits holds of it: it keeps the rules of the
-- settings, changes no other tank, and goes with edits and ageings of other tanks in either order.
use Prim.Native.Nat.{ℕ, ◌≤◌, ◌<◌}
use mathlib.Core.Path.{◌≡◌, sym, ap, ◌∙◌, subst}
use mathlib.Core.Bool.{cond}
use mathlib.Core.Logic.{◌≢◌}
use native.Mathlib.Omega.{arith}
use native.Mathlib.Decide.{dec_le, dec_lt}
use lib.Dec.{eqb}
use lib.Seq.{set_comm, get_or-set_other}
use borrow.Author.Tests.{le-leb, lt-leb, lt-ltb}
use Rattle.laws.proofs.Cases.{cond_by}
use Rattle.styles.specs.declared.Party.TheVariants.{Plant}
use Rattle.runs.proofs.PartLaws.{part_le}
use Rattle.tank.specs.Rules.{View, fresh_view, alike, Edit, deleting, after, after_delete, refusal, barred, empty, when_accepted}
use Rattle.tank.proofs.Calls.{when_refused}
use Rattle.tanks.specs.declared.Tanks.{Tanks}
use Rattle.tanks.specs.House.{House, tank_at, no_tank, refusal_at, with_tank, after_at}
use Rattle.tanks.specs.Pool.{meaning}
use Rattle.tanks.specs.Promises.{CalledAt}
use Rattle.tanks.proofs.CallLaws.{after_done, after_refused}
use Rattle.tanks.proofs.Theorems.{Kept, kept_call, delete_own, others_stay}
use Rattle.tanks.proofs.Unique.{unique}
use Rattle.night.specs.declared.Aged.{Aged}
use Rattle.night.specs.Ageing.{age_refusal, aged_part, after_age}
use Rattle.night.specs.Ageings.{age_number, aged_house, AgedAt}
use Rattle.night.proofs.AgeLaws.{delete_accepted, none_gone, with_own}

-- ---- an accepted call is within the tank
aged_in : (h : House) (t before budget : ℕ) → age_number h t before budget ≡ 0 → t < 8
unfolding age_number
aged_in h t before budget z =
    elim (dec_lt t 8) [
      | yes l ↦ l
      | no l ↦ let e : age_number h t before budget ≡ 1 = rw (le-leb 8 t (omega arith)) in absurd (omega arith)
    ]

over_refused : (before budget : ℕ) (v : View) → v.length < before → 0 < age_refusal before budget v
unfolding age_refusal
over_refused before budget v l = rw (lt-ltb v.length before l) (cond_by (λ (x : ℕ). 0 < x) (eqb budget 0) (omega arith) (omega arith))

aged_fits : (h : House) (t before budget : ℕ) → age_number h t before budget ≡ 0 → before ≤ (tank_at h t).length
unfolding age_number
aged_fits h t before budget z =
    let own : age_number h t before budget ≡ age_refusal before budget (tank_at h t) = rw (lt-leb 8 t (aged_in h t before budget z)) in
    elim (dec_le before (tank_at h t).length) [ yes l ↦ l | no l ↦ absurd (omega (arith, over_refused before budget (tank_at h t) (omega arith))) ]

part_within : (before budget : ℕ) (v : View) → aged_part before budget v ≤ before
unfolding aged_part
part_within before budget v = cond_by (λ (x : ℕ). x ≤ before) v.touched (part_le (alike v.at) budget before) (omega arith)

module _ (h : House) (t before budget : ℕ) where
  -- how many positions go
  abbrev gone : ℕ
  gone = aged_part before budget (tank_at h t)

  -- refused: as it was
  pub aged_refused : 0 < age_number h t before budget → aged_house h t before budget ≡ h
  unfolding aged_house
  aged_refused l = when_refused _ _ h l

  aged_done : age_number h t before budget ≡ 0 → aged_house h t before budget ≡ with_tank h t (after_age before budget (tank_at h t))
  unfolding aged_house
  aged_done z = rw z

  -- accepted: one deletion of a prefix, or of nothing where nothing is left to do
  pub aged_as_delete : Kept h → age_number h t before budget ≡ 0 → aged_house h t before budget ≡ after_at h t (deleting Plant 0 gone)
  unfolding after refusal barred empty
  aged_as_delete kept z =
      let t8 = aged_in h t before budget z in
      elim (dec_lt 0 gone) [
        | yes some ↦
            let fits : gone ≤ (tank_at h t).length = omega (arith, aged_fits h t before budget z, part_within before budget (tank_at h t)) in
            aged_done z ∙ sym (after_done h t (deleting Plant 0 gone) (delete_own h t Plant 0 gone kept t8 ∙ delete_accepted 0 gone (tank_at h t) some fits))
        | no none ↦
            let e : gone ≡ 0 = omega arith in
            let three : refusal_at h t (deleting Plant 0 0) ≡ 3 = delete_own h t Plant 0 0 kept t8 in
            aged_done z
            ∙ ap (λ (d : ℕ). with_tank h t (after_delete 0 d (tank_at h t))) e
            ∙ ap (with_tank h t) (none_gone (tank_at h t))
            ∙ with_own h t
            ∙ sym (ap (λ (d : ℕ). after_at h t (deleting Plant 0 d)) e ∙ after_refused h t (deleting Plant 0 0) (omega arith))
      ]

  -- the settings' rules hold after it
  pub aged_kept : Kept h → Kept (aged_house h t before budget)
  aged_kept kept =
      elim (dec_lt 0 (age_number h t before budget)) [
        | yes l ↦ subst Kept (sym (aged_refused l)) kept
        | no l ↦ subst Kept (sym (aged_as_delete kept (omega arith))) (kept_call h t (deleting Plant 0 gone) kept)
      ]

  -- no other tank changes
  pub aged_others : (u : ℕ) → u ≢ t → tank_at (aged_house h t before budget) u ≡ tank_at h u
  aged_others u ne =
      elim (dec_lt 0 (age_number h t before budget)) [
        | yes l ↦ ap (λ (g : House). tank_at g u) (aged_refused l)
        | no l ↦
            ap (λ (g : House). tank_at g u) (aged_done (omega arith))
            ∙ get_or-set_other h.tanks t u (after_age before budget (tank_at h t)) fresh_view ne
      ]

-- ---- either order
-- what a call makes of its tank, refused or not
abbrev aged_by : ℕ → ℕ → ℕ → View → View
aged_by t before budget v = when_accepted (cond (no_tank t) 1 (age_refusal before budget v)) (after_age before budget v) v

aged_own : (h : House) (t before budget : ℕ) → aged_house h t before budget ≡ with_tank h t (aged_by t before budget (tank_at h t))
unfolding age_number
aged_own h t before budget =
    elim (dec_lt 0 (age_number h t before budget)) [
      | yes l ↦ aged_refused h t before budget l ∙ sym (ap (with_tank h t) (when_refused (age_number h t before budget) _ _ l) ∙ with_own h t)
      | no l ↦
          let z : age_number h t before budget ≡ 0 = omega arith in
          aged_done h t before budget z ∙ ap (with_tank h t) (sym (ap (λ (n : ℕ). when_accepted n (after_age before budget (tank_at h t)) (tank_at h t)) z))
    ]

swapped : (h : House) (t u : ℕ) (v w : View) → t ≢ u → with_tank (with_tank h t v) u w ≡ with_tank (with_tank h u w) t v
swapped h t u v w ne = λ i. record { settings = h.settings; tanks = set_comm h.tanks t u v w ne i }

-- ageings of two tanks, refused or not: what each does, and its number, is settled by its own tank
pub ages_either_order : (h : House) (t u before budget before' budget' : ℕ) → t ≢ u
    → aged_house (aged_house h t before budget) u before' budget' ≡ aged_house (aged_house h u before' budget') t before budget
ages_either_order h t u before budget before' budget' ne =
    aged_own (aged_house h t before budget) u before' budget'
    ∙ ap (λ (v : View). with_tank (aged_house h t before budget) u (aged_by u before' budget' v)) (aged_others h t before budget u (λ e. ne (sym e)))
    ∙ ap (λ (g : House). with_tank g u (aged_by u before' budget' (tank_at h u))) (aged_own h t before budget)
    ∙ swapped h t u _ _ ne
    ∙ sym (ap (λ (g : House). with_tank g t (aged_by t before budget (tank_at h t))) (aged_own h u before' budget'))
    ∙ sym (ap (λ (v : View). with_tank (aged_house h u before' budget') t (aged_by t before budget v)) (aged_others h u before' budget' t ne))
    ∙ sym (aged_own (aged_house h u before' budget') t before budget)

-- an ageing, and an edit of another tank that is accepted before it and after it
pub age_edit_either_order : (h : House) (t u before budget : ℕ) (f : Edit) → t ≢ u → refusal_at h u f ≡ 0 → refusal_at (aged_house h t before budget) u f ≡ 0
    → after_at (aged_house h t before budget) u f ≡ aged_house (after_at h u f) t before budget
age_edit_either_order h t u before budget f ne first then-u =
    after_done (aged_house h t before budget) u f then-u
    ∙ ap (λ (v : View). with_tank (aged_house h t before budget) u (after f v)) (aged_others h t before budget u (λ e. ne (sym e)))
    ∙ ap (λ (g : House). with_tank g u (after f (tank_at h u))) (aged_own h t before budget)
    ∙ swapped h t u _ _ ne
    ∙ sym (ap (λ (g : House). with_tank g t (aged_by t before budget (tank_at h t))) (after_done h u f first))
    ∙ sym (ap (λ (v : View). with_tank (after_at h u f) t (aged_by t before budget v)) (others_stay h u f t ne))
    ∙ sym (aged_own (after_at h u f) t before budget)

-- ---- the same of the code's own states: there they are equal place by place
pub state_ages_either_order : (s : Tanks) (t u before budget before' budget' : ℕ) (a b a' b' : Aged) → t ≢ u
    → AgedAt s t before budget a → AgedAt a.tanks u before' budget' b → AgedAt s u before' budget' a' → AgedAt a'.tanks t before budget b'
    → b.tanks ≡ b'.tanks
state_ages_either_order s t u before budget before' budget' a b a' b' ne p q p' q' =
    unique b.tanks b'.tanks q.sound q'.sound
    (q.is ∙ ap (λ (g : House). aged_house g u before' budget') p.is
    ∙ ages_either_order (meaning s) t u before budget before' budget' ne
    ∙ sym (ap (λ (g : House). aged_house g t before budget) p'.is) ∙ sym q'.is)

pub state_age_edit_either_order : (s x y : Tanks) (t u before budget : ℕ) (f : Edit) (a b : Aged) → t ≢ u
    → AgedAt s t before budget a → CalledAt a.tanks u f 0 y → CalledAt s u f 0 x → AgedAt x t before budget b → y ≡ b.tanks
state_age_edit_either_order s x y t u before budget f a b ne p q p' q' =
    unique y b.tanks q.sound q'.sound
    (q.is ∙ ap (λ (g : House). after_at g u f) p.is
    ∙ age_edit_either_order (meaning s) t u before budget f ne
    (sym p'.number_is)
    (sym (ap (λ (g : House). refusal_at g u f) p.is) ∙ sym q.number_is)
    ∙ sym (ap (λ (g : House). aged_house g t before budget) p'.is) ∙ sym q'.is)
