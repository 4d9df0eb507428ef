-- A call of ageing by its cases.
use Prim.Native.Nat.{ℕ, zero, suc, ◌+◌, ◌-◌, ◌≤◌, ◌<◌}
use mathlib.Core.Path.{◌≡◌, refl, sym, ap, ap₂, ◌∙◌, fun_ext}
use mathlib.Core.Bool.{Bool, true, false, cond}
use native.Mathlib.Omega.{arith}
use lib.Dec.{ltb}
use lib.Seq.{set-get_or}
use borrow.Author.Tests.{lt-ltb, le-ltb, le-leb, lt-leb, eq-eqb, ne_eqb}
use Rattle.styles.specs.declared.Party.TheVariants.{Plant}
use Rattle.runs.specs.Runs.{BudgetReaches}
use Rattle.runs.specs.Positions.{sum_below, starts, stretch_count, part_of}
use Rattle.runs.specs.Stretches.{alike_in}
use Rattle.runs.proofs.FirstLaws.{part_runs, part_runs_count}
use Rattle.runs.proofs.PartLaws.{part_le, part_stop}
use Rattle.tank.specs.declared.Tank.{Tank}
use Rattle.tank.specs.Rules.{View, alike, fresh_view, deleting, after, after_delete, refusal, barred, empty, over, long, own_number, clashes, full}
use Rattle.tank.specs.State as state
use Rattle.night.specs.Ageing.{age_refusal, aged_part, after_age, aged_count, aged_left}
use Rattle.tank.proofs.Counted.{alike_at}
use Rattle.tank.proofs.Calls.{number_0}
use Rattle.tank.proofs.ViewLaws.{view_ext}
use Rattle.tank.proofs.Unique.{inside_table}
use Rattle.tanks.specs.declared.Tanks.{Tanks}
use Rattle.tanks.specs.House.{House, tank_at, with_tank, refusal_at}
use Rattle.tanks.specs.Pool.{meaning, Sound}
use Rattle.tanks.specs.Promises.{CalledAt, Taken}
use Rattle.tanks.proofs.CallLaws.{after_done}
use Rattle.tanks.proofs.Theorems.{kept_sound, delete_own}
use Rattle.night.specs.declared.Aged.{Aged}
use Rattle.night.specs.Ageings.{age_number, aged_house, AgedAt, LeftAlone}

-- ---- the first stretches of a tank
module _ {x : Tank} (ok : state.Sound x) where
  alike_is : alike (state.view x).at ≡ alike_in (state.runs_of x)
  unfolding state.view
  alike_is =
      let f = ok.formed.laid in
      fun_ext (λ p. alike_at (state.table_of x) (state.runs_of x) f.sorted (inside_table f) p (suc p))

  module _ {before budget k end : ℕ} (fits : before ≤ x.length) (f : BudgetReaches x.lens x.runs before budget k end) where
    pub budget_part : end ≡ part_of (alike (state.view x).at) budget before
    budget_part =
        let l = ok.formed.laid in
        let s = l.sum in
        f.ends
        ∙ sym (part_runs x.lens x.sets x.runs l.canon before k f.within (omega arith) budget f.few f.full)
        ∙ ap (λ (g : ℕ → Bool). part_of g budget before) (sym alike_is)

    pub budget_count : k ≡ stretch_count (alike (state.view x).at) end
    budget_count =
        let l = ok.formed.laid in
        let s = l.sum in
        sym (part_runs_count x.lens x.sets x.runs l.canon before k f.within (omega arith) f.begins)
        ∙ ap₂ stretch_count (sym alike_is) (sym f.ends)

-- ---- one call
-- some position goes where there is a budget and something before
part_some : (alike : ℕ → Bool) (b n : ℕ) → 0 < b → 0 < n → 0 < part_of alike b n
unfolding sum_below starts
part_some alike b n h l = go (part_of alike b n) refl
  where
    go : (q : ℕ) → part_of alike b n ≡ q → 0 < part_of alike b n
    go zero e = absurd (omega (arith, rw e at (part_stop alike b n (omega arith))))
    go (suc q) e = omega arith

pub delete_accepted : (a b : ℕ) (v : View) → a < b → b ≤ v.length → refusal (deleting Plant a b) v ≡ 0
unfolding barred empty over long own_number clashes full
delete_accepted a b v h l = number_0 (deleting Plant a b) v refl (lt-leb b a h) (le-ltb v.length b l) refl refl refl refl

-- a deletion of nothing leaves the tank
pub none_gone : (v : View) → after_delete 0 0 v ≡ v
unfolding after_delete
none_gone v = go v.touched refl
  where
    go : (b : Bool) → v.touched ≡ b → cond b (record { length = v.length - (0 - 0); touched = true; at = λ p. cond (ltb p 0) (v.at p) (v.at (p + (0 - 0))) }) v ≡ v
    go false e = refl
    go true e =
        view_ext _ v (omega arith) (sym e)
        (λ p. let z : p + (0 - 0) ≡ p = omega arith in rw (le-ltb p 0 (omega arith)) (ap v.at z))

-- and a house whose tank is put back is the same house
pub with_own : (h : House) (t : ℕ) → with_tank h t (tank_at h t) ≡ h
with_own h t = λ i. record { settings = h.settings; tanks = set-get_or h.tanks t fresh_view i }

module _ (s : Tanks) (t before budget : ℕ) (ok : Sound s) where
  abbrev house : House
  house = meaning s

  abbrev v : View
  v = tank_at house t

  -- there is nothing to do
  record Idle : Type 0 where
    count : aged_count before budget v ≡ 0
    left : aged_left before budget v ≡ 0
    same : after_age before budget v ≡ v

  -- the state as it was: beside a refusal, or where there is nothing to do
  not_aged : (n : ℕ) → age_number house t before budget ≡ n → (n ≡ 0 → Idle) → (r : Aged)
      → LeftAlone s n r → AgedAt s t before budget r
  unfolding aged_house
  not_aged zero e idle r is =
      let i = idle refl in
      record {
        number_is = is.0 ∙ sym e;
        dropped_is = rw e (is.1 ∙ sym i.count);
        remaining_is = rw e (is.2 ∙ sym i.left);
        is = rw e (ap meaning is.3 ∙ sym (ap (with_tank house t) i.same ∙ with_own house t));
        sound = rw is.3 ok;
      }
  not_aged (suc n) e idle r is =
      record {
        number_is = is.0 ∙ sym e;
        dropped_is = rw (e, ne_eqb (suc n) 0 (λ z. omega arith)) is.1;
        remaining_is = rw (e, ne_eqb (suc n) 0 (λ z. omega arith)) is.2;
        is = rw (e, ne_eqb (suc n) 0 (λ z. omega arith)) (ap meaning is.3);
        sound = rw is.3 ok;
      }

  pub age_1 : 8 ≤ t → (r : Aged) → LeftAlone s 1 r → AgedAt s t before budget r
  unfolding age_number
  age_1 h = not_aged 1 (rw (le-leb 8 t h)) (λ z. absurd (omega arith))

  module _ (t8 : t < 8) where
    own_number_lem : age_number house t before budget ≡ age_refusal before budget v
    unfolding age_number
    own_number_lem = rw (lt-leb 8 t t8)

    pub age_3 : budget ≡ 0 → (r : Aged) → LeftAlone s 3 r → AgedAt s t before budget r
    unfolding age_refusal
    age_3 z = not_aged 3 (own_number_lem ∙ rw (eq-eqb budget 0 z)) (λ z. absurd (omega arith))

    module _ (some : budget ≡ 0 → ⊥) (x : Tank) (taken : Taken s t x) where
      same_length : x.length ≡ v.length
      unfolding state.view
      same_length = ap (λ (w : View). w.length) taken.is

      same_touched : x.touched ≡ v.touched
      unfolding state.view
      same_touched = ap (λ (w : View). w.touched) taken.is

      pub age_4 : x.length < before → (r : Aged) → LeftAlone s 4 r → AgedAt s t before budget r
      unfolding age_refusal
      age_4 h = not_aged 4 (own_number_lem ∙ rw (ne_eqb budget 0 some, lt-ltb v.length before (omega (arith, same_length)))) (λ z. absurd (omega arith))

      module _ (fits : before ≤ x.length) where
        accepted : age_number house t before budget ≡ 0
        unfolding age_refusal
        accepted = own_number_lem ∙ rw (ne_eqb budget 0 some, le-ltb v.length before (omega (arith, same_length)))

        -- an untouched tank is done at once
        pub age_untouched : x.touched ≡ false → (r : Aged) → LeftAlone s 0 r → AgedAt s t before budget r
        unfolding aged_part aged_left sum_below
        age_untouched e =
            let f : v.touched ≡ false = sym same_touched ∙ e in
            not_aged 0 accepted
            (λ z. record {
              count = ap (λ (b : Bool). stretch_count (alike v.at) (cond b (part_of (alike v.at) budget before) 0)) f;
              left = ap (λ (b : Bool). cond b (before - cond b (part_of (alike v.at) budget before) 0) 0) f;
              same = ap (λ (b : Bool). after_delete 0 (cond b (part_of (alike v.at) budget before) 0) v) f ∙ none_gone v;
            })

        module _ (e : x.touched ≡ true) where
          touched : v.touched ≡ true
          touched = sym same_touched ∙ e

          part_is : aged_part before budget v ≡ part_of (alike v.at) budget before
          unfolding aged_part
          part_is = ap (λ (b : Bool). cond b (part_of (alike v.at) budget before) 0) touched

          left_is : aged_left before budget v ≡ before - part_of (alike v.at) budget before
          unfolding aged_left
          left_is = ap (λ (b : Bool). cond b (before - aged_part before budget v) 0) touched ∙ ap (λ (d : ℕ). before - d) part_is

          -- nothing before
          pub age_none : before ≡ 0 → (r : Aged) → LeftAlone s 0 r → AgedAt s t before budget r
          unfolding sum_below
          age_none z =
              let l = part_le (alike v.at) budget before in
              let d : aged_part before budget v ≡ 0 = omega (arith, part_is) in
              not_aged 0 accepted
              (λ _. record {
                count = ap (stretch_count (alike v.at)) d;
                left = omega (arith, left_is);
                same = ap (λ (d : ℕ). after_delete 0 d v) d ∙ none_gone v;
              })

          -- the deletion
          module _ (more : before ≡ 0 → ⊥) (end k : ℕ) (is-part : end ≡ part_of (alike (state.view x).at) budget before)
              (is-count : k ≡ stretch_count (alike (state.view x).at) end) where
            same_alike : alike (state.view x).at ≡ alike v.at
            same_alike = ap (λ (w : View). alike w.at) taken.is

            is_end : end ≡ part_of (alike v.at) budget before
            is_end = is-part ∙ ap (λ (g : ℕ → Bool). part_of g budget before) same_alike

            pub age_within : end ≤ before
            age_within = omega (arith, is_end, part_le (alike v.at) budget before)

            made : refusal_at house t (deleting Plant 0 end) ≡ 0
            made =
                delete_own house t Plant 0 end (kept_sound s ok) t8
                ∙ delete_accepted 0 end v (omega (arith, is_end, part_some (alike v.at) budget before (omega arith) (omega arith))) (omega (arith, age_within, same_length))

            pub age_done : {number : ℕ} {next : Tanks} → CalledAt s t (deleting Plant 0 end) number next
                → AgedAt s t before budget (record { number = 0; dropped = k; remaining = before - end; tanks = next })
            unfolding aged_house after
            age_done c =
                record {
                  number_is = sym accepted;
                  dropped_is = rw accepted (is-count ∙ ap₂ stretch_count same_alike (is_end ∙ sym part_is));
                  remaining_is = rw accepted (sym (left_is ∙ ap (λ (d : ℕ). before - d) (sym is_end)));
                  is = rw accepted (c.is ∙ after_done house t (deleting Plant 0 end) made ∙ ap (λ (d : ℕ). with_tank house t (after_delete 0 d v)) (is_end ∙ sym part_is));
                  sound = c.sound;
                }
