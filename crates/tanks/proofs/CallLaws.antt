-- One law for every edit: the tank's own call, then the judgement, is the call of the house.
use Prim.Native.Nat.{ℕ, ◌≤◌, ◌<◌}
use mathlib.Core.Path.{◌≡◌, refl, sym, ap, ◌∙◌, subst}
use mathlib.Core.Bool.{Bool, true, false, cond}
use native.Mathlib.Omega.{arith}
use lib.Dec.{eqb}
use borrow.Author.Tests.{eqb-true, le-leb, lt-leb}
use Rattle.laws.proofs.Cases.{cond_when}
use Rattle.tank.specs.declared.Tank.{Tank}
use Rattle.tank.specs.Rules.{View, runs_held, Edit, made_by, after, refusal, after_call, first_refusal}
use Rattle.tank.specs.State.{view, Called}
use Rattle.tank.proofs.Calls.{when_refused}
use Rattle.tank.proofs.Unique.{runs_held_lem}
use Rattle.tanks.specs.declared.Tanks.{Tanks}
use Rattle.tanks.specs.Settings.{share_of, judgement}
use Rattle.tanks.specs.House.{House, tank_at, held, share_number, own_at, refusal_at, with_tank, after_at}
use Rattle.tanks.specs.Pool.{runs_in, tank_of, meaning, Sound}
use Rattle.tanks.specs.Promises.{CalledAt}
use Rattle.tanks.proofs.SettingLaws.{first_zero, TakenOut}
use Rattle.tanks.proofs.MeaningLaws.{tank_at_lem, held_is, judged_is, Tail}

-- two numbers before a third, all by how many runs there are
pub first_twice : (n : ℕ) (s j : ℕ → ℕ) (x y : ℕ) → (n ≡ 0 → x ≡ y) → first_refusal (first_refusal n (s x)) (j x) ≡ first_refusal (first_refusal n (s y)) (j y)
first_twice n s j x y h = go (eqb n 0) refl
  where
    go : (b : Bool) → eqb n 0 ≡ b → first_refusal (first_refusal n (s x)) (j x) ≡ first_refusal (first_refusal n (s y)) (j y)
    go true e = ap (λ (k : ℕ). first_refusal (first_refusal n (s k)) (j k)) (h (eqb-true n 0 e))
    go false e = rw e (rw e refl)

-- ---- the refusal, where there is such a tank and where there is none
pub refusal_in : (h : House) (t : ℕ) (e : Edit) → t < 8
    → refusal_at h t e ≡ first_refusal (own_at h t e) (judgement h.settings (held h) t (runs_held (after e (tank_at h t))))
unfolding refusal_at
refusal_in h t e l = rw (lt-leb 8 t l)

pub refusal_past : (h : House) (t : ℕ) (e : Edit) → 8 ≤ t → refusal_at h t e ≡ 1
unfolding refusal_at
refusal_past h t e l = rw (le-leb 8 t l)

pub after_refused : (h : House) (t : ℕ) (e : Edit) → 0 < refusal_at h t e → after_at h t e ≡ h
unfolding after_at
after_refused h t e l = when_refused _ _ h l

pub after_done : (h : House) (t : ℕ) (e : Edit) → refusal_at h t e ≡ 0 → after_at h t e ≡ with_tank h t (after e (tank_at h t))
unfolding after_at
after_done h t e z = rw z

-- an accepted edit leaves the tank as the rules say
pub done_is : (e : Edit) (v : View) → refusal e v ≡ 0 → after_call e v ≡ after e v
done_is e v z = rw z

-- the tank's own number and then 17, by the runs that it holds and would hold
abbrev pub own_by : Tanks → ℕ → Edit → ℕ → ℕ → ℕ
own_by s t e number n = first_refusal number (share_number (made_by e) (share_of s.settings t) (runs_in s.heads t) n)

module _ (s : Tanks) (t : ℕ) (e : Edit) (number : ℕ) (x : Tank) (v : ℕ) (next : Tanks) (ok : Sound s) (t8 : t < 8) (called : Called e (tank_of s t) number x)
    (tail : Tail s t (own_by s t e number x.runs) x v next) where
  is_refusal : number ≡ refusal e (tank_at (meaning s) t)
  is_refusal = called.number_is ∙ ap (refusal e) (sym (tank_at_lem s t t8))

  -- where the tank's own rules refuse nothing
  is_after : number ≡ 0 → view x ≡ after e (tank_at (meaning s) t)
  is_after z =
      called.is ∙ done_is e (view (tank_of s t)) (sym called.number_is ∙ z) ∙ ap (after e) (sym (tank_at_lem s t t8))

  -- the runs that it would hold
  is_runs : number ≡ 0 → x.runs ≡ runs_held (after e (tank_at (meaning s) t))
  is_runs z = sym (runs_held_lem called.formed.laid) ∙ ap runs_held (is_after z)

  is_number : v ≡ refusal_at (meaning s) t e
  unfolding meaning
  is_number =
      let n = runs_held (after e (tank_at (meaning s) t)) in
      tail.verdict_is
      ∙ first_twice number (share_number (made_by e) (share_of s.settings t) (runs_in s.heads t)) (judgement s.settings (runs_in s.heads) t) x.runs n is_runs
      ∙ ap (first_refusal (own_by s t e number n)) (sym (judged_is s ok t n))
      ∙ ap (λ (k : ℕ). first_refusal (first_refusal number (share_number (made_by e) (share_of s.settings t) k n)) (judgement s.settings (held (meaning s)) t n)) (sym (held_is s ok t t8))
      ∙ ap (λ (k : ℕ). first_refusal (first_refusal k (share_number (made_by e) (share_of s.settings t) (held (meaning s) t) n)) (judgement s.settings (held (meaning s)) t n)) is_refusal
      ∙ sym (refusal_in (meaning s) t e t8)

  is_state : meaning next ≡ after_at (meaning s) t e
  unfolding after_at
  is_state =
      tail.is
      ∙ cond_when (eqb v 0) _ _ (meaning s) (λ b. ap (with_tank (meaning s) t) (is_after (first_zero number _ (first_zero (own_by s t e number x.runs) _ (sym tail.verdict_is ∙ eqb-true v 0 b)))))
      ∙ ap (λ (n : ℕ). cond (eqb n 0) (with_tank (meaning s) t (after e (tank_at (meaning s) t))) (meaning s)) is_number

  pub called_at : CalledAt s t e v next
  called_at = record { number_is = is_number; is = is_state; sound = tail.sound }

-- the tank taken out, its own call, the tail
pub called_by : (s : Tanks) (t : ℕ) (e : Edit) (x : Tank) (number : ℕ) (y : Tank) (v : ℕ) (next : Tanks) → Sound s → t < 8
    → TakenOut s t x → Called e x number y → Tail s t (own_by s t e number y.runs) y v next → CalledAt s t e v next
called_by s t e x number y v next ok h taken called tail =
    called_at s t e number y v next ok h (subst (λ z. Called e z number y) taken.is called) tail

-- 1: the very same state
pub called_past : (s : Tanks) (t : ℕ) (e : Edit) → Sound s → 8 ≤ t → CalledAt s t e 1 s
called_past s t e ok h =
    let z = refusal_past (meaning s) t e h in
    record { number_is = sym z; is = sym (after_refused (meaning s) t e (omega (arith, z))); sound = ok }
