-- Change request 12: a late fill taken back, and edits on two tanks in either order, over the rules and over the code's own states.
use Prim.Native.Nat.{ℕ, ◌+◌, ◌<◌}
use mathlib.Core.Path.{◌≡◌, sym, ap, ◌∙◌}
use mathlib.Core.Bool.{true}
use mathlib.Core.Logic.{◌≢◌}
use native.Mathlib.Omega.{arith}
use native.Mathlib.Decide.{dec_lt}
use lib.Seq.{set-get_or, set-set, set_comm}
use Rattle.styles.specs.declared.Party.{Party}
use Rattle.tank.specs.Rules.{View, fresh_view, Edit, inserting, deleting, after, refusal}
use Rattle.tank.proofs.TakenBack.{taken_back, back_accepted}
use Rattle.tanks.specs.declared.Tanks.{Tanks}
use Rattle.tanks.specs.House.{House, tank_at, own_at, refusal_at, with_tank, after_at}
use Rattle.tanks.specs.Pool.{meaning, Sound}
use Rattle.tanks.specs.Promises.{CalledAt}
use Rattle.tanks.proofs.SettingLaws.{first_zero}
use Rattle.tanks.proofs.CallLaws.{refusal_in, refusal_past, after_done}
use Rattle.tanks.proofs.Theorems.{Kept, kept_sound, kept_call, with_same, delete_own, others_stay}
use Rattle.tanks.proofs.Unique.{unique}

-- an accepted call is on one of the tanks
accepted_in : (h : House) (t : ℕ) (e : Edit) → refusal_at h t e ≡ 0 → t < 8
accepted_in h t e z = elim (dec_lt t 8) [ yes l ↦ l | no l ↦ absurd (omega (arith, refusal_past h t e (omega arith))) ]

-- and the tank's own rules refuse it nothing
accepted_there : (h : House) (t : ℕ) (e : Edit) → refusal_at h t e ≡ 0 → refusal e (tank_at h t) ≡ 0
accepted_there h t e z = first_zero (refusal e (tank_at h t)) _ (first_zero (own_at h t e) _ (sym (refusal_in h t e (accepted_in h t e z)) ∙ z))

-- ---- a late fill taken back
module _ (h : House) (t : ℕ) (who : Party) (pos len : ℕ) (kept : Kept h) (touched : (tank_at h t).touched ≡ true) (made : refusal_at h t (inserting who pos len) ≡ 0) where
  tank_then : tank_at (after_at h t (inserting who pos len)) t ≡ after (inserting who pos len) (tank_at h t)
  tank_then = ap (λ (g : House). tank_at g t) (after_done h t (inserting who pos len) made) ∙ with_same h t _ kept.eight (accepted_in h t (inserting who pos len) made)

  -- the deletion is refused nothing
  pub fill_back_accepted : refusal_at (after_at h t (inserting who pos len)) t (deleting who pos (pos + len)) ≡ 0
  fill_back_accepted =
      delete_own (after_at h t (inserting who pos len)) t who pos (pos + len) (kept_call h t (inserting who pos len) kept) (accepted_in h t (inserting who pos len) made)
      ∙ ap (refusal (deleting who pos (pos + len))) tank_then
      ∙ back_accepted who pos len (tank_at h t) touched (accepted_there h t (inserting who pos len) made)

  -- and gives the very same house back: every length, every set, every count of runs, touched and the settings
  pub fill_taken_back : after_at (after_at h t (inserting who pos len)) t (deleting who pos (pos + len)) ≡ h
  fill_taken_back =
      after_done (after_at h t (inserting who pos len)) t (deleting who pos (pos + len)) fill_back_accepted
      ∙ ap (λ (v : View). with_tank (after_at h t (inserting who pos len)) t v) (ap (after (deleting who pos (pos + len))) tank_then ∙ taken_back who pos len (tank_at h t) touched)
      ∙ ap (λ (g : House). with_tank g t (tank_at h t)) (after_done h t (inserting who pos len) made)
      ∙ as_was
    where
      as_was : with_tank (with_tank h t (after (inserting who pos len) (tank_at h t))) t (tank_at h t) ≡ h
      as_was = λ i. record {
        settings = h.settings;
        tanks = (set-set h.tanks t (after (inserting who pos len) (tank_at h t)) (tank_at h t) ∙ set-get_or h.tanks t fresh_view) i;
      }

-- ---- edits of any kind on two tanks, accepted in both orders (that one order is not enough: Tests)
module _ (h : House) (t u : ℕ) (e f : Edit) (ne : t ≢ u)
    (first : refusal_at h t e ≡ 0) (then-u : refusal_at (after_at h t e) u f ≡ 0)
    (other : refusal_at h u f ≡ 0) (then-t : refusal_at (after_at h u f) t e ≡ 0) where
  pub either_order : after_at (after_at h t e) u f ≡ after_at (after_at h u f) t e
  either_order =
      after_done (after_at h t e) u f then-u
      ∙ ap (λ (v : View). with_tank (after_at h t e) u (after f v)) (others_stay h t e u (λ q. ne (sym q)))
      ∙ ap (λ (g : House). with_tank g u (after f (tank_at h u))) (after_done h t e first)
      ∙ swapped
      ∙ sym (ap (λ (g : House). with_tank g t (after e (tank_at h t))) (after_done h u f other))
      ∙ sym (ap (λ (v : View). with_tank (after_at h u f) t (after e v)) (others_stay h u f t ne))
      ∙ sym (after_done (after_at h u f) t e then-t)
    where
      swapped : with_tank (with_tank h t (after e (tank_at h t))) u (after f (tank_at h u)) ≡ with_tank (with_tank h u (after f (tank_at h u))) t (after e (tank_at h t))
      swapped = λ i. record { settings = h.settings; tanks = set_comm h.tanks t u (after e (tank_at h t)) (after f (tank_at h u)) ne i }

-- ---- the same of the code's own states: there they are equal place by place
pub state_taken_back : (s x y : Tanks) (t : ℕ) (who : Party) (pos len number : ℕ) → Sound s → (tank_at (meaning s) t).touched ≡ true
    → CalledAt s t (inserting who pos len) 0 x → CalledAt x t (deleting who pos (pos + len)) number y → (number ≡ 0) × (y ≡ s)
state_taken_back s x y t who pos len number ok touched fill back =
    let made = sym fill.number_is in
    let kept = kept_sound s ok in (
      back.number_is ∙ ap (λ (g : House). refusal_at g t (deleting who pos (pos + len))) fill.is ∙ fill_back_accepted (meaning s) t who pos len kept touched made,
      unique y s back.sound ok
          (back.is ∙ ap (λ (g : House). after_at g t (deleting who pos (pos + len))) fill.is ∙ fill_taken_back (meaning s) t who pos len kept touched made),
    )

pub state_either_order : (s x y x' y' : Tanks) (t u : ℕ) (e f : Edit) → t ≢ u
    → CalledAt s t e 0 x → CalledAt x u f 0 y → CalledAt s u f 0 x' → CalledAt x' t e 0 y' → y ≡ y'
state_either_order s x y x' y' t u e f ne p q p' q' =
    unique y y' q.sound q'.sound
    (q.is ∙ ap (λ (g : House). after_at g u f) p.is
    ∙ either_order (meaning s) t u e f ne
    (sym p.number_is)
    (sym (ap (λ (g : House). refusal_at g u f) p.is) ∙ sym q.number_is)
    (sym p'.number_is)
    (sym (ap (λ (g : House). refusal_at g t e) p'.is) ∙ sym q'.number_is)
    ∙ sym (ap (λ (g : House). after_at g t e) p'.is) ∙ sym q'.is)
