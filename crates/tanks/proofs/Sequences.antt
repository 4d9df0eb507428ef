-- The code's own states: whatever the contracts allow, call after call, is what the rules say.
use Prim.Native.Nat.{ℕ, ◌≤◌, ◌<◌}
use mathlib.Core.Path.{◌≡◌, refl, sym, ap, ◌∙◌, subst}
use mathlib.Core.Bool.{true}
use mathlib.Core.List.{List}
use native.Mathlib.Omega.{arith}
use lib.ListN.{length}
use Rattle.styles.specs.declared.Party.TheVariants.{Plant, Lab}
use Rattle.tank.specs.Rules.{Edit, deleting, made_by, runs_held, after}
use Rattle.tanks.specs.declared.Setting.{Setting}
use Rattle.tanks.specs.declared.Opened.{Opened}
use Rattle.tanks.specs.declared.Tanks.{Tanks}
use Rattle.tanks.specs.Settings.{share_of, limit_of, accepted}
use Rattle.tanks.specs.House.{House, tank_at, held, refusal_at, Call, after_all, reached}
use Rattle.tanks.specs.Pool.{runs_in, meaning, Sound}
use Rattle.tanks.specs.Promises.{Opens, CalledAt, Calls, no_call, call}
use Rattle.tanks.proofs.MeaningLaws.{held_is}
use Rattle.tanks.proofs.Theorems.{kept_sound, NoWant, delete_free, lab_never_9_or_10, within_limits, never_9_or_10}

pub calls_mean : {s last : Tanks} {cs : List Call} → Calls s cs last → meaning last ≡ after_all (meaning s) cs
unfolding after_all
calls_mean no_call = refl
calls_mean (call {cs = cs} p c) = calls_mean c ∙ ap (λ (h : House). after_all h cs) p.is

pub calls_sound : {s last : Tanks} {cs : List Call} → Sound s → Calls s cs last → Sound last
calls_sound ok no_call = ok
calls_sound ok (call p c) = calls_sound p.sound c

-- a deletion of the plant's on a sound state never answers 9 or 10, nor does the lab's, which is refused by 16
pub delete_number : {s next : Tanks} {t a b number : ℕ} → Sound s → CalledAt s t (deleting Plant a b) number next → number ≤ 4
delete_number {s} {t = t} {a = a} {b = b} ok p = omega (arith, p.number_is, delete_free (meaning s) t a b (kept_sound s ok))

-- no edit of the lab's on a sound state answers 9 or 10
pub lab_number : {s next : Tanks} {t number : ℕ} {e : Edit} → Sound s → made_by e ≡ Lab → CalledAt s t e number next → NoWant number
lab_number {s} {t = t} {e = e} ok lab p = subst NoWant (sym p.number_is) (lab_never_9_or_10 (meaning s) t e (kept_sound s ok) lab)

module _ (st : List Setting) (l : length st ≡ 8) (ok : accepted st ≡ true) (r : Opened) (opened : Opens st r) (cs : List Call) (s : Tanks) (calls : Calls r.tanks cs s) where
  means : meaning s ≡ reached st cs
  unfolding reached
  means = calls_mean calls ∙ ap (λ (h : House). after_all h cs) opened.is

  -- no tank holds more runs than its limit
  pub runs_within : (u : ℕ) → u < 8 → runs_in s.heads u ≤ limit_of st u
  runs_within u h =
      omega (arith, held_is s (calls_sound opened.sound calls) u h, ap (λ (x : House). held x u) means, within_limits st l ok cs u h)

  -- none can be starved of its share
  pub share_kept : (t : ℕ) (e : Edit) → t < 8 → runs_held (after e (tank_at (meaning s) t)) ≤ share_of st t → NoWant (refusal_at (meaning s) t e)
  share_kept t e t8 le = rw means (never_9_or_10 st l ok cs t e t8 (rw means at le))
