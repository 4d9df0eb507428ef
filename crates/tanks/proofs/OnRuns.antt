-- The rules over eight tanks computed on runs over one sorted table of marks: a tank has more positions than can be looked at, its runs can be.
use Prim.Native.Nat.{ℕ, zero, suc, ◌<◌, ◌^◌}
use mathlib.Core.Path.{◌≡◌, refl, sym, ap, ◌∙◌, subst, fun_ext}
use mathlib.Core.Bool.{Bool, true, false, cond, ◌&&◌, and-eq-true_iff}
use mathlib.Core.List.{List, [], ◌∷◌, map}
use native.Mathlib.Omega.{arith}
use lib.Dec.{ltb, eqb}
use lib.ListN.{length, get_or, set, replicate, get_or-map}
use lib.Pow.{pow_pos}
use borrow.Author.Tests.{ltb-true, eqb-true}
use Rattle.laws.proofs.Cases.{cond_by, cond_ap, cond_when}
use Rattle.laws.proofs.Lists.{get_d_blank, map_set}
use Rattle.styles.specs.declared.Mark.{Mark}
use Rattle.styles.specs.Marks.{Sorted}
use Rattle.styles.specs.Bits.{pick}
use Rattle.styles.proofs.UnionLaws.{pick_none}
use Rattle.runs.specs.Runs.{Run, run, total, Other, Canon}
use Rattle.runs.specs.Gather.{gather}
use Rattle.runs.proofs.GatherLaws.{all_at_lem}
use Rattle.runs.proofs.MapLaws.{AllSets}
use Rattle.tank.specs.Rules.{View, fresh_length, fresh_view, runs_held, Edit, made_by, after, refusal, first_refusal}
use Rattle.tank.specs.State.{view_of}
use Rattle.tank.proofs.Counted.{counted}
use Rattle.tank.proofs.OnRuns.{known, number_on, runs_after, touched_after, canon_after, refusal_on, call_on}
use Rattle.tank.proofs.ViewLaws.{view_ext}
use Rattle.tanks.specs.declared.Setting.{Setting}
use Rattle.tanks.specs.Settings.{share_of, accepted, judgement}
use Rattle.tanks.specs.House.{House, tank_at, held, opening, no_tank, share_number, refusal_at, with_tank, after_at, Call, after_all}
use Rattle.tanks.proofs.CallLaws.{first_twice}
use Rattle.tanks.proofs.SettingLaws.{first_zero}

-- ---- tanks on runs
pub record RunsKept : Type 0 where
  pub touched : Bool
  pub runs : List Run

abbrev pub fresh : RunsKept
fresh = record { touched = false; runs = run fresh_length 0 ∷ [] }

abbrev pub kept_at : List RunsKept → ℕ → RunsKept
kept_at ks t = get_or ks t fresh

abbrev pub held_on : List RunsKept → ℕ → ℕ
held_on ks t = length (kept_at ks t).runs

-- what they mean
abbrev pub view_on : List Mark → RunsKept → View
view_on ms k = view_of k.touched (total k.runs) ms k.runs

abbrev pub house_on : List Setting → List Mark → List RunsKept → House
house_on st ms ks = record { settings = st; tanks = map (view_on ms) ks }

-- ---- a call
-- what its tank becomes
abbrev pub kept_after : List Mark → Edit → RunsKept → RunsKept
kept_after ms e k = record { touched = touched_after e k.touched; runs = runs_after ms e k.touched k.runs }

-- its number, and the tanks after it, where its tank would become `new`: an argument, so that it is computed once
unfoldable number_with : List Setting → List Mark → List RunsKept → ℕ → Edit → RunsKept → ℕ
number_with st ms ks t e new =
    cond (no_tank t) 1
    (first_refusal
    (first_refusal (number_on ms e (kept_at ks t).touched (kept_at ks t).runs) (share_number (made_by e) (share_of st t) (held_on ks t) (length new.runs)))
    (judgement st (held_on ks) t (length new.runs)))

unfoldable all_with : List Setting → List Mark → List RunsKept → ℕ → Edit → RunsKept → List RunsKept
unfolding number_with
all_with st ms ks t e new = cond (eqb (number_with st ms ks t e new) 0) (set ks t new) ks

unfoldable pub number_at : List Setting → List Mark → List RunsKept → ℕ → Edit → ℕ
unfolding number_with
number_at st ms ks t e = number_with st ms ks t e (kept_after ms e (kept_at ks t))

unfoldable pub all_after : List Setting → List Mark → List RunsKept → ℕ → Edit → List RunsKept
unfolding all_with
all_after st ms ks t e = all_with st ms ks t e (kept_after ms e (kept_at ks t))

-- what makes this the rule's call: its mark is in the table, and so are all that it leaves
unfoldable pub may : List Mark → Edit → RunsKept → Bool
may ms e new = known ms e && ltb (gather new.runs) (2 ^ length ms)

-- ---- calls one after another: the tanks after them, and whether each was the rule's
pub record Way : Type 0 where
  pub clear : Bool
  pub kept : List RunsKept

unfoldable step_with : List Setting → List Mark → Way → ℕ → Edit → RunsKept → Way
unfolding may all_with
step_with st ms w t e new = record { clear = w.clear && may ms e new; kept = all_with st ms w.kept t e new }

unfoldable pub step : List Setting → List Mark → Way → ℕ → Edit → Way
unfolding step_with
step st ms w t e = step_with st ms w t e (kept_after ms e (kept_at w.kept t))

unfoldable pub steps : List Setting → List Mark → Way → List Call → Way
unfolding step
steps st ms w [] = w
steps st ms w (c ∷ cs) = steps st ms (step st ms w c.tank c.edit) cs

-- an edit that a tank's own rules allow, tried and not made
unfoldable pub tried : List Mark → Way → ℕ → Edit → Way
unfolding may
tried ms w t e = record {
  clear = w.clear && (may ms e (kept_after ms e (kept_at w.kept t)) && eqb (number_on ms e (kept_at w.kept t).touched (kept_at w.kept t).runs) 0);
  kept = w.kept;
}

-- ---- in joined form, with no set beyond the table
pub record Fit (ms : List Mark) (k : RunsKept) : Type 0 where
  pub canon : Canon k.runs
  pub inside : gather k.runs < 2 ^ length ms

abbrev pub AllFit : List Mark → List RunsKept → Type 0
AllFit ms ks = (t : ℕ) → Fit ms (kept_at ks t)

-- what holds of all elements and of a new one holds of all after it is set
all_set : {A : Type 0} (P : A → Type 0) (d x : A) (l : List A) (t : ℕ) → ((u : ℕ) → P (get_or l u d)) → P x → (u : ℕ) → P (get_or (set l t x) u d)
all_set P d x [] t h k u = h u
all_set P d x (y ∷ l) zero h k zero = k
all_set P d x (y ∷ l) zero h k (suc u) = h (suc u)
all_set P d x (y ∷ l) (suc t) h k zero = h zero
all_set P d x (y ∷ l) (suc t) h k (suc u) = all_set P d x l t (λ v. h (suc v)) k u

own_zero : (b : Bool) (n s m : ℕ) → cond b 1 (first_refusal (first_refusal n s) m) ≡ 0 → n ≡ 0
own_zero true n s m h = absurd (omega arith)
own_zero false n s m h = first_zero n s (first_zero (first_refusal n s) m h)

pub tried_clear : (ms : List Mark) (w : Way) (t : ℕ) (e : Edit) → (tried ms w t e).clear ≡ true
    → (w.clear ≡ true) × ((may ms e (kept_after ms e (kept_at w.kept t)) && eqb (number_on ms e (kept_at w.kept t).touched (kept_at w.kept t).runs) 0) ≡ true)
unfolding tried
tried_clear ms w t e m = (and-eq-true_iff w.clear _).0 m

module _ (ms : List Mark) (sorted : Sorted ms) where
  fresh_is : fresh_view ≡ view_on ms fresh
  unfolding fresh_view total AllSets
  fresh_is = view_ext _ _ refl refl (λ p. sym (ap (pick ms) (all_at_lem (λ s. s ≡ 0) (run fresh_length 0 ∷ []) refl (refl, tt) p) ∙ pick_none ms))

  fresh_fit : Fit ms fresh
  unfolding Canon Other gather
  fresh_fit = record { canon = (omega arith, tt, tt); inside = pow_pos (length ms) }

  pub all_fresh : (n : ℕ) → AllFit ms (replicate n fresh)
  all_fresh n t = subst (Fit ms) (sym (get_d_blank fresh n t)) fresh_fit

  -- an accepted edit of a tank
  edit_on : (e : Edit) (k : RunsKept) → Fit ms k → known ms e ≡ true → number_on ms e k.touched k.runs ≡ 0
      → after e (view_on ms k) ≡ view_on ms (kept_after ms e k)
  edit_on e k f g z = call_on ms sorted e k.touched k.runs f.canon g z

  held_in : (k : RunsKept) → Fit ms k → runs_held (view_on ms k) ≡ length k.runs
  held_in k f = counted ms k.runs sorted f.inside f.canon

  module _ (st : List Setting) where
    pub opening_on : accepted st ≡ true → opening st ≡ house_on st ms (replicate 8 fresh)
    unfolding opening
    opening_on a = rw a (λ i. record { settings = st; tanks = replicate 8 (fresh_is i) })

    module _ (ks : List RunsKept) where
      abbrev h : House
      h = house_on st ms ks

      pub tank_on_lem : (t : ℕ) → tank_at h t ≡ view_on ms (kept_at ks t)
      tank_on_lem t = ap (get_or (map (view_on ms) ks) t) fresh_is ∙ get_or-map (view_on ms) ks t fresh

      pub held_on_lem : AllFit ms ks → held h ≡ held_on ks
      held_on_lem f = fun_ext (λ t. ap runs_held (tank_on_lem t) ∙ held_in (kept_at ks t) (f t))

      module _ (t : ℕ) (e : Edit) (f : AllFit ms ks) (ok : may ms e (kept_after ms e (kept_at ks t)) ≡ true) where
        abbrev new : RunsKept
        new = kept_after ms e (kept_at ks t)

        is_known : known ms e ≡ true
        unfolding may
        is_known = ((and-eq-true_iff (known ms e) _).0 ok).0

        new_fit : Fit ms new
        unfolding may
        new_fit = record {
          canon = canon_after ms e (kept_at ks t).touched (kept_at ks t).runs (f t).canon;
          inside = ltb-true (gather new.runs) (2 ^ length ms) ((and-eq-true_iff (known ms e) _).0 ok).1;
        }

        pub number_on_lem : refusal_at h t e ≡ number_at st ms ks t e
        unfolding refusal_at number_at
        number_on_lem =
            let k = kept_at ks t in
            let v = view_on ms k in
            ap (λ (u : View). cond (no_tank t) 1 (first_refusal (first_refusal (refusal e u) (share_number (made_by e) (share_of st t) (held h t) (runs_held (after e u)))) (judgement st (held h) t (runs_held (after e u))))) (tank_on_lem t)
            ∙ ap (λ (n : ℕ → ℕ). cond (no_tank t) 1 (first_refusal (first_refusal (refusal e v) (share_number (made_by e) (share_of st t) (n t) (runs_held (after e v)))) (judgement st n t (runs_held (after e v))))) (held_on_lem f)
            ∙ ap (λ n. cond (no_tank t) 1 (first_refusal (first_refusal n (share_number (made_by e) (share_of st t) (held_on ks t) (runs_held (after e v)))) (judgement st (held_on ks) t (runs_held (after e v))))) (refusal_on ms sorted e k.touched k.runs (f t).canon)
            ∙ ap (cond (no_tank t) 1)
            (first_twice (number_on ms e k.touched k.runs) (share_number (made_by e) (share_of st t) (held_on ks t)) (judgement st (held_on ks) t) (runs_held (after e v)) (length new.runs)
            (λ z. ap runs_held (edit_on e k (f t) is_known z) ∙ held_in new new_fit))

        own_by_lem : number_on ms e (kept_at ks t).touched (kept_at ks t).runs ≡ 0
            → (refusal e (tank_at h t) ≡ 0) × (runs_held (after e (tank_at h t)) ≡ length new.runs)
        own_by_lem z =
            let k = kept_at ks t in (
              ap (refusal e) (tank_on_lem t) ∙ refusal_on ms sorted e k.touched k.runs (f t).canon ∙ z,
              ap (λ v. runs_held (after e v)) (tank_on_lem t) ∙ ap runs_held (edit_on e k (f t) is_known z) ∙ held_in new new_fit,
            )

        pub after_fit : AllFit ms (all_after st ms ks t e)
        unfolding all_after number_at
        after_fit = cond_by (AllFit ms) (eqb (number_at st ms ks t e) 0) (all_set (Fit ms) fresh new ks t f new_fit) f

        moved : number_at st ms ks t e ≡ 0 → after e (tank_at h t) ≡ view_on ms new
        unfolding number_at
        moved z = ap (after e) (tank_on_lem t) ∙ edit_on e (kept_at ks t) (f t) is_known (own_zero (no_tank t) _ _ _ z)

        pub after_on : after_at h t e ≡ house_on st ms (all_after st ms ks t e)
        unfolding after_at all_after number_at
        after_on =
            let b = eqb (number_at st ms ks t e) 0 in
            ap (λ n. cond (eqb n 0) (with_tank h t (after e (tank_at h t))) h) number_on_lem
            ∙ cond_when b _ (house_on st ms (set ks t new)) h
            (λ z i. record { settings = st; tanks = (ap (set (map (view_on ms) ks) t) (moved (eqb-true (number_at st ms ks t e) 0 z)) ∙ sym (map_set (view_on ms) ks t new)) i })
            ∙ sym (cond_ap (house_on st ms) b (set ks t new) ks)

      -- what the rules say of an edit that was tried
      pub own_on : (t : ℕ) (e : Edit) → AllFit ms ks
          → (may ms e (kept_after ms e (kept_at ks t)) && eqb (number_on ms e (kept_at ks t).touched (kept_at ks t).runs) 0) ≡ true
          → (refusal e (tank_at h t) ≡ 0) × (runs_held (after e (tank_at h t)) ≡ length (kept_after ms e (kept_at ks t)).runs)
      own_on t e f ok =
          let b = (and-eq-true_iff (may ms e (kept_after ms e (kept_at ks t))) _).0 ok in
          own_by_lem t e f b.0 (eqb-true (number_on ms e (kept_at ks t).touched (kept_at ks t).runs) 0 b.1)

    -- ---- calls one after another
    pub step_clear : (w : Way) (t : ℕ) (e : Edit) → (step st ms w t e).clear ≡ true
        → (w.clear ≡ true) × (may ms e (kept_after ms e (kept_at w.kept t)) ≡ true)
    unfolding step
    step_clear w t e m = (and-eq-true_iff w.clear _).0 m

    pub steps_clear : (w : Way) (cs : List Call) → (steps st ms w cs).clear ≡ true → w.clear ≡ true
    unfolding steps
    steps_clear w [] m = m
    steps_clear w (c ∷ cs) m = (step_clear w c.tank c.edit (steps_clear (step st ms w c.tank c.edit) cs m)).0

    pub steps_on : (w : Way) (cs : List Call) → AllFit ms w.kept → (steps st ms w cs).clear ≡ true
        → (after_all (house_on st ms w.kept) cs ≡ house_on st ms (steps st ms w cs).kept) × AllFit ms (steps st ms w cs).kept
    unfolding after_all steps step all_after
    steps_on w [] f m = (refl, f)
    steps_on w (c ∷ cs) f m =
        let u = step st ms w c.tank c.edit in
        let ok = (step_clear w c.tank c.edit (steps_clear u cs m)).1 in
        let k = steps_on u cs (after_fit w.kept c.tank c.edit f ok) m in
        (ap (λ h. after_all h cs) (after_on w.kept c.tank c.edit f ok) ∙ k.0, k.1)
