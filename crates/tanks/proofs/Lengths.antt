-- One tank of the house over time. The calls on it are calls in a row on that tank alone, so document 01's rules of one tank hold of each of the
-- eight: touched never turns back, and a touched tank's length is T, plus all lengths inserted and less all deleted since its first accepted annotate.
use Prim.Native.Nat.{ℕ, ◌+◌, ◌<◌}
use mathlib.Core.Path.{◌≡◌, refl, sym, ap, ap₂, ◌∙◌}
use mathlib.Core.Bool.{Bool, true, false, cond, ◌&&◌, false≢true}
use mathlib.Core.List.{List, [], ◌∷◌, ◌++◌, foldl-append}
use native.Mathlib.Omega.{arith}
use lib.Dec.{eqb}
use borrow.Author.Tests.{eqb-true, eq-eqb, ne_eqb}
use lib.ListN.{length, length-set, get_or-replicate}
use Rattle.laws.proofs.Cases.{cond_ap}
use Rattle.tank.specs.Rules.{View, fresh_length, fresh_view, runs_held, Edit, annotating, inserting, deleting, removing, made_by, after_insert, after_delete, after_remove, stripped, after, refusal, first_refusal}
use Rattle.tank.specs.Lengths.{gained, lost, annotates}
use Rattle.tank.proofs.Sequences as own
use Rattle.tanks.specs.declared.Setting.{Setting}
use Rattle.tanks.specs.Settings.{share_of, accepted, judgement}
use Rattle.tanks.specs.House.{House, tank_at, held, opening, share_number, own_at, refusal_at, with_tank, after_at, Call, after_all, reached, sum_on, FirstOn, house_then}
use Rattle.tanks.proofs.SettingLaws.{at_each}
use Rattle.tanks.proofs.CallLaws.{refusal_in}
use Rattle.tanks.proofs.Theorems.{with_same, others_stay, reached_kept, after_by}

-- ---- the calls on tank t
-- none of 17, 9 and 10 applies: the edit would leave the tank within its limit and the sum within 512, and one of the lab's the tank within
-- its share
abbrev pub granted : House → ℕ → Edit → Bool
granted h t e =
    eqb (judgement h.settings (held h) t (runs_held (after e (tank_at h t)))) 0
    && eqb (share_number (made_by e) (share_of h.settings t) (held h t) (runs_held (after e (tank_at h t)))) 0

-- an edit on tank t, as a call on that tank alone
abbrev pub own_call : House → ℕ → Edit → own.OwnCall
own_call h t e = record { edit = e; granted = granted h t e }

-- of calls one after another, those on tank t, each judged by the house as it then is
unfoldable pub calls_on : ℕ → House → List Call → List own.OwnCall
calls_on t h [] = []
calls_on t h (c ∷ cs) =
    cond (eqb c.tank t)
    (own_call h t c.edit ∷ calls_on t (after_at h c.tank c.edit) cs)
    (calls_on t (after_at h c.tank c.edit) cs)

-- ---- one call
-- the first of two numbers is 0 exactly where both are
first_both : (n m : ℕ) → eqb (first_refusal n m) 0 ≡ (eqb m 0 && eqb n 0)
first_both n m = go (eqb n 0) (eqb m 0) refl refl
  where
    go : (a b : Bool) → eqb n 0 ≡ a → eqb m 0 ≡ b → eqb (first_refusal n m) 0 ≡ (eqb m 0 && eqb n 0)
    go true true e f = simp (e, f)
    go true false e f = simp (e, f)
    go false true e f = simp (e, f)
    go false false e f = simp (e, f)

and_three : (a b c : Bool) → (a && (b && c)) ≡ ((a && b) && c)
and_three true b c = refl
and_three false b c = refl

-- a call is accepted by the house exactly where it is granted and the tank's own rules accept it
pub accepted_own : (h : House) (t : ℕ) (e : Edit) → t < 8 → eqb (refusal_at h t e) 0 ≡ own.accepted_by (own_call h t e) (tank_at h t)
accepted_own h t e t8 =
    let s = share_number (made_by e) (share_of h.settings t) (held h t) (runs_held (after e (tank_at h t))) in
    let j = judgement h.settings (held h) t (runs_held (after e (tank_at h t))) in
    ap (λ (n : ℕ). eqb n 0) (refusal_in h t e t8)
    ∙ first_both (own_at h t e) j
    ∙ ap (λ (b : Bool). eqb j 0 && b) (first_both (refusal e (tank_at h t)) s)
    ∙ and_three (eqb j 0) (eqb s 0) (eqb (refusal e (tank_at h t)) 0)

-- no call changes how many tanks there are
count_stays : (h : House) (t : ℕ) (e : Edit) → length (after_at h t e).tanks ≡ length h.tanks
count_stays h t e = after_by (λ g. length g.tanks ≡ length h.tanks) h t e refl (λ _ _. length-set h.tanks t (after e (tank_at h t)))

module _ (h : House) (t : ℕ) (e : Edit) (t8 : t < 8) (eight : length h.tanks ≡ 8) where
  -- what a call on tank t leaves of it
  tank_after : tank_at (after_at h t e) t ≡ cond (eqb (refusal_at h t e) 0) (after e (tank_at h t)) (tank_at h t)
  unfolding after_at
  tank_after =
      cond_ap (λ (g : House). tank_at g t) (eqb (refusal_at h t e) 0) (with_tank h t (after e (tank_at h t))) h
      ∙ ap (λ (v : View). cond (eqb (refusal_at h t e) 0) v (tank_at h t)) (with_same h t (after e (tank_at h t)) eight t8)

  -- the same that its own call leaves
  own_call_lem : tank_at (after_at h t e) t ≡ own.after_one (own_call h t e) (tank_at h t)
  own_call_lem = tank_after ∙ ap (λ (b : Bool). cond b (after e (tank_at h t)) (tank_at h t)) (accepted_own h t e t8)

-- a call on tank u, and then calls on tank t alone
call_then : (h : House) (t u : ℕ) (e : Edit) → t < 8 → length h.tanks ≡ 8 → (xs : List own.OwnCall)
    → own.after_calls xs (tank_at (after_at h u e) t) ≡ own.after_calls (cond (eqb u t) (own_call h t e ∷ xs) xs) (tank_at h t)
unfolding own.after_calls
call_then h t u e t8 eight xs =
    at_each (λ w. own.after_calls xs (tank_at (after_at h w e) t) ≡ own.after_calls (cond (eqb w t) (own_call h t e ∷ xs) xs) (tank_at h t)) t u
    (rw (eq-eqb t t refl) (ap (own.after_calls xs) (own_call_lem h t e t8 eight)))
    (λ ne. rw (ne_eqb u t ne) (ap (own.after_calls xs) (others_stay h u e t (λ z. ne (sym z)))))

-- ---- calls one after another: tank t is what the calls on it make of it
pub own_calls : (h : House) (cs : List Call) (t : ℕ) → t < 8 → length h.tanks ≡ 8
    → tank_at (after_all h cs) t ≡ own.after_calls (calls_on t h cs) (tank_at h t)
unfolding after_all calls_on own.after_calls
own_calls h [] t t8 eight = refl
own_calls h (c ∷ cs) t t8 eight =
    own_calls (after_at h c.tank c.edit) cs t t8 (count_stays h c.tank c.edit ∙ eight)
    ∙ call_then h t c.tank c.edit t8 eight (calls_on t (after_at h c.tank c.edit) cs)

-- ---- calls behind calls
-- the calls on tank t of both
on_append : (t : ℕ) (h : House) (xs ys : List Call) → calls_on t h (xs ++ ys) ≡ calls_on t h xs ++ calls_on t (after_all h xs) ys
unfolding after_all calls_on
on_append t h [] ys = refl
on_append t h (x ∷ xs) ys =
    let next : House = after_at h x.tank x.edit in
    ap (λ (zs : List own.OwnCall). cond (eqb x.tank t) (own_call h t x.edit ∷ zs) zs) (on_append t next xs ys)
    ∙ sym (cond_ap (λ (zs : List own.OwnCall). zs ++ calls_on t (after_all next xs) ys) (eqb x.tank t) (own_call h t x.edit ∷ calls_on t next xs) (calls_on t next xs))

-- ---- sums over the accepted calls on tank t
-- a call on tank u, and then a sum over calls on tank t alone
sum_then : (f : Edit → ℕ) (h : House) (t u : ℕ) (e : Edit) → t < 8 → length h.tanks ≡ 8 → (xs : List own.OwnCall)
    → cond (eqb u t && eqb (refusal_at h u e) 0) (f e) 0 + own.sum_of f xs (tank_at (after_at h u e) t)
    ≡ own.sum_of f (cond (eqb u t) (own_call h t e ∷ xs) xs) (tank_at h t)
unfolding own.sum_of
sum_then f h t u e t8 eight xs =
    at_each
    (λ w.
    cond (eqb w t && eqb (refusal_at h w e) 0) (f e) 0 + own.sum_of f xs (tank_at (after_at h w e) t)
    ≡ own.sum_of f (cond (eqb w t) (own_call h t e ∷ xs) xs) (tank_at h t)) t u
    (rw (eq-eqb t t refl) (ap₂ (λ (b : Bool) (v : View). cond b (f e) 0 + own.sum_of f xs v) (accepted_own h t e t8) (own_call_lem h t e t8 eight)))
    (λ ne. rw (ne_eqb u t ne) (omega (arith, ap (own.sum_of f xs) (others_stay h u e t (λ z. ne (sym z))))))

-- the sum is that over the tank's own calls
pub own_sum : (f : Edit → ℕ) (h : House) (cs : List Call) (t : ℕ) → t < 8 → length h.tanks ≡ 8
    → sum_on f t h cs ≡ own.sum_of f (calls_on t h cs) (tank_at h t)
unfolding sum_on calls_on own.sum_of
own_sum f h [] t t8 eight = refl
own_sum f h (c ∷ cs) t t8 eight =
    let next : House = after_at h c.tank c.edit in
    ap (λ (n : ℕ). cond (eqb c.tank t && eqb (refusal_at h c.tank c.edit) 0) (f c.edit) 0 + n)
    (own_sum f next cs t t8 (count_stays h c.tank c.edit ∙ eight))
    ∙ sum_then f h t c.tank c.edit t8 eight (calls_on t next cs)

-- ---- the first accepted annotate of tank t
-- an edit that touches an untouched tank is an annotate
touches_only : (e : Edit) (v : View) → v.touched ≡ false → (after e v).touched ≡ true → annotates e ≡ true
unfolding annotates after after_insert after_delete after_remove stripped
touches_only (annotating a b m) v u t = refl
touches_only (inserting who pos len) v u t = absurd (false≢true (rw u at t))
touches_only (deleting who a b) v u t = absurd (false≢true (rw u at t))
touches_only (removing id last) v u t = absurd (false≢true (sym u ∙ t))

-- what a call on tank u is that touches tank t: on that tank, an annotate, accepted
record Touching (h : House) (t u : ℕ) (e : Edit) : Type 0 where
  tank : u ≡ t
  annotate : annotates e ≡ true
  made : refusal_at h t e ≡ 0

-- a call that touches tank t is such a one
touching : (h : House) (t u : ℕ) (e : Edit) → t < 8 → length h.tanks ≡ 8 → (tank_at h t).touched ≡ false → (tank_at (after_at h u e) t).touched ≡ true
    → Touching h t u e
touching h t u e t8 eight un =
    at_each (λ w. (tank_at (after_at h w e) t).touched ≡ true → Touching h t w e) t u
    (λ k. made (eqb (refusal_at h t e) 0) refl (ap (λ (v : View). v.touched) (sym (tank_after h t e t8 eight)) ∙ k))
    (λ ne k. absurd (false≢true (sym un ∙ ap (λ (v : View). v.touched) (sym (others_stay h u e t (λ z. ne (sym z)))) ∙ k)))
  where
    made : (b : Bool) → eqb (refusal_at h t e) 0 ≡ b → (cond b (after e (tank_at h t)) (tank_at h t)).touched ≡ true → Touching h t t e
    made true g k = record { tank = refl; annotate = touches_only e (tank_at h t) un k; made = eqb-true (refusal_at h t e) 0 g }
    made false g k = absurd (false≢true (sym un ∙ k))

-- the first of the calls is its first accepted annotate
first_here : (h : House) (t : ℕ) (c : Call) (cs : List Call) → (tank_at h t).touched ≡ false → Touching h t c.tank c.edit → FirstOn t h (c ∷ cs)
unfolding after_all
first_here h t c cs un f = record {
  before = [];
  edit = c.edit;
  later = cs;
  split = λ i. record { tank = f.tank i; edit = c.edit } ∷ cs;
  untouched = un;
  annotate = f.annotate;
  made = f.made;
}

-- or that comes later
first_later : (h : House) (t : ℕ) (c : Call) (cs : List Call) → FirstOn t (after_at h c.tank c.edit) cs → FirstOn t h (c ∷ cs)
unfolding after_all
first_later h t c cs f = record {
  before = c ∷ f.before;
  edit = f.edit;
  later = f.later;
  split = ap (λ (xs : List Call). c ∷ xs) f.split;
  untouched = f.untouched;
  annotate = f.annotate;
  made = f.made;
}

-- where calls touch a tank, one of them is its first accepted annotate
pub has_first : (h : House) (cs : List Call) (t : ℕ) → t < 8 → length h.tanks ≡ 8 → (tank_at h t).touched ≡ false → (tank_at (after_all h cs) t).touched ≡ true
    → FirstOn t h cs
unfolding after_all
has_first h [] t t8 eight un to = absurd (false≢true (sym un ∙ to))
has_first h (c ∷ cs) t t8 eight un to =
    go (tank_at (after_at h c.tank c.edit) t).touched refl
    (λ k. has_first (after_at h c.tank c.edit) cs t t8 (count_stays h c.tank c.edit ∙ eight) k to)
  where
    go : (b : Bool) → (tank_at (after_at h c.tank c.edit) t).touched ≡ b
        → ((tank_at (after_at h c.tank c.edit) t).touched ≡ false → FirstOn t (after_at h c.tank c.edit) cs)
        → FirstOn t h (c ∷ cs)
    go true k rest = first_here h t c cs un (touching h t c.tank c.edit t8 eight un k)
    go false k rest = first_later h t c cs (rest k)

-- ---- a tank of a house that was opened with accepted settings
-- opening makes it a fresh one
fresh_at : (st : List Setting) (t : ℕ) → t < 8 → tank_at (opening st) t ≡ fresh_view
unfolding opening
fresh_at st t h = get_or-replicate 8 t fresh_view fresh_view h

-- one of eight
opened_eight : (st : List Setting) → length (opening st).tanks ≡ 8
unfolding opening
opened_eight st = refl

module _ (st : List Setting) (l : length st ≡ 8) (ok : accepted st ≡ true) (t : ℕ) (t8 : t < 8) where
  -- it is what its own calls make of a fresh tank
  pub own_reached : (cs : List Call) → tank_at (reached st cs) t ≡ own.after_calls (calls_on t (opening st) cs) fresh_view
  unfolding reached
  own_reached cs =
      own_calls (opening st) cs t t8 (opened_eight st) ∙ ap (own.after_calls (calls_on t (opening st) cs)) (fresh_at st t t8)

  -- touched never turns back
  pub house_touched_stays : (before later : List Call) → (tank_at (reached st before) t).touched ≡ true → (tank_at (reached st (before ++ later)) t).touched ≡ true
  unfolding reached after_all
  house_touched_stays before later h =
      let now : House = after_all (opening st) before in
      ap (λ (x : House). (tank_at x t).touched) (foldl-append _ (opening st) before later)
      ∙ ap (λ (v : View). v.touched) (own_calls now later t t8 (reached_kept st l ok before).eight)
      ∙ own.touched_stays (calls_on t now later) (tank_at now t) h

  -- where it is touched there is a first accepted annotate
  pub house_has_first : (cs : List Call) → (tank_at (reached st cs) t).touched ≡ true → FirstOn t (opening st) cs
  unfolding reached fresh_view
  house_has_first cs h =
      has_first (opening st) cs t t8 (opened_eight st) (ap (λ (v : View). v.touched) (fresh_at st t t8)) h

  module _ (cs : List Call) (f : FirstOn t (opening st) cs) where
    -- before it: eight tanks, and this one is what its calls make of a fresh one
    then_eight : length (after_all (opening st) f.before).tanks ≡ 8
    unfolding reached
    then_eight = (reached_kept st l ok f.before).eight

    then_tank : tank_at (after_all (opening st) f.before) t ≡ own.after_calls (calls_on t (opening st) f.before) fresh_view
    unfolding reached
    then_tank = own_reached f.before

    -- among the tank's own calls it is the first too
    own_first : own.First (calls_on t (opening st) cs)
    unfolding calls_on
    own_first = record {
      before = calls_on t (opening st) f.before;
      call = own_call (after_all (opening st) f.before) t f.edit;
      later = calls_on t (house_then f) f.later;
      split = ap (calls_on t (opening st)) f.split
          ∙ on_append t (opening st) f.before (record { tank = t; edit = f.edit } ∷ f.later)
          ∙ rw (eq-eqb t t refl);
      untouched = ap (λ (v : View). v.touched) (sym then_tank) ∙ f.untouched;
      annotate = f.annotate;
      made = ap (own.accepted_by (own_call (after_all (opening st) f.before) t f.edit)) (sym then_tank)
          ∙ sym (accepted_own (after_all (opening st) f.before) t f.edit t8)
          ∙ eq-eqb (refusal_at (after_all (opening st) f.before) t f.edit) 0 f.made;
    }

    -- the tank right after it
    tank_then : tank_at (house_then f) t ≡ own.touched_by own_first
    unfolding own_first
    tank_then =
        own_call_lem (after_all (opening st) f.before) t f.edit t8 then_eight
        ∙ ap (own.after_one (own_call (after_all (opening st) f.before) t f.edit)) then_tank

    -- what its calls add to it or take from it since then
    sum_since : (g : Edit → ℕ) → sum_on g t (house_then f) f.later ≡ own.sum_of g (calls_on t (house_then f) f.later) (own.touched_by own_first)
    sum_since g =
        own_sum g (house_then f) f.later t t8 (count_stays (after_all (opening st) f.before) t f.edit ∙ then_eight)
        ∙ ap (own.sum_of g (calls_on t (house_then f) f.later)) tank_then

    -- its length is T, plus all lengths inserted and less all lengths deleted by the accepted calls on it since then
    pub house_since_first : (tank_at (reached st cs) t).length + sum_on lost t (house_then f) f.later
        ≡ fresh_length + sum_on gained t (house_then f) f.later
    unfolding own_first
    house_since_first =
        omega (
          arith,
          ap (λ (v : View). v.length) (own_reached cs),
          sum_since lost,
          sum_since gained,
          own.since_first own_first,
        )
