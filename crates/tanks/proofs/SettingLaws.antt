-- The laws of the settings' rule and of the judgement.
use Prim.Native.Nat.{ℕ, ◌+◌, ◌≤◌, ◌<◌, max}
use mathlib.Core.Path.{◌≡◌, refl, sym, ap, ◌∙◌, subst}
use mathlib.Core.Bool.{Bool, true, false, ◌&&◌, not, and-eq-true_iff}
use mathlib.Core.List.{List}
use native.Mathlib.Omega.{arith}
use native.Mathlib.Decide.{dec_lt, dec_le}
use lib.Dec.{leb, eqb}
use borrow.Author.Tests.{leb-true, eqb-true, lt-ltb, le-ltb, eqb-false, eq-eqb, ne_eqb}
use lib.ListN.{get_or, length, set}
use mathlib.Core.Logic.{◌≢◌}
use lib.Seq.{get_or-set_same, get_or-set_other}
use Rattle.laws.proofs.Cases.{cond_by}
use Rattle.tanks.specs.declared.Setting.{Setting}
use Rattle.tanks.specs.declared.Head.{Head}
use Rattle.tanks.specs.declared.Tanks.{Tanks}
use Rattle.runs.specs.Positions.{sum_below}
use Rattle.runs.proofs.ScanLaws.{any_yes, all_yes, all_every, all_is}
use Rattle.runs.proofs.SumLaws.{sum_same, sum_least, sum_bound, sum_next}
use Rattle.tank.specs.Rules.{first_refusal}
use Rattle.tanks.specs.Pool.{tank_in, runs_in, runs_below, tank_of, Sound}
use Rattle.tanks.specs.Settings.{no_setting, share_of, limit_of, keeps_rule, all_keep_rule, shares, accepted, claim, claims, held_after, judgement}
use Rattle.tank.specs.declared.Tank.{Tank}
use Rattle.tank.specs.State as state
use Rattle.tanks.specs.Promises.{Judged, Small}

pub record Keeps (s : Setting) : Type 0 where
  pub low : 1 ≤ s.share
  pub order : s.share ≤ s.limit
  pub high : s.limit ≤ 512

pub keeps_facts : (s : Setting) → keeps_rule s ≡ true → Keeps s
keeps_facts s h =
    let p = (and-eq-true_iff (leb 1 s.share) (leb s.share s.limit && leb s.limit 512)).0 h in
    let q = (and-eq-true_iff (leb s.share s.limit) (leb s.limit 512)).0 p.1 in
    record { low = leb-true 1 s.share p.0; order = leb-true s.share s.limit q.0; high = leb-true s.limit 512 q.1 }

module _ (st : List Setting) where
  keeps : ℕ → Bool
  keeps t = keeps_rule (get_or st t no_setting)

  all_keep_at : (n u : ℕ) → all_keep_rule st n ≡ true → u < n → Keeps (get_or st u no_setting)
  unfolding keeps
  all_keep_at n u h g = keeps_facts (get_or st u no_setting) (all_every keeps 0 n h u (omega arith) g)

  pub all_keep_grown : (u : ℕ) → all_keep_rule st u ≡ true → keeps_rule (get_or st u no_setting) ≡ true → all_keep_rule st (u + 1) ≡ true
  unfolding keeps
  all_keep_grown u h g =
      all_yes keeps 0 (u + 1)
      (λ p a b. elim (dec_lt p u) [ yes l ↦ all_every keeps 0 u h p a l | no l ↦ let e : p ≡ u = omega arith in rw e g ])

  -- one that does not keep it spoils all
  all_keep_not : (n u : ℕ) → u < n → keeps_rule (get_or st u no_setting) ≡ false → all_keep_rule st n ≡ false
  unfolding keeps
  all_keep_not n u g h = all_is keeps 0 n ∙ ap not (any_yes (λ p. not (keeps p)) 0 n u (omega arith) g (ap not h))

module _ (st : List Setting) (ok : accepted st ≡ true) where
  pub accepted_at : (u : ℕ) → u < 8 → Keeps (get_or st u no_setting)
  unfolding accepted
  accepted_at u h = all_keep_at st 8 u ((and-eq-true_iff (all_keep_rule st 8) (leb (shares st 8) 512)).0 ok).0 h

  pub accepted_sum : shares st 8 ≤ 512
  unfolding accepted
  accepted_sum = leb-true (shares st 8) 512 ((and-eq-true_iff (all_keep_rule st 8) (leb (shares st 8) 512)).0 ok).1

-- ---- claims
pub claims_cong : (st : List Setting) (f g : ℕ → ℕ) (n : ℕ) → ((u : ℕ) → u < n → f u ≡ g u) → claims st f n ≡ claims st g n
claims_cong st f g n h = sum_same (claim st f) (claim st g) n (λ u l. ap (λ (x : ℕ). max x (share_of st u)) (h u l))

-- the tanks hold no more runs than they claim
pub runs_claims : (st : List Setting) (f : ℕ → ℕ) (n : ℕ) → sum_below f n ≤ claims st f n
runs_claims st f n = sum_least f (claim st f) n (λ u l. omega arith)

pub small_more : (st : List Setting) (hs : List Head) (t n u : ℕ) → Small st hs n → u < 8
    → claims st (held_after (runs_in hs) t n) u + max (held_after (runs_in hs) t n u) (share_of st u) ≤ 4096
small_more st hs t n u s h =
    let f : (v : ℕ) → v < 8 → held_after (runs_in hs) t n v ≤ 512 = λ v l. cond_by (λ (x : ℕ). x ≤ 512) (eqb v t) s.more (s.runs v l) in
    omega (
      arith,
      sum_bound (claim st (held_after (runs_in hs) t n)) 512 u (λ v l. omega (arith, f v (omega arith), s.shares v (omega arith))),
      f u h,
      s.shares u h,
    )

pub judged_small : (st : List Setting) (hs : List Head) (t n : ℕ) → t < 8 → Judged st hs → n ≤ limit_of st t → Small st hs n
judged_small st hs t n h j l = record {
  shares = λ u g. omega (arith, accepted_at st j.rule u g);
  runs = λ u g. omega (arith, accepted_at st j.rule u g, j.limits u g);
  more = omega (arith, accepted_at st j.rule t h);
}

-- tank t taken out, by its representation
pub record TakenOut (s : Tanks) (t : ℕ) (x : Tank) : Type 0 where
  pub is : x ≡ tank_of s t
  pub sound : state.Sound x

module _ (s : Tanks) (ok : Sound s) where
  pub sound_held : runs_below s.heads 8 ≤ 512
  sound_held = omega (arith, ok.sum, runs_claims s.settings (runs_in s.heads) 8)

  pub sound_place : (t : ℕ) → t < 8 → runs_below s.heads t + runs_in s.heads t ≤ 512
  sound_place t h = omega (arith, sound_held, sum_next (runs_in s.heads) t 8 h)

  few : (t : ℕ) → t < 8 → (tank_of s t).runs ≤ 512
  unfolding tank_of tank_in
  few t h = omega (arith, sound_place t h)

  pub taken : (t : ℕ) (x : Tank) → t < 8 → x ≡ tank_of s t → TakenOut s t x
  taken t x h e = record { is = e; sound = rw e (record { formed = ok.each t h; within = few t h }) }

  pub sound_judged : Judged s.settings s.heads
  sound_judged = record { rule = ok.rule; limits = ok.limits }

-- ---- the code's branches
pub accepts_not : (st : List Setting) (u : ℕ) → u < 8 → keeps_rule (get_or st u no_setting) ≡ false → false ≡ accepted st
unfolding accepted
accepts_not st u h g = rw (all_keep_not st 8 u h g)

pub accepts_last : (st : List Setting) (sum u : ℕ) → u ≡ 8 → sum ≡ shares st u → all_keep_rule st u ≡ true → leb sum 512 ≡ accepted st
unfolding accepted
accepts_last st sum u e p q =
    let p' : sum ≡ shares st 8 = rw e at p in
    let q' : all_keep_rule st 8 ≡ true = rw e at q in
    rw (p', q')

module _ (st : List Setting) (held : ℕ → ℕ) (t n : ℕ) where
  pub judge_9 : limit_of st t < n → judgement st held t n ≡ 9
  unfolding judgement
  judge_9 h = rw (lt-ltb (limit_of st t) n h)

  pub judge_10 : n ≤ limit_of st t → 512 < claims st (held_after held t n) 8 → judgement st held t n ≡ 10
  unfolding judgement
  judge_10 h g = rw (le-ltb (limit_of st t) n h, lt-ltb 512 (claims st (held_after held t n) 8) g)

  pub judge_0 : n ≤ limit_of st t → claims st (held_after held t n) 8 ≤ 512 → judgement st held t n ≡ 0
  unfolding judgement
  judge_0 h g = rw (le-ltb (limit_of st t) n h, le-ltb 512 (claims st (held_after held t n) 8) g)

  -- accepted only so
  pub judge_within : judgement st held t n ≡ 0 → n ≤ limit_of st t
  judge_within e = elim (dec_le n (limit_of st t)) [ yes h ↦ h | no h ↦ absurd (omega (arith, judge_9 (omega arith))) ]

  pub judge_sum : judgement st held t n ≡ 0 → claims st (held_after held t n) 8 ≤ 512
  judge_sum e =
      elim (dec_le (claims st (held_after held t n) 8) 512) [
        | yes h ↦ h
        | no h ↦ absurd (omega (arith, judge_10 (judge_within e) (omega arith)))
      ]

-- ---- the first number that is not 0
module _ (n m : ℕ) (z : first_refusal n m ≡ 0) where
  pub first_zero : n ≡ 0
  first_zero = go (eqb n 0) refl
    where
      go : (b : Bool) → eqb n 0 ≡ b → n ≡ 0
      go true e = eqb-true n 0 e
      go false e = rw e at z

  pub second_zero : m ≡ 0
  second_zero = let e : first_refusal 0 m ≡ 0 = rw first_zero at z in e

-- ---- one tank comes to hold another number of runs
-- what holds at t and at every other place holds everywhere
pub at_each : (P : ℕ → Type 0) (t u : ℕ) → P t → (u ≢ t → P u) → P u
at_each P t u same other = go (eqb u t) refl
  where
    go : (b : Bool) → eqb u t ≡ b → P u
    go true e = subst P (sym (eqb-true u t e)) same
    go false e = other (eqb-false u t e)

pub held_set : {A : Type 0} (f : A → ℕ) (d x : A) (l : List A) (t : ℕ) → t < length l → (u : ℕ)
    → f (get_or (set l t x) u d) ≡ held_after (λ v. f (get_or l v d)) t (f x) u
held_set f d x l t h u =
    at_each (λ v. f (get_or (set l t x) v d) ≡ held_after (λ w. f (get_or l w d)) t (f x) v) t u
    (rw (eq-eqb t t refl) (ap f (get_or-set_same l t x d h)))
    (λ ne. rw (ne_eqb u t ne) (ap f (get_or-set_other l t u x d ne)))

-- where the judgement is 0, the limits and the sum are kept
module _ (st : List Setting) (held next : ℕ → ℕ) (t n : ℕ) (is : (u : ℕ) → next u ≡ held_after held t n u) (judged : judgement st held t n ≡ 0) where
  pub judged_limits : ((u : ℕ) → u < 8 → held u ≤ limit_of st u) → (u : ℕ) → u < 8 → next u ≤ limit_of st u
  judged_limits limits u h =
      rw (is u)
      (at_each (λ v. held_after held t n v ≤ limit_of st v) t u
      (rw (eq-eqb t t refl) (judge_within st held t n judged))
      (λ ne. rw (ne_eqb u t ne) (limits u h)))

  pub judged_sum : claims st next 8 ≤ 512
  judged_sum = omega (arith, judge_sum st held t n judged, claims_cong st next (held_after held t n) 8 (λ u _. is u))
