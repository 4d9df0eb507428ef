-- Demand 3, over the rules of document 01: for accepted settings and any list of calls, refused ones among them.
use Prim.Native.Nat.{ℕ, ◌≤◌, ◌<◌, max}
use mathlib.Core.Path.{◌≡◌, refl, sym, ap, ◌∙◌, subst}
use mathlib.Core.Bool.{Bool, true, false, cond, ◌&&◌, false≢true}
use mathlib.Core.Logic.{◌≢◌}
use mathlib.Core.List.{List, [], ◌∷◌}
use native.Mathlib.Omega.{arith}
use native.Mathlib.Decide.{dec_lt, dec_le, ℕ_discrete}
use lib.Dec.{eqb}
use borrow.Author.Tests.{ltb-false, leb-false, eq-eqb, ne_eqb, lt-ltb, le-ltb}
use lib.ListN.{length, replicate, length-set}
use lib.Seq.{get_or-set_same, get_or-set_other}
use Rattle.laws.proofs.Cases.{cond_by}
use Rattle.styles.specs.declared.Identity.{Identity}
use Rattle.styles.specs.declared.Party.{Party}
use Rattle.styles.specs.declared.Party.TheVariants.{Plant, Lab}
use Rattle.runs.specs.Positions.{sum_below}
use Rattle.runs.proofs.SumLaws.{sum_least}
use Rattle.tank.specs.Rules.{View, fresh_view, runs_held, Edit, inserting, deleting, removing, is_lab, made_by, after, barred, empty, over, long, own_number, clashes, full, refusal, first_refusal, passes_share}
use Rattle.tank.proofs.Calls.{number_by}
use Rattle.tank.proofs.Sequences.{accepted_fits}
use Rattle.tank.proofs.DeleteCount.{delete_fewer}
use Rattle.tanks.specs.declared.Setting.{Setting}
use Rattle.tanks.specs.declared.Tanks.{Tanks}
use Rattle.tanks.specs.Settings.{share_of, limit_of, accepted, claim, claims, held_after, judgement}
use Rattle.tanks.specs.House.{House, tank_at, held, smallest, opening, share_number, own_at, refusal_at, with_tank, after_at, inserted_set_at, removed_first_at, Call, after_all, reached, Ten}
use Rattle.tanks.specs.Pool.{runs_in, meaning, Sound, freshly}
use Rattle.tanks.proofs.SettingLaws.{accepted_at, claims_cong, runs_claims, judge_9, judge_10, judge_0, second_zero, at_each, held_set, judged_limits, judged_sum}
use Rattle.tanks.proofs.MeaningLaws.{held_is, tanks_length}
use Rattle.tanks.proofs.CallLaws.{refusal_in, refusal_past, after_refused, after_done}
use Rattle.tanks.proofs.OpeningLaws.{opens, opens_2}

-- ---- what every state of the rules keeps
pub record Kept (h : House) : Type 0 where
  pub rule : accepted h.settings ≡ true
  pub eight : length h.tanks ≡ 8
  pub limits : (u : ℕ) → u < 8 → held h u ≤ limit_of h.settings u
  pub sum : claims h.settings (held h) 8 ≤ 512

-- the meaning of a sound state keeps it
pub kept_sound : (s : Tanks) → Sound s → Kept (meaning s)
unfolding meaning
kept_sound s ok = record {
  rule = ok.rule;
  eight = tanks_length s;
  limits = λ u h. omega (arith, held_is s ok u h, ok.limits u h);
  sum = omega (arith, ok.sum, claims_cong s.settings (held (meaning s)) (runs_in s.heads) 8 (held_is s ok));
}

-- what holds of the house before a call, and of the one that an accepted call makes, holds of the house after it
pub after_by : (P : House → Type 0) (h : House) (t : ℕ) (e : Edit) → P h
    → (t < 8 → judgement h.settings (held h) t (runs_held (after e (tank_at h t))) ≡ 0 → P (with_tank h t (after e (tank_at h t)))) → P (after_at h t e)
after_by P h t e before made =
    elim (dec_lt 0 (refusal_at h t e)) [
      | yes p ↦ subst P (sym (after_refused h t e p)) before
      | no p ↦
          let z : refusal_at h t e ≡ 0 = omega arith in
          elim (dec_lt t 8) [
            | no l ↦ absurd (omega (arith, refusal_past h t e (omega arith)))
            | yes l ↦ subst P (sym (after_done h t e z)) (made l (second_zero (own_at h t e) _ (sym (refusal_in h t e l) ∙ z)))
          ]
    ]

module _ (h : House) (t : ℕ) (v : View) (eight : length h.tanks ≡ 8) (t8 : t < 8) where
  pub with_same : tank_at (with_tank h t v) t ≡ v
  with_same = get_or-set_same h.tanks t v fresh_view (omega arith)

  held_with : (u : ℕ) → held (with_tank h t v) u ≡ held_after (held h) t (runs_held v) u
  held_with u = held_set runs_held fresh_view v h.tanks t (omega arith) u

kept_with_lem : (h : House) (t : ℕ) (v : View) → Kept h → t < 8 → judgement h.settings (held h) t (runs_held v) ≡ 0 → Kept (with_tank h t v)
kept_with_lem h t v kept t8 j = record {
  rule = kept.rule;
  eight = length-set h.tanks t v ∙ kept.eight;
  limits = judged_limits h.settings (held h) (held (with_tank h t v)) t (runs_held v) (held_with h t v kept.eight t8) j kept.limits;
  sum = judged_sum h.settings (held h) (held (with_tank h t v)) t (runs_held v) (held_with h t v kept.eight t8) j;
}

-- a call keeps it, accepted or refused
pub kept_call : (h : House) (t : ℕ) (e : Edit) → Kept h → Kept (after_at h t e)
kept_call h t e kept = after_by Kept h t e kept (λ t8 j. kept_with_lem h t (after e (tank_at h t)) kept t8 j)

pub kept_all : (h : House) (cs : List Call) → Kept h → Kept (after_all h cs)
unfolding after_all
kept_all h [] k = k
kept_all h (c ∷ cs) k = kept_all (after_at h c.tank c.edit) cs (kept_call h c.tank c.edit k)

-- so does the house that opening makes, whatever the settings
pub kept_open : (st : List Setting) → length st ≡ 8 → Kept (opening st)
kept_open st l = go (accepted st) refl
  where
    go : (b : Bool) → accepted st ≡ b → Kept (opening st)
    go true e = let s = opens st l e in subst Kept s.is (kept_sound (freshly st) s.sound)
    go false e = let s = opens_2 st e in subst Kept s.is (kept_sound (freshly (replicate 8 smallest)) s.sound)

-- ---- no call changes the settings
pub settings_stay : (h : House) (t : ℕ) (e : Edit) → (after_at h t e).settings ≡ h.settings
settings_stay h t e = after_by (λ g. g.settings ≡ h.settings) h t e refl (λ _ _. refl)

settings_all : (h : House) (cs : List Call) → (after_all h cs).settings ≡ h.settings
unfolding after_all
settings_all h [] = refl
settings_all h (c ∷ cs) = settings_all (after_at h c.tank c.edit) cs ∙ settings_stay h c.tank c.edit

settings_open : (st : List Setting) → accepted st ≡ true → (opening st).settings ≡ st
unfolding opening
settings_open st e = rw e

-- ---- a call on one tank changes no other: no view, so no length
pub others_stay : (h : House) (t : ℕ) (e : Edit) (u : ℕ) → u ≢ t → tank_at (after_at h t e) u ≡ tank_at h u
others_stay h t e u ne =
    after_by (λ g. tank_at g u ≡ tank_at h u) h t e refl (λ _ _. get_or-set_other h.tanks t u (after e (tank_at h t)) fresh_view ne)

-- ---- refusal 10 comes exactly when no earlier one applies and the sum would pass 512
pub ten_then : (h : House) (t : ℕ) (e : Edit) → Ten h t e → refusal_at h t e ≡ 10
ten_then h t e p =
    refusal_in h t e p.tank
    ∙ ap (λ (n : ℕ). first_refusal n (judgement h.settings (held h) t (runs_held (after e (tank_at h t))))) p.own
    ∙ (judge_10 h.settings (held h) t _ p.limit p.over)

-- a number that is neither 9 nor 10
abbrev pub NoWant : ℕ → Type 0
NoWant n = (n ≢ 9) × (n ≢ 10)

-- the tank's own numbers are 3 to 8, 14, 16 and 18
rule_free : (e : Edit) (v : View) → NoWant (refusal e v)
rule_free e v =
    number_by NoWant
    (λ z. omega arith, λ z. omega arith)
    (λ z. omega arith, λ z. omega arith)
    (λ z. omega arith, λ z. omega arith)
    (λ z. omega arith, λ z. omega arith)
    (λ z. omega arith, λ z. omega arith)
    (λ z. omega arith, λ z. omega arith)
    (λ z. omega arith, λ z. omega arith)
    (λ z. omega arith, λ z. omega arith)
    (λ z. omega arith, λ z. omega arith)
    (λ z. omega arith, λ z. omega arith)
    e v

-- and 17 behind them is neither 9 nor 10
own_free : (h : House) (t : ℕ) (e : Edit) → NoWant (own_at h t e)
own_free h t e =
    cond_by NoWant (eqb (refusal e (tank_at h t)) 0)
    (cond_by NoWant (passes_share (made_by e) (share_of h.settings t) (held h t) (runs_held (after e (tank_at h t)))) (λ z. omega arith, λ z. omega arith) (λ z. omega arith, λ z. omega arith))
    (rule_free e (tank_at h t))

-- where the tank refuses, that is the number
own_first : (h : House) (t : ℕ) (e : Edit) → t < 8 → own_at h t e ≢ 0 → refusal_at h t e ≡ own_at h t e
own_first h t e l ne = refusal_in h t e l ∙ ap (λ (b : Bool). cond b (judgement h.settings (held h) t (runs_held (after e (tank_at h t)))) (own_at h t e)) (ne_eqb (own_at h t e) 0 ne)

judged_next : (h : House) (t : ℕ) (e : Edit) → t < 8 → own_at h t e ≡ 0
    → refusal_at h t e ≡ judgement h.settings (held h) t (runs_held (after e (tank_at h t)))
judged_next h t e l z =
    refusal_in h t e l ∙ ap (λ (n : ℕ). first_refusal n (judgement h.settings (held h) t (runs_held (after e (tank_at h t))))) z

pub ten_only : (h : House) (t : ℕ) (e : Edit) → refusal_at h t e ≡ 10 → Ten h t e
ten_only h t e ten =
    elim (dec_lt t 8) [
      | no l ↦ absurd (omega (arith, refusal_past h t e (omega arith)))
      | yes l ↦
          elim (ℕ_discrete (own_at h t e) 0) [
            | no ne ↦ absurd ((own_free h t e).1 (sym (own_first h t e l ne) ∙ ten))
            | yes z ↦
                let j = sym (judged_next h t e l z) ∙ ten in
                let n : ℕ = runs_held (after e (tank_at h t)) in
                elim (dec_le n (limit_of h.settings t)) [
                  | no f ↦ absurd (omega (arith, judge_9 h.settings (held h) t n (omega arith)))
                  | yes f ↦
                      elim (dec_le (claims h.settings (held_after (held h) t n) 8) 512) [
                        | yes g ↦ absurd (omega (arith, judge_0 h.settings (held h) t n f g))
                        | no g ↦ record { tank = l; own = z; limit = f; over = omega arith }
                      ]
                ]
          ]
    ]

-- ---- an edit that leaves its tank at or under its share, or with no more runs than it held, is refused by neither 9 nor 10
module _ (h : House) (t : ℕ) (n : ℕ) (le : n ≤ max (held h t) (share_of h.settings t)) where
  claim_less : (u : ℕ) → claim h.settings (held_after (held h) t n) u ≤ claim h.settings (held h) u
  claim_less u =
      at_each (λ k. claim h.settings (held_after (held h) t n) k ≤ claim h.settings (held h) k) t u
      (rw (eq-eqb t t refl) (omega arith))
      (λ ne. rw (ne_eqb u t ne) (omega arith))

  claims_less : claims h.settings (held_after (held h) t n) 8 ≤ claims h.settings (held h) 8
  claims_less = sum_least (claim h.settings (held_after (held h) t n)) (claim h.settings (held h)) 8 (λ u l. claim_less u)

  no_more_judged : Kept h → t < 8 → judgement h.settings (held h) t n ≡ 0
  no_more_judged kept t8 =
      judge_0 h.settings (held h) t n
      (omega (arith, accepted_at h.settings kept.rule t t8, kept.limits t t8))
      (omega (arith, claims_less, kept.sum))

-- its number is what its tank refuses it by
own_number_lem : (h : House) (t : ℕ) (e : Edit) → Kept h → t < 8
    → (own_at h t e ≡ 0 → runs_held (after e (tank_at h t)) ≤ max (held h t) (share_of h.settings t))
    → refusal_at h t e ≡ own_at h t e
own_number_lem h t e kept t8 le =
    elim (ℕ_discrete (own_at h t e) 0) [
      | no ne ↦ own_first h t e t8 ne
      | yes z ↦ judged_next h t e t8 z ∙ no_more_judged h t _ (le z) kept t8 ∙ sym z
    ]

-- ---- 17
-- where it does not come, the tank's own rules alone decide within it
no_17 : (h : House) (t : ℕ) (e : Edit)
    → (refusal e (tank_at h t) ≡ 0 → passes_share (made_by e) (share_of h.settings t) (held h t) (runs_held (after e (tank_at h t))) ≡ false)
    → own_at h t e ≡ refusal e (tank_at h t)
no_17 h t e free =
    elim (ℕ_discrete (refusal e (tank_at h t)) 0) [
      | no ne ↦ ap (λ (b : Bool). cond b (share_number (made_by e) (share_of h.settings t) (held h t) (runs_held (after e (tank_at h t)))) (refusal e (tank_at h t))) (ne_eqb (refusal e (tank_at h t)) 0 ne)
      | yes z ↦
          ap (λ (n : ℕ). first_refusal n (share_number (made_by e) (share_of h.settings t) (held h t) (runs_held (after e (tank_at h t))))) z
          ∙ ap (λ (b : Bool). cond b 17 0) (free z)
          ∙ sym z
    ]

-- not for runs that do not rise, and not at or under the share
within_share : (who : Party) (share before n : ℕ) → n ≤ max before share → passes_share who share before n ≡ false
unfolding passes_share
within_share who share before n le =
    elim (dec_le n before) [
      | yes l ↦ rw (le-ltb before n l) (and_false (is_lab who))
      | no l ↦ rw (lt-ltb before n (omega arith), le-ltb share n (omega arith)) (and_false (is_lab who))
    ]
  where
    and_false : (b : Bool) → (b && false) ≡ false
    and_false true = refl
    and_false false = refl

-- and it comes for every other edit of the lab's
past_share : (share before n : ℕ) → passes_share Lab share before n ≡ false → n ≤ max before share
unfolding passes_share
past_share share before n e =
    elim (dec_le n before) [
      | yes l ↦ omega arith
      | no l ↦
          elim (dec_le n share) [
            | yes k ↦ omega arith
            | no k ↦
                let q : true ≡ false = rw (lt-ltb before n (omega arith), lt-ltb share n (omega arith)) at e in
                absurd (false≢true (sym q))
          ]
    ]

-- the number 17 itself
share_zero : (who : Party) (share before n : ℕ) → share_number who share before n ≡ 0 → passes_share who share before n ≡ false
share_zero who share before n = go (passes_share who share before n)
  where
    go : (b : Bool) → ◌≡◌ {A = ℕ} (cond b 17 0) 0 → b ≡ false
    go true e = absurd (omega arith)
    go false e = refl

-- ---- the lab is never refused for want of runs that others hold: 17 comes before, and else 9 and 10 cannot
pub lab_never_9_or_10 : (h : House) (t : ℕ) (e : Edit) → Kept h → made_by e ≡ Lab → NoWant (refusal_at h t e)
lab_never_9_or_10 h t e kept lab =
    elim (dec_lt t 8) [
      | no l ↦ subst NoWant (sym (refusal_past h t e (omega arith))) (λ z. omega arith, λ z. omega arith)
      | yes l ↦
          subst NoWant
          (sym (own_number_lem h t e kept l
          (λ z.
          let s = second_zero (refusal e (tank_at h t)) _ z in
          let p = share_zero (made_by e) (share_of h.settings t) (held h t) _ s in
          past_share (share_of h.settings t) (held h t) _ (subst (λ (who : Party). passes_share who (share_of h.settings t) (held h t) (runs_held (after e (tank_at h t))) ≡ false) lab p))))
          (own_free h t e)
    ]

-- at or under its share: neither 9 nor 10
pub share_free : (h : House) (t : ℕ) (e : Edit) → Kept h → t < 8 → runs_held (after e (tank_at h t)) ≤ share_of h.settings t
    → (refusal_at h t e ≡ refusal e (tank_at h t)) × NoWant (refusal_at h t e)
share_free h t e kept t8 le =
    let f = own_number_lem h t e kept t8 (λ _. omega arith) in
    let g = no_17 h t e (λ _. within_share (made_by e) (share_of h.settings t) (held h t) _ (omega arith)) in
    (f ∙ g, subst NoWant (sym (f ∙ g)) (rule_free e (tank_at h t)))

-- ---- a deletion: the plant's own numbers are 3 and 4, the lab's is 16, and an accepted one leaves no more runs
delete_most : (a b : ℕ) (v : View) → refusal (deleting Plant a b) v ≤ 4
unfolding refusal barred long own_number clashes full
delete_most a b v =
    cond_by (λ (x : ℕ). x ≤ 4) (empty (deleting Plant a b)) (omega arith) (cond_by (λ (x : ℕ). x ≤ 4) (over (deleting Plant a b) v) (omega arith) (omega arith))

delete_no_more : (who : Party) (a b : ℕ) (v : View) → refusal (deleting who a b) v ≡ 0 → runs_held (after (deleting who a b) v) ≤ runs_held v
unfolding after empty over
delete_no_more who a b v z =
    let f = accepted_fits (deleting who a b) v z in
    let up = leb-false b a f.0 in
    delete_fewer a b v (omega arith) (ltb-false v.length b f.1)

-- so the tank's own rules alone refuse it, and with 1 for no such tank the plant's number is at most 4
pub delete_own : (h : House) (t : ℕ) (who : Party) (a b : ℕ) → Kept h → t < 8 → refusal_at h t (deleting who a b) ≡ refusal (deleting who a b) (tank_at h t)
delete_own h t who a b kept t8 =
    let g =
    no_17 h t (deleting who a b)
    (λ z. within_share who (share_of h.settings t) (held h t) _ (omega (arith, delete_no_more who a b (tank_at h t) z)))
    in
    own_number_lem h t (deleting who a b) kept t8 (λ z. omega (arith, delete_no_more who a b (tank_at h t) (sym g ∙ z))) ∙ g

pub delete_free : (h : House) (t a b : ℕ) → Kept h → refusal_at h t (deleting Plant a b) ≤ 4
delete_free h t a b kept =
    elim (dec_lt t 8) [
      | no l ↦ omega (arith, refusal_past h t (deleting Plant a b) (omega arith))
      | yes l ↦ omega (arith, delete_own h t Plant a b kept l, delete_most a b (tank_at h t))
    ]

-- whoever tries it, it is neither 9 nor 10
pub delete_no_want : (h : House) (t : ℕ) (who : Party) (a b : ℕ) → Kept h → NoWant (refusal_at h t (deleting who a b))
delete_no_want h t who a b kept =
    elim (dec_lt t 8) [
      | no l ↦ subst NoWant (sym (refusal_past h t (deleting who a b) (omega arith))) (λ z. omega arith, λ z. omega arith)
      | yes l ↦ subst NoWant (sym (delete_own h t who a b kept l)) (rule_free (deleting who a b) (tank_at h t))
    ]

-- ---- a call on one tank changes no answer of another, refusal 10 aside
judge_not_10 : (st : List Setting) (f g : ℕ → ℕ) (t n : ℕ) → judgement st f t n ≢ 10 → judgement st g t n ≢ 10 → judgement st f t n ≡ judgement st g t n
judge_not_10 st f g t n p q =
    elim (dec_le n (limit_of st t)) [
      | no l ↦ judge_9 st f t n (omega arith) ∙ sym (judge_9 st g t n (omega arith))
      | yes l ↦ zero_judged f p l ∙ sym (zero_judged g q l)
    ]
  where
    zero_judged : (k : ℕ → ℕ) → judgement st k t n ≢ 10 → n ≤ limit_of st t → judgement st k t n ≡ 0
    zero_judged k ne l =
        elim (dec_le (claims st (held_after k t n) 8) 512) [
          | yes c ↦ judge_0 st k t n l c
          | no c ↦ absurd (ne (judge_10 st k t n l (omega arith)))
        ]

module _ (h : House) (t : ℕ) (e : Edit) (u : ℕ) (ne : u ≢ t) where
  -- the tank's own numbers stay, and what the edit would leave
  pub own_stays : (d : Edit) → own_at (after_at h t e) u d ≡ own_at h u d
  own_stays d =
      ap (λ (st : List Setting). first_refusal (refusal d (tank_at (after_at h t e) u)) (share_number (made_by d) (share_of st u) (held (after_at h t e) u) (runs_held (after d (tank_at (after_at h t e) u))))) (settings_stay h t e)
      ∙ ap (λ (v : View). first_refusal (refusal d v) (share_number (made_by d) (share_of h.settings u) (runs_held v) (runs_held (after d v)))) (others_stay h t e u ne)

  pub number_stays : (d : Edit) → refusal_at (after_at h t e) u d ≢ 10 → refusal_at h u d ≢ 10 → refusal_at (after_at h t e) u d ≡ refusal_at h u d
  number_stays d p q =
      elim (dec_lt u 8) [
        | no l ↦ refusal_past (after_at h t e) u d (omega arith) ∙ sym (refusal_past h u d (omega arith))
        | yes l ↦
            elim (ℕ_discrete (own_at h u d) 0) [
              | no f ↦
                  own_first (after_at h t e) u d l (λ z. f (sym (own_stays d) ∙ z)) ∙ own_stays d ∙ sym (own_first h u d l f)
              | yes z ↦
                  let a = judged_next (after_at h t e) u d l (own_stays d ∙ z) in
                  let b = judged_next h u d l z in
                  let c : judgement (after_at h t e).settings (held (after_at h t e)) u (runs_held (after d (tank_at (after_at h t e) u)))
                  ≡ judgement h.settings (held (after_at h t e)) u (runs_held (after d (tank_at h u))) =
                  rw (settings_stay h t e, others_stay h t e u ne) in
                  a ∙ c
                  ∙ judge_not_10 h.settings (held (after_at h t e)) (held h) u (runs_held (after d (tank_at h u))) (λ j. p (a ∙ c ∙ j)) (λ j. q (b ∙ j))
                  ∙ sym b
            ]
      ]

  pub set_stays : (who : Party) (pos len : ℕ) → refusal_at (after_at h t e) u (inserting who pos len) ≢ 10 → refusal_at h u (inserting who pos len) ≢ 10
      → inserted_set_at (after_at h t e) u who pos len ≡ inserted_set_at h u who pos len
  unfolding inserted_set_at
  set_stays who pos len p q = rw (number_stays (inserting who pos len) p q, others_stay h t e u ne)

  pub first_stays : (id : Identity) (last : ℕ) → refusal_at (after_at h t e) u (removing id last) ≢ 10 → refusal_at h u (removing id last) ≢ 10
      → removed_first_at (after_at h t e) u id last ≡ removed_first_at h u id last
  unfolding removed_first_at
  first_stays id last p q = rw (number_stays (removing id last) p q, others_stay h t e u ne)

-- ---- demand 3: opened with accepted settings, after any calls, refused ones among them
module _ (st : List Setting) (l : length st ≡ 8) (ok : accepted st ≡ true) (cs : List Call) where
  pub reached_kept : Kept (reached st cs)
  unfolding reached
  reached_kept = kept_all (opening st) cs (kept_open st l)

  reached_settings : (reached st cs).settings ≡ st
  unfolding reached
  reached_settings = settings_all (opening st) cs ∙ settings_open st ok

  -- no tank is over its limit
  pub within_limits : (u : ℕ) → u < 8 → held (reached st cs) u ≤ limit_of st u
  within_limits u h = rw reached_settings at (reached_kept.limits u h)

  -- the sum over tanks of max(runs, share) is within 512, and so are the runs
  pub within_512 : claims st (held (reached st cs)) 8 ≤ 512
  within_512 = rw reached_settings at reached_kept.sum

  pub runs_512 : sum_below (held (reached st cs)) 8 ≤ 512
  runs_512 = omega (arith, runs_claims st (held (reached st cs)) 8, within_512)

  -- an edit that leaves its tank at or under its share is refused by neither 9 nor 10
  pub never_9_or_10 : (t : ℕ) (e : Edit) → t < 8 → runs_held (after e (tank_at (reached st cs) t)) ≤ share_of st t → NoWant (refusal_at (reached st cs) t e)
  never_9_or_10 t e t8 le = (share_free (reached st cs) t e reached_kept t8 (rw reached_settings le)).1

  -- a deletion is refused by neither, however many runs the tanks hold
  pub delete_never_9_or_10 : (t : ℕ) (who : Party) (a b : ℕ) → NoWant (refusal_at (reached st cs) t (deleting who a b))
  delete_never_9_or_10 t who a b = delete_no_want (reached st cs) t who a b reached_kept

  -- so is no edit of the lab's
  pub lab_reached : (t : ℕ) (e : Edit) → made_by e ≡ Lab → NoWant (refusal_at (reached st cs) t e)
  lab_reached t e lab = lab_never_9_or_10 (reached st cs) t e reached_kept lab
