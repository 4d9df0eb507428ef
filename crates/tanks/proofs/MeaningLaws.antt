-- What a state means, tank by tank; and what a tank put back does to the meaning, and that the state stays sound.
use Prim.Native.Nat.{ℕ, zero, suc, ◌≤◌, ◌<◌}
use mathlib.Core.Path.{◌≡◌, refl, sym, ap, ◌∙◌, subst}
use mathlib.Core.Bool.{cond}
use mathlib.Core.List.{List}
use native.Mathlib.Omega.{arith}
use lib.Dec.{eqb}
use borrow.Author.Tests.{ne_eqb}
use lib.ListN.{length, get_or, set, length-set, get_or-eq_default}
use lib.Seq.{get_or-set_same, get_or-set_other, ext_get_or}
use Rattle.tank.specs.declared.Tank.{Tank}
use Rattle.tank.specs.Rules.{View, fresh_view, runs_held, first_refusal}
use Rattle.tank.specs.State.{view, Formed}
use Rattle.tank.proofs.Unique.{runs_held_lem}
use Rattle.tanks.specs.declared.Head.{Head}
use Rattle.tanks.specs.declared.Tanks.{Tanks}
use Rattle.tanks.specs.Settings.{claims, held_after, judgement}
use Rattle.tanks.specs.House.{tank_at, held, with_tank}
use Rattle.tanks.specs.Pool.{no_head, runs_in, runs_below, tank_in, tank_of, head_of, table_in, meaning, Sound}
use Rattle.tanks.proofs.Put.{puts}
use Rattle.tanks.proofs.PutLaws.{put_length, put_blank, put_same, put_other}
use Rattle.tanks.proofs.SettingLaws.{claims_cong, runs_claims, second_zero, at_each, held_set, judged_limits, judged_sum}

-- ---- the eight views
pub tank_at_lem : (s : Tanks) (u : ℕ) → u < 8 → tank_at (meaning s) u ≡ view (tank_of s u)
unfolding meaning
tank_at_lem s zero h = refl
tank_at_lem s (suc zero) h = refl
tank_at_lem s (suc (suc zero)) h = refl
tank_at_lem s (suc (suc (suc zero))) h = refl
tank_at_lem s (suc (suc (suc (suc zero)))) h = refl
tank_at_lem s (suc (suc (suc (suc (suc zero))))) h = refl
tank_at_lem s (suc (suc (suc (suc (suc (suc zero)))))) h = refl
tank_at_lem s (suc (suc (suc (suc (suc (suc (suc zero))))))) h = refl
tank_at_lem s (suc (suc (suc (suc (suc (suc (suc (suc u)))))))) h = absurd (omega arith)

pub tanks_length : (s : Tanks) → length (meaning s).tanks ≡ 8
unfolding meaning
tanks_length s = refl

-- and none behind them
pub tank_past : (s : Tanks) (u : ℕ) → 8 ≤ u → tank_at (meaning s) u ≡ fresh_view
tank_past s u h = get_or-eq_default (meaning s).tanks fresh_view (omega (arith, tanks_length s))

-- eight views, tank by tank
pub views_are : (s : Tanks) (vs : List View) → length vs ≡ 8 → ((u : ℕ) → u < 8 → view (tank_of s u) ≡ get_or vs u fresh_view) → (meaning s).tanks ≡ vs
views_are s vs l h =
    ext_get_or fresh_view (meaning s).tanks vs (tanks_length s ∙ sym l)
    (λ u g. let k : u < 8 = omega (arith, tanks_length s) in tank_at_lem s u k ∙ h u k)

-- runs held, by the positions and by the heads
pub held_is : (s : Tanks) → Sound s → (u : ℕ) → u < 8 → held (meaning s) u ≡ runs_in s.heads u
unfolding tank_of tank_in
held_is s ok u h = ap runs_held (tank_at_lem s u h) ∙ runs_held_lem (ok.each u h).laid

pub judged_is : (s : Tanks) → Sound s → (t n : ℕ) → judgement s.settings (held (meaning s)) t n ≡ judgement s.settings (runs_in s.heads) t n
unfolding judgement
judged_is s ok t n =
    rw
    (claims_cong s.settings (held_after (held (meaning s)) t n) (held_after (runs_in s.heads) t n) 8
    (λ u h. ap (λ (y : ℕ). cond (eqb u t) n y) (held_is s ok u h)))

-- ---- a tank put back
module _ (s : Tanks) (t : ℕ) (x : Tank) (ok : Sound s) (t8 : t < 8) (formed : Formed x) (judged : judgement s.settings (runs_in s.heads) t x.runs ≡ 0) where
  next : List Head
  next = set s.heads t (head_of x)

  runs_next : (u : ℕ) → runs_in next u ≡ held_after (runs_in s.heads) t x.runs u
  unfolding next
  runs_next u = held_set (λ (h : Head). h.runs) no_head (head_of x) s.heads t (omega (arith, ok.heads_8)) u

  claims_next : claims s.settings (runs_in next) 8 ≤ 512
  claims_next = judged_sum s.settings (runs_in s.heads) (runs_in next) t x.runs runs_next judged

  pub room : runs_below (set s.heads t (head_of x)) 8 ≤ 512
  unfolding next
  room = omega (arith, claims_next, runs_claims s.settings (runs_in next) 8)

  pub put_sound : Sound (puts s t x)
  unfolding puts next
  put_sound = record {
    settings_8 = ok.settings_8;
    heads_8 = length-set s.heads t (head_of x) ∙ ok.heads_8;
    tables_8 = length-set s.tables t (table_in x) ∙ ok.tables_8;
    pool_512 = put_length s t x ok t8 formed room;
    rule = ok.rule;
    limits = judged_limits s.settings (runs_in s.heads) (runs_in next) t x.runs runs_next judged ok.limits;
    sum = claims_next;
    each = λ u h.
        at_each (λ v. Formed (tank_of (puts s t x) v)) t u
        (subst Formed (sym (put_same s t x ok t8 formed room)) formed)
        (λ ne. subst Formed (sym (put_other s t x ok t8 formed room u ne h)) (ok.each u h));
    spare = put_blank s t x ok t8 formed room;
  }

  put_views : (meaning (puts s t x)).tanks ≡ set (meaning s).tanks t (view x)
  put_views =
      views_are (puts s t x) (set (meaning s).tanks t (view x)) (length-set (meaning s).tanks t (view x) ∙ tanks_length s)
      (λ u h.
      at_each (λ v. view (tank_of (puts s t x) v) ≡ get_or (set (meaning s).tanks t (view x)) v fresh_view) t u
      (ap view (put_same s t x ok t8 formed room) ∙ sym (get_or-set_same (meaning s).tanks t (view x) fresh_view (omega (arith, tanks_length s))))
      (λ ne.
      ap view (put_other s t x ok t8 formed room u ne h)
      ∙ sym (tank_at_lem s u h)
      ∙ sym (get_or-set_other (meaning s).tanks t u (view x) fresh_view ne)))

  pub put_means : meaning (puts s t x) ≡ with_tank (meaning s) t (view x)
  unfolding meaning puts
  put_means = λ i. record { settings = s.settings; tanks = put_views i }

-- ---- the tail of an edit
-- tank t has become x, unless its own call was refused by `number` or the judgement refuses it
pub record Tail (s : Tanks) (t number : ℕ) (x : Tank) (verdict : ℕ) (next : Tanks) : Type 0 where
  pub verdict_is : verdict ≡ first_refusal number (judgement s.settings (runs_in s.heads) t x.runs)
  pub is : meaning next ≡ cond (eqb verdict 0) (with_tank (meaning s) t (view x)) (meaning s)
  pub sound : Sound next

pub tail_refused : (s : Tanks) (t number : ℕ) (x : Tank) (v : ℕ) → Sound s
    → v ≡ first_refusal number (judgement s.settings (runs_in s.heads) t x.runs) → 0 < v → Tail s t number x v s
tail_refused s t number x v ok e h = record { verdict_is = e; is = rw (ne_eqb v 0 (λ z. omega arith)); sound = ok }

pub tail_done : (s : Tanks) (t number : ℕ) (x : Tank) → Sound s → t < 8 → Formed x
    → first_refusal number (judgement s.settings (runs_in s.heads) t x.runs) ≡ 0 → Tail s t number x 0 (puts s t x)
tail_done s t number x ok t8 formed z =
    let j = second_zero number (judgement s.settings (runs_in s.heads) t x.runs) z in
    record { verdict_is = sym z; is = put_means s t x ok t8 formed j; sound = put_sound s t x ok t8 formed j }
