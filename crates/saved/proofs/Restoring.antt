-- Tanks are filled one after another: those that were read, and fresh ones to come.
use mathlib.Core.Path.{◌≡◌, refl, sym, ap, ap₂, ◌∙◌}
use mathlib.Core.Bool.{Bool, true, false, cond}
use mathlib.Core.List.{List, [], ◌∷◌, ◌++◌, map}
use Prim.Native.Nat.{ℕ, zero, suc, ◌+◌, ◌-◌, ◌*◌, ◌≤◌, ◌<◌, max}
use native.Mathlib.Omega.{arith}
use native.Mathlib.Decide.{ℕ_discrete, dec_lt}
use mathlib.Core.Logic.{◌≢◌}
use lib.Dec.{leb, ltb}
use lib.ListN.{length, get_or, set, drop, replicate, length-append}
use borrow.Author.Tests.{eq-eqb, ne_eqb, le-leb, lt-leb, lt-ltb, le-ltb}
use Rattle.text_lines.specs.Lines.{Got, bad, then, provided}
use Rattle.runs.proofs.SumLaws.{sum_same}
use Rattle.runs.proofs.Laws.{length_runs}
use Rattle.tank.specs.Rules.{View, fresh_view, runs_held}
use Rattle.tank.specs.State.{view}
use Rattle.tank.proofs.Unique.{runs_held_lem}
use Rattle.tanks.specs.declared.Setting.{Setting}
use Rattle.tanks.specs.declared.Tanks.{Tanks}
use Rattle.tanks.specs.Settings.{share_of, limit_of, claims, held_after, judgement}
use Rattle.tanks.specs.House.{House, fresh_house, held, with_tank}
use Rattle.tanks.specs.Pool.{tank_of, meaning, Sound}
use Rattle.tanks.specs.Promises.{PutAt}
use Rattle.tanks.proofs.SettingLaws as rule
use Rattle.saved.specs.declared.TankLine.{TankLine}
use Rattle.saved.specs.Saved.{Saved}
use Rattle.saved.specs.Saying.{claimed, tank_lines, tanks_lines, view_in}
use Rattle.saved.specs.Reads.{ReadsTank, kept_in, ReadsTanks}

abbrev pub counts : List Saved → List ℕ
counts ss = map (λ (s : Saved). length s.runs) ss

-- ---- lists
set_next : (xs : List View) (k : ℕ) (f v : View) → set (xs ++ replicate (suc k) f) (length xs) v ≡ (xs ++ v ∷ []) ++ replicate k f
set_next [] k f v = refl
set_next (x ∷ xs) k f v = ap (λ (l : List View). x ∷ l) (set_next xs k f v)

map_next : (ss : List Saved) (s : Saved) → map view_in (ss ++ s ∷ []) ≡ map view_in ss ++ view_in s ∷ []
map_next [] s = refl
map_next (x ∷ xs) s = ap (λ (l : List View). view_in x ∷ l) (map_next xs s)

map_length : (ss : List Saved) → length (map view_in ss) ≡ length ss
map_length [] = refl
map_length (x ∷ xs) = ap suc (map_length xs)

counts_next : (ss : List Saved) (s : Saved) → counts (ss ++ s ∷ []) ≡ counts ss ++ length s.runs ∷ []
counts_next [] s = refl
counts_next (x ∷ xs) s = ap (λ (l : List ℕ). length x.runs ∷ l) (counts_next xs s)

-- behind the tanks that were read each is fresh
fresh_behind : (xs : List View) (k u : ℕ) → length xs ≤ u → get_or (xs ++ replicate k fresh_view) u fresh_view ≡ fresh_view
fresh_behind [] zero u h = refl
fresh_behind [] (suc k) zero h = refl
fresh_behind [] (suc k) (suc u) h = fresh_behind [] k u (omega arith)
fresh_behind (x ∷ xs) k zero h = absurd (omega arith)
fresh_behind (x ∷ xs) k (suc u) h = fresh_behind xs k u (omega arith)

-- each tank that was read holds the runs that were counted
unfoldable pub AllHeld : List Saved → Type 0
AllHeld [] = Unit {0}
AllHeld (s ∷ ss) = (runs_held (view_in s) ≡ length s.runs) × AllHeld ss

held_next : (ss : List Saved) (s : Saved) → AllHeld ss → runs_held (view_in s) ≡ length s.runs → AllHeld (ss ++ s ∷ [])
unfolding AllHeld
held_next [] s a h = (h, tt)
held_next (x ∷ xs) s a h = (a.0, held_next xs s a.1 h)

held_at : (ss : List Saved) (more : List View) (last : List ℕ) (u : ℕ) → AllHeld ss → u < length ss → runs_held (get_or (map view_in ss ++ more) u fresh_view) ≡ get_or (counts ss ++ last) u 0
unfolding AllHeld
held_at [] more last u a h = absurd (omega arith)
held_at (x ∷ xs) more last zero a h = a.0
held_at (x ∷ xs) more last (suc u) a h = held_at xs more last u a.1 (omega arith)

counts_length : (ss : List Saved) → length (counts ss) ≡ length ss
counts_length [] = refl
counts_length (x ∷ xs) = ap suc (counts_length xs)

at_next : (xs : List ℕ) (n : ℕ) → get_or (xs ++ n ∷ []) (length xs) 0 ≡ n
at_next [] n = refl
at_next (x ∷ xs) n = at_next xs n

past_next : (xs : List ℕ) (n u : ℕ) → length xs < u → get_or (xs ++ n ∷ []) u 0 ≡ 0
past_next [] n zero h = absurd (omega arith)
past_next [] n (suc u) h = refl
past_next (x ∷ xs) n zero h = absurd (omega arith)
past_next (x ∷ xs) n (suc u) h = past_next xs n u (omega arith)

-- ---- refusal 10's sum, with the tanks to come fresh: each claims its share, as it is at least 1
module _ (st : List Setting) (shares : (u : ℕ) → u < 8 → 1 ≤ share_of st u) (ss : List Saved) (a : AllHeld ss) (h : House) (e : h.tanks ≡ map view_in ss ++ replicate (8 - length ss) fresh_view) (n : ℕ) (fresh : runs_held fresh_view ≡ 1) where
  claim_at : (u : ℕ) → u < 8 → max (held_after (held h) (length ss) n u) (share_of st u) ≡ max (get_or (counts ss ++ n ∷ []) u 0) (share_of st u)
  claim_at u l = elim (ℕ_discrete u (length ss)) [ yes q ↦ rw (eq-eqb u (length ss) q) (ap (λ (x : ℕ). max x (share_of st u)) (sym (ap (λ (i : ℕ). get_or (counts ss ++ n ∷ []) i 0) (q ∙ sym (counts_length ss)) ∙ at_next (counts ss) n))) | no q ↦ rw (ne_eqb u (length ss) q) (other q) ] where
    other : u ≢ length ss → max (held h u) (share_of st u) ≡ max (get_or (counts ss ++ n ∷ []) u 0) (share_of st u)
    other q = elim (dec_lt u (length ss)) [ yes k ↦ ap (λ (x : ℕ). max x (share_of st u)) (ap (λ (l : List View). runs_held (get_or l u fresh_view)) e ∙ held_at ss (replicate (8 - length ss) fresh_view) (n ∷ []) u a k) | no k ↦ (let one : held h u ≡ 1 = ap (λ (l : List View). runs_held (get_or l u fresh_view)) e ∙ ap runs_held (fresh_behind (map view_in ss) (8 - length ss) u (omega (arith, map_length ss))) ∙ fresh in let none : get_or (counts ss ++ n ∷ []) u 0 ≡ 0 = past_next (counts ss) n u (omega (arith, counts_length ss)) in rw one (rw none (omega (arith, shares u l)))) ]

  pub claims_are : claims st (held_after (held h) (length ss) n) 8 ≡ claimed st (counts ss ++ n ∷ [])
  claims_are = sum_same (λ u. max (held_after (held h) (length ss) n u) (share_of st u)) (λ u. max (get_or (counts ss ++ n ∷ []) u 0) (share_of st u)) 8 claim_at

-- ---- the loop: t tanks are read, and the rest is to come
pub record Filling (v : ℕ) (st : List Setting) (text : List ℕ) (from : ℕ) (u : Tanks) (at lines t : ℕ) : Type 0 where
  pub few : t ≤ 8
  pub sound : Sound u
  pub inside : at ≤ length text
  pub lines_most : lines ≤ 17 + 1541 * t
  pub saved : List Saved
  pub count : length saved ≡ t
  pub all_held : AllHeld saved
  pub one : runs_held fresh_view ≡ 1
  pub means : meaning u ≡ record { settings = st; tanks = map view_in saved ++ replicate (8 - length saved) fresh_view }
  pub is : tanks_lines v st [] 8 17 (drop from text) ≡ tanks_lines v st saved (8 - length saved) lines (drop at text)

-- a fresh tank holds one run
module _ (s : Tanks) (ok : Sound s) (e : meaning s ≡ fresh_house s.settings) where
  first_fresh : view (tank_of s 0) ≡ fresh_view
  unfolding meaning
  first_fresh = ap (λ (h : House). get_or h.tanks 0 fresh_view) e

  untouched : (tank_of s 0).touched ≡ false
  unfolding view fresh_view
  untouched = ap (λ (v : View). v.touched) first_fresh

  pub fresh_one : runs_held fresh_view ≡ 1
  fresh_one =
      let f = ok.each 0 (omega arith) in
      sym (ap runs_held first_fresh) ∙ runs_held_lem f.laid ∙ sym (length_runs (tank_of s 0).lens (tank_of s 0).sets (tank_of s 0).runs) ∙ ap length (f.fresh untouched)

  pub filling_none : (v : ℕ) (text : List ℕ) (from : ℕ) → from ≤ length text → Filling v s.settings text from s from 17 0
  unfolding AllHeld
  filling_none v text from h = record {
    few = omega arith;
    sound = ok;
    inside = h;
    lines_most = omega arith;
    saved = [];
    count = refl;
    all_held = tt;
    one = fresh_one;
    means = e;
    is = refl;
  }

pub settings_of_lem : (s : Tanks) (h : House) → meaning s ≡ h → s.settings ≡ h.settings
unfolding meaning
settings_of_lem s h e = ap (λ (x : House). x.settings) e

-- 10 by the sum alone
judged : (st : List Setting) (f : ℕ → ℕ) (t n c number : ℕ) → n ≤ limit_of st t → claims st (held_after f t n) 8 ≡ c → number ≡ judgement st f t n
    → (0 < number → leb c 512 ≡ false) × (number ≤ 0 → leb c 512 ≡ true)
unfolding judgement
judged st f t n c number h e q =
    let k : number ≡ cond (ltb 512 c) 10 0 = q ∙ rw (le-ltb (limit_of st t) n h) (ap (λ (x : ℕ). cond (ltb 512 x) 10 0) e) in (
      (λ z. elim (dec_lt 512 c) [ yes l ↦ lt-leb c 512 l | no l ↦ (let y : number ≡ 0 = k ∙ ap (λ (b : Bool). cond b 10 0) (le-ltb 512 c (omega arith)) in absurd (omega arith)) ]),
      (λ z. elim (dec_lt 512 c) [ yes l ↦ (let y : number ≡ 10 = k ∙ ap (λ (b : Bool). cond b 10 0) (lt-ltb 512 c l) in absurd (omega arith)) | no l ↦ le-leb c 512 (omega arith) ]),
    )

module _ (v : ℕ) (st : List Setting) (text : List ℕ) (from : ℕ) (u : Tanks) (at lines t : ℕ) (f : Filling v st text from u at lines t) (h : t < 8) (lim : ℕ) (el : lim ≡ limit_of u.settings t) (r : TankLine) (rr : ReadsTank v lim text at t lines r) where
  own : u.settings ≡ st
  own = settings_of_lem u _ f.means

  limit_is : limit_of st t ≡ lim
  limit_is = sym (el ∙ ap (λ (x : List Setting). limit_of x t) own)

  next_tank : tanks_lines v st [] 8 17 (drop from text) ≡ then (tank_lines v st (counts f.saved) t lines (drop at text)) λ s n x. tanks_lines v st (f.saved ++ s ∷ []) (8 - suc t) n x
  unfolding tanks_lines
  next_tank =
      let k : 8 - length f.saved ≡ suc (8 - suc t) = omega (arith, f.count) in
      f.is
      ∙ ap (λ (i : ℕ). tanks_lines v st f.saved i lines (drop at text)) k
      ∙ ap (λ (i : ℕ). then (tank_lines v st (counts f.saved) i lines (drop at text)) λ s n x. tanks_lines v st (f.saved ++ s ∷ []) (8 - suc t) n x) f.count

  wrong_at : (line : ℕ) → 1 ≤ line → (next : Tanks) → Sound next → tanks_lines v st [] 8 17 (drop from text) ≡ bad line
      → ReadsTanks v st text from (record { line = line; at = 0; lines = 0; tanks = next })
  wrong_at line one next ok e = record { good = λ z. absurd (omega arith); wrong = λ z. e; sound = ok; inside = omega arith; lines_most = omega arith }

  pub tank_wrong : 0 < r.line → ReadsTanks v st text from (record { line = r.line; at = 0; lines = 0; tanks = u })
  tank_wrong z = wrong_at r.line (omega arith) u f.sound (next_tank ∙ rw (rr.wrong z st (counts f.saved) limit_is))

  module _ (z : r.line ≤ 0) (number : ℕ) (next : Tanks) (p : PutAt u t r.tank number next) where
    good : r.line ≡ 0
    good = omega arith

    runs_are_lem : runs_held (view r.tank) ≡ r.tank.runs
    runs_are_lem = runs_held_lem (rr.formed good).laid

    after : tanks_lines v st [] 8 17 (drop from text) ≡ then (provided (leb (claimed st (counts f.saved ++ r.tank.runs ∷ [])) 512) (kept_in r.tank) r.lines (drop r.at text)) λ s n x. tanks_lines v st (f.saved ++ s ∷ []) (8 - suc t) n x
    after = next_tank ∙ ap (λ (g : Got Saved). then g λ s n x. tanks_lines v st (f.saved ++ s ∷ []) (8 - suc t) n x) (rr.good good st (counts f.saved) limit_is)

    sum_is : claims st (held_after (held (meaning u)) t r.tank.runs) 8 ≡ claimed st (counts f.saved ++ r.tank.runs ∷ [])
    sum_is =
        let c = claims_are st (λ v l. omega (arith, (rule.accepted_at st (rw own at f.sound.rule) v l).low)) f.saved f.all_held (meaning u) (ap (λ (x : House). x.tanks) f.means) r.tank.runs f.one in
        rw f.count at c

    verdict : (0 < number → leb (claimed st (counts f.saved ++ r.tank.runs ∷ [])) 512 ≡ false) × (number ≤ 0 → leb (claimed st (counts f.saved ++ r.tank.runs ∷ [])) 512 ≡ true)
    verdict = judged st (held (meaning u)) t r.tank.runs _ number (omega (arith, rr.few good, limit_is)) sum_is
        (p.number_is ∙ ap₂ (λ (x : List Setting) (n : ℕ). judgement x (held (meaning u)) t n) own runs_are_lem)

    pub sum_wrong : 0 < number → ReadsTanks v st text from (record { line = r.lines; at = 0; lines = 0; tanks = next })
    sum_wrong o = wrong_at r.lines (rr.lines_least good) next p.sound (after ∙ rw (verdict.0 o))

    kept_view : view_in (kept_in r.tank) ≡ view r.tank
    unfolding view
    kept_view = refl

    put_is : number ≤ 0 → meaning next ≡ record { settings = st; tanks = map view_in (f.saved ++ kept_in r.tank ∷ []) ++ replicate (8 - length (f.saved ++ kept_in r.tank ∷ [])) fresh_view }
    put_is o =
        let zero_number : number ≡ 0 = omega arith in
        let k : 8 - length f.saved ≡ suc (8 - suc t) = omega (arith, f.count) in
        let l : 8 - suc t ≡ 8 - length (f.saved ++ kept_in r.tank ∷ []) = omega (arith, f.count, length-append f.saved (kept_in r.tank ∷ [])) in
        let m : length (map view_in f.saved) ≡ t = map_length f.saved ∙ f.count in
        let w : set (map view_in f.saved ++ replicate (8 - length f.saved) fresh_view) t (view r.tank) ≡ map view_in (f.saved ++ kept_in r.tank ∷ []) ++ replicate (8 - length (f.saved ++ kept_in r.tank ∷ [])) fresh_view =
        ap₂ (λ (i j : ℕ). set (map view_in f.saved ++ replicate i fresh_view) j (view r.tank)) k (sym m)
        ∙ set_next (map view_in f.saved) (8 - suc t) fresh_view (view r.tank)
        ∙ ap₂ (λ (x : List View) (i : ℕ). x ++ replicate i fresh_view) (ap (λ (v : View). map view_in f.saved ++ v ∷ []) (sym kept_view) ∙ sym (map_next f.saved (kept_in r.tank))) l in
        p.is ∙ rw zero_number (ap (λ (x : House). with_tank x t (view r.tank)) f.means ∙ ap (λ (x : List View). record { settings = st; tanks = x }) w)

    pub tank_more : number ≤ 0 → Filling v st text from next r.at r.lines (t + 1)
    tank_more o =
        let c : length (f.saved ++ kept_in r.tank ∷ []) ≡ t + 1 = omega (arith, f.count, length-append f.saved (kept_in r.tank ∷ [])) in
        let k : 8 - suc t ≡ 8 - length (f.saved ++ kept_in r.tank ∷ []) = omega arith in
        record {
          few = omega arith;
          sound = p.sound;
          inside = rr.inside;
          lines_most = omega (arith, rr.lines_most, f.lines_most);
          saved = f.saved ++ kept_in r.tank ∷ [];
          count = c;
          all_held = held_next f.saved (kept_in r.tank) f.all_held (ap runs_held kept_view ∙ runs_are_lem ∙ sym (length_runs r.tank.lens r.tank.sets r.tank.runs));
          one = f.one;
          means = put_is o;
          is = after ∙ rw (verdict.1 o) (ap (λ (i : ℕ). tanks_lines v st (f.saved ++ kept_in r.tank ∷ []) i r.lines (drop r.at text)) k);
        }

append_none : (xs : List View) → xs ++ [] ≡ xs
append_none [] = refl
append_none (x ∷ xs) = ap (λ (l : List View). x ∷ l) (append_none xs)

pub filling_done : (v : ℕ) (st : List Setting) (text : List ℕ) (from : ℕ) (u : Tanks) (at lines t : ℕ) → Filling v st text from u at lines t → 8 ≤ t
    → ReadsTanks v st text from (record { line = 0; at = at; lines = lines; tanks = u })
unfolding tanks_lines
filling_done v st text from u at lines t f h =
    let k : 8 - length f.saved ≡ 0 = omega (arith, f.count) in
    record {
      good = λ e. record {
        saved = f.saved;
        is = f.is ∙ ap (λ (i : ℕ). tanks_lines v st f.saved i lines (drop at text)) k;
        means = f.means ∙ ap (λ (x : List View). record { settings = st; tanks = x }) (ap (λ (i : ℕ). map view_in f.saved ++ replicate i fresh_view) k ∙ append_none (map view_in f.saved));
      };
      wrong = λ e. absurd (omega arith);
      sound = f.sound;
      inside = f.inside;
      lines_most = omega (arith, f.lines_most, f.few);
    }
