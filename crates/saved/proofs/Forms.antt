-- Houses in form: what an opening makes, what an accepted text says and what a sound state means, and what edits make of them. A tank's length over edits
-- from such a house: what it was where the tank is touched there, T where it is not.
use Prim.Native.Nat.{ℕ, zero, suc, ◌+◌, ◌-◌, ◌^◌, ◌≤◌, ◌<◌, max}
use mathlib.Core.Path.{◌≡◌, refl, sym, ap, ◌∙◌, subst}
use mathlib.Core.Bool.{Bool, true, false, cond, false≢true}
use mathlib.Core.List.{List, [], ◌∷◌, ◌++◌, map, foldl-append, append_assoc, append-nil}
use native.Mathlib.Omega.{arith}
use native.Mathlib.Nat.{pow-suc}
use lib.Pow.{pow_pos}
use lib.ListN.{length, get_or, length-append, length-map, get_or-replicate}
use borrow.Author.Tests.{le-leb}
use Rattle.text_lines.specs.Lines.{got}
use Rattle.styles.specs.declared.Mark.{Mark}
use Rattle.styles.specs.Bits.{pick}
use Rattle.runs.specs.Positions.{stretch_count}
use Rattle.runs.specs.Runs.{total, set_at}
use Rattle.runs.specs.Gather.{gather}
use Rattle.runs.proofs.SumLaws.{sum_same}
use Rattle.tank.specs.declared.Tank.{Tank}
use Rattle.tank.specs.Rules.{View, fresh_length, fresh_view, alike, runs_held, Edit, annotating, inserting, deleting, removing, after, after_annotate}
use Rattle.tank.specs.Lengths.{gained, lost, annotates}
use Rattle.tank.specs.State.{view, Formed}
use Rattle.tank.proofs.ViewLaws.{view_ext}
use Rattle.tank.proofs.Counted.{counted}
use Rattle.tank.proofs.Unique.{table_length}
use Rattle.tank.proofs.Sequences as own
use Rattle.tanks.specs.declared.Setting.{Setting}
use Rattle.tanks.specs.declared.Tanks.{Tanks}
use Rattle.tanks.specs.Settings.{share_of, limit_of, shares, accepted, claim}
use Rattle.tanks.specs.House.{House, tank_at, held, fresh_house, smallest_settings, opening, after_at, Call, after_all, sum_on, FirstOn, house_then}
use Rattle.tanks.specs.Pool.{meaning, Sound, freshly}
use Rattle.tanks.proofs.SettingLaws.{accepted_at, accepted_sum}
use Rattle.tanks.proofs.MeaningLaws.{tank_at_lem}
use Rattle.tanks.proofs.CallLaws.{after_done}
use Rattle.tanks.proofs.OpeningLaws.{opens, ones_ok}
use Rattle.tanks.proofs.Theorems.{Kept, kept_sound, kept_all, with_same, settings_stay}
use Rattle.tanks.proofs.Lengths.{calls_on, own_calls, own_sum}
use Rattle.settings_text.specs.Text.{pairs_text, pairs_lines}
use Rattle.settings_text.proofs.Exact.{pairs_back}
use Rattle.saved.specs.Saved.{Saved}
use Rattle.saved.specs.Saying.{claimed, Said, saying, view_in, house_in}
use Rattle.saved.proofs.Meant.{stored_in}
use Rattle.saved.proofs.TankLines.{Keeps, AllKeep}
use Rattle.saved.proofs.Whole.{said_only}
use Rattle.saved.proofs.Beginning.{accepted_is}
use Rattle.saved.proofs.Restoring.{counts, fresh_one}

-- ---- what every house is that an opening or an accepted restore makes, and that calls make of it: demand 3's bounds are kept, and an untouched tank
-- is a fresh one
pub record InForm (h : House) : Type 0 where
  pub kept : Kept h
  pub fresh : (t : ℕ) → t < 8 → (tank_at h t).touched ≡ false → tank_at h t ≡ fresh_view

no_marks : (ms : List Mark) → length ms ≡ 0 → ms ≡ []
no_marks [] e = refl
no_marks (m ∷ ms) e = absurd (omega arith)

-- an untouched tank as it is written down
fresh_view_lem : (s : Saved) → s.touched ≡ false → s.length ≡ fresh_length → length s.marks ≡ 0 → view_in s ≡ fresh_view
unfolding fresh_view pick
fresh_view_lem s t l m = view_ext (view_in s) fresh_view l t (λ p. ap (λ (ms : List Mark). pick ms (set_at s.runs p)) (no_marks s.marks m))

no_bits : (k : ℕ) → 0 ≡ 2 ^ k - 1 → k ≡ 0
no_bits zero e = refl
no_bits (suc k) e = absurd (omega (arith, pow-suc 2 k, pow_pos k))

-- and as it is stored
formed_fresh : {t : Tank} → Formed t → t.touched ≡ false → view t ≡ fresh_view
unfolding view total gather
formed_fresh {t} f e =
    let r = f.fresh e in
    fresh_view_lem (stored_in t) e (f.laid.sum ∙ ap total r ∙ omega arith) (table_length f.laid ∙ no_bits t.marks (sym (ap gather r) ∙ f.whole))

-- ---- what a sound state means is in form
pub form_sound : (s : Tanks) → Sound s → InForm (meaning s)
unfolding view
form_sound s ok = record {
  kept = kept_sound s ok;
  fresh = λ t l e. tank_at_lem s t l ∙ formed_fresh (ok.each t l) (sym (ap (λ (v : View). v.touched) (tank_at_lem s t l)) ∙ e);
}

-- ---- so is what an opening makes, whatever the settings
one_run : runs_held fresh_view ≡ 1
unfolding opening freshly
one_run =
    let o = opens smallest_settings refl ones_ok in
    fresh_one (freshly smallest_settings) o.sound (o.is ∙ ap (λ (b : Bool). fresh_house (cond b smallest_settings smallest_settings)) ones_ok)

module _ (st : List Setting) where
  held_fresh : (u : ℕ) → u < 8 → held (fresh_house st) u ≡ 1
  held_fresh u l = ap runs_held (get_or-replicate 8 u fresh_view fresh_view l) ∙ one_run

  form_fresh : accepted st ≡ true → InForm (fresh_house st)
  form_fresh ok = record {
    kept = record {
      rule = ok;
      eight = refl;
      limits = λ u l. omega (arith, held_fresh u l, accepted_at st ok u l);
      sum = omega (arith, sum_same (claim st (held (fresh_house st))) (share_of st) 8 (λ u l. omega (arith, held_fresh u l, accepted_at st ok u l)), accepted_sum st ok);
    };
    fresh = λ t l e. get_or-replicate 8 t fresh_view fresh_view l;
  }

pub form_opening : (st : List Setting) → InForm (opening st)
unfolding opening
form_opening st = go (accepted st) refl
  where
    go : (b : Bool) → accepted st ≡ b → InForm (fresh_house (cond b st smallest_settings))
    go true e = form_fresh st e
    go false e = form_fresh smallest_settings ones_ok

-- ---- and what an accepted text says
held_said : {v : ℕ} {st : List Setting} {before : List ℕ} {i : ℕ} {s : Saved} → Keeps v st before i s → runs_held (view_in s) ≡ length s.runs
held_said {s = s} k =
    ap (stretch_count (alike (view_in s).at)) (sym k.sum)
    ∙ counted s.marks s.runs k.sorted (omega (arith, k.whole, pow_pos (length s.marks))) k.canon

-- its tanks one by one
each_said : {v : ℕ} {st : List Setting} (P : ℕ → View → Type 0) → ((held : List ℕ) (i : ℕ) (s : Saved) → Keeps v st held i s → P i (view_in s)) → (before ss : List Saved) → AllKeep v st before ss
    → (t : ℕ) → t < length ss → P (length before + t) (get_or (map view_in ss) t fresh_view)
unfolding AllKeep
each_said P each before [] k t h = absurd (omega arith)
each_said P each before (s ∷ ss) k zero h =
    let e : length before ≡ length before + 0 = omega arith in
    subst (λ (i : ℕ). P i (view_in s)) e (each _ (length before) s k.0)
each_said P each before (s ∷ ss) k (suc t) h =
    let e : length (before ++ s ∷ []) + t ≡ length before + suc t = omega (arith, length-append before (s ∷ [])) in
    subst (λ (i : ℕ). P i (get_or (map view_in ss) t fresh_view)) e (each_said P each (before ++ s ∷ []) ss k.1 t (omega arith))

said_at : {v : ℕ} {st : List Setting} (P : ℕ → View → Type 0) → ((held : List ℕ) (i : ℕ) (s : Saved) → Keeps v st held i s → P i (view_in s)) → (ss : List Saved) → AllKeep v st [] ss
    → (t : ℕ) → t < length ss → P t (get_or (map view_in ss) t fresh_view)
said_at P each ss k t h =
    let e : 0 + t ≡ t = omega arith in
    subst (λ (i : ℕ). P i (get_or (map view_in ss) t fresh_view)) e (each_said P each [] ss k t h)

-- the runs that they hold are those that were counted
counts_said : (v : ℕ) (st : List Setting) (before ss : List Saved) → AllKeep v st before ss → (u : ℕ) → u < length ss → runs_held (get_or (map view_in ss) u fresh_view) ≡ get_or (counts ss) u 0
unfolding AllKeep
counts_said v st before [] k u h = absurd (omega arith)
counts_said v st before (s ∷ ss) k zero h = held_said k.0
counts_said v st before (s ∷ ss) k (suc u) h = counts_said v st (before ++ s ∷ []) ss k.1 u (omega arith)

counts_append : (xs ys : List Saved) → counts (xs ++ ys) ≡ counts xs ++ counts ys
counts_append [] ys = refl
counts_append (x ∷ xs) ys = ap (λ (l : List ℕ). length x.runs ∷ l) (counts_append xs ys)

-- refusal 10's sum with all of them
claimed_said : (v : ℕ) (st : List Setting) (before ss : List Saved) → AllKeep v st before ss → claimed st (counts before) ≤ 512 → claimed st (counts (before ++ ss)) ≤ 512
unfolding AllKeep
claimed_said v st before [] k h = subst (λ (l : List Saved). claimed st (counts l) ≤ 512) (sym (append-nil before)) h
claimed_said v st before (s ∷ ss) k h =
    subst (λ (l : List Saved). claimed st (counts l) ≤ 512) (append_assoc before (s ∷ []) ss)
    (claimed_said v st (before ++ s ∷ []) ss k.1 (subst (λ (l : List ℕ). claimed st l ≤ 512) (sym (counts_append before (s ∷ []))) k.0.pool))

pub form_said : (last : ℕ) (text : List ℕ) (s : Said) (m : ℕ) (rest : List ℕ) → saying last text ≡ got s m rest → InForm (house_in s)
form_said last text s m rest e =
    let a = said_only last text s m rest e in
    let st = s.settings in
    let ok : accepted st ≡ true = sym (accepted_is 1 (pairs_text 0 st ++ []) st _ [] (ap (λ (k : ℕ). pairs_lines true 0 k 1 (pairs_text 0 st ++ [])) (sym a.pairs) ∙ pairs_back true st 0 1 [] a.range a.ordered)) ∙ le-leb (shares st 8) 512 a.shared in
    let none : claimed st (counts []) ≤ 512 = omega (arith, a.shared, sum_same (λ u. max (get_or {A = ℕ} [] u 0) (share_of st u)) (share_of st) 8 (λ u l. omega arith)) in
    let sum = claimed_said s.version st [] s.tanks a.keep none in
    record {
      kept = record {
        rule = ok;
        eight = length-map s.tanks view_in ∙ a.eight;
        limits = λ u l. said_at (λ (i : ℕ) (w : View). 1 ≤ limit_of st i → runs_held w ≤ limit_of st i) (λ held i x k low. by_touch x i k low x.touched refl) s.tanks a.keep u (omega (arith, a.eight)) (omega (arith, accepted_at st ok u l));
        sum = omega (arith, sum, sum_same (claim st (held (house_in s))) (λ u. max (get_or (counts s.tanks) u 0) (share_of st u)) 8 (λ u l. ap (λ (n : ℕ). max n (share_of st u)) (counts_said s.version st [] s.tanks a.keep u (omega (arith, a.eight)))));
      };
      fresh = λ t l. said_at (λ (i : ℕ) (w : View). w.touched ≡ false → w ≡ fresh_view) (λ held i x k off. let f = k.fresh off in fresh_view_lem x off f.0 f.1) s.tanks a.keep t (omega (arith, a.eight));
    }
  where
    by_touch : (x : Saved) (i : ℕ) {held : List ℕ} → Keeps s.version s.settings held i x → 1 ≤ limit_of s.settings i → (b : Bool) → x.touched ≡ b → runs_held (view_in x) ≤ limit_of s.settings i
    by_touch x i k low true q = omega (arith, held_said k, k.limit q)
    by_touch x i k low false q = omega (arith, held_said k, (k.fresh q).2)

-- ---- edits keep the form
module _ (h : House) (form : InForm h) (cs : List Call) (t : ℕ) (t8 : t < 8) where
  -- a tank is what the calls on it make of it
  tank_is : tank_at (after_all h cs) t ≡ own.after_calls (calls_on t h cs) (tank_at h t)
  tank_is = own_calls h cs t t8 form.kept.eight

  -- touched never turns back
  pub still_touched : (tank_at h t).touched ≡ true → (tank_at (after_all h cs) t).touched ≡ true
  still_touched e = ap (λ (v : View). v.touched) tank_is ∙ own.touched_stays (calls_on t h cs) (tank_at h t) e

  -- one that is untouched still is a fresh one
  pub still_fresh : (tank_at (after_all h cs) t).touched ≡ false → tank_at (after_all h cs) t ≡ fresh_view
  still_fresh e = go (tank_at h t).touched refl
    where
      go : (b : Bool) → (tank_at h t).touched ≡ b → tank_at (after_all h cs) t ≡ fresh_view
      go true k = absurd (false≢true (sym e ∙ still_touched k))
      go false k =
          let c = tank_is ∙ ap (own.after_calls (calls_on t h cs)) (form.fresh t t8 k) in
          c ∙ own.untouched_fresh (calls_on t h cs) (sym (ap (λ (v : View). v.touched) c) ∙ e)

  -- ---- the length of a touched one: what it was, plus all lengths inserted and less all deleted by the accepted calls on it
  pub length_from : (tank_at h t).touched ≡ true → (tank_at (after_all h cs) t).length + sum_on lost t h cs ≡ (tank_at h t).length + sum_on gained t h cs
  length_from e =
      omega (
        arith,
        ap (λ (v : View). v.length) tank_is,
        own_sum lost h cs t t8 form.kept.eight,
        own_sum gained h cs t t8 form.kept.eight,
        own.length_law (calls_on t h cs) (tank_at h t) e,
      )

-- no edit changes the settings
pub settings_all : (h : House) (cs : List Call) → (after_all h cs).settings ≡ h.settings
unfolding after_all
settings_all h [] = refl
settings_all h (c ∷ cs) = settings_all (after_at h c.tank c.edit) cs ∙ settings_stay h c.tank c.edit

pub form_all : (h : House) (cs : List Call) → InForm h → InForm (after_all h cs)
form_all h cs form = record { kept = kept_all h cs form.kept; fresh = λ t l. still_fresh h form cs t l }

-- an annotate of a fresh tank touches it and leaves its length
annotate_touches : (e : Edit) → annotates e ≡ true → ((after e fresh_view).touched ≡ true) × ((after e fresh_view).length ≡ fresh_length)
unfolding annotates after after_annotate fresh_view
annotate_touches (annotating a b m) k = (refl, refl)
annotate_touches (inserting by pos len) k = absurd (false≢true k)
annotate_touches (deleting by a b) k = absurd (false≢true k)
annotate_touches (removing id last) k = absurd (false≢true k)

-- ---- the length of one that was untouched: T, plus and less those since its first accepted annotate
module _ (h : House) (form : InForm h) (cs : List Call) (t : ℕ) (t8 : t < 8) (f : FirstOn t h cs) where
  abbrev then_before : House
  then_before = after_all h f.before

  tank_then : tank_at (house_then f) t ≡ after f.edit fresh_view
  tank_then =
      ap (λ (g : House). tank_at g t) (after_done then_before t f.edit f.made)
      ∙ with_same then_before t (after f.edit (tank_at then_before t)) (kept_all h f.before form.kept).eight t8
      ∙ ap (after f.edit) (still_fresh h form f.before t t8 f.untouched)

  form_then : InForm (house_then f)
  unfolding after_all
  form_then = form_all then_before (record { tank = t; edit = f.edit } ∷ []) (form_all h f.before form)

  later_then : after_all h cs ≡ after_all (house_then f) f.later
  unfolding after_all
  later_then = ap (after_all h) f.split ∙ foldl-append _ h f.before (record { tank = t; edit = f.edit } ∷ f.later)

  pub length_first : (tank_at (after_all h cs) t).length + sum_on lost t (house_then f) f.later ≡ fresh_length + sum_on gained t (house_then f) f.later
  length_first =
      let a = annotate_touches f.edit f.annotate in
      omega (
        arith,
        ap (λ (g : House). (tank_at g t).length) later_then,
        ap (λ (v : View). v.length) tank_then ∙ a.1,
        length_from (house_then f) form_then f.later t t8 (ap (λ (v : View). v.touched) tank_then ∙ a.0),
      )
