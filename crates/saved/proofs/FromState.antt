-- What a sound state means is written down as good settings and eight tanks that keep the rules; so its text reads back as that meaning.
use mathlib.Core.Path.{◌≡◌, refl, sym, ap, ◌∙◌, subst}
use mathlib.Core.Bool.{true, false}
use mathlib.Core.List.{List, [], ◌∷◌, ◌++◌, map}
use Prim.Native.Nat.{ℕ, zero, suc, ◌+◌, ◌-◌, ◌^◌, ◌≤◌, ◌<◌, max}
use native.Mathlib.Omega.{arith}
use native.Mathlib.Nat.{pow-suc}
use lib.Pow.{pow_pos}
use lib.ListN.{length, get_or}
use Rattle.runs.specs.Runs.{Run, total}
use Rattle.runs.specs.Gather.{gather}
use Rattle.runs.proofs.Laws.{length_runs}
use Rattle.runs.proofs.MapLaws.{AllSets}
use Rattle.runs.proofs.RenumberLaws.{sets_less}
use Rattle.runs.proofs.SumLaws.{sum_least}
use Rattle.tank.specs.declared.Tank.{Tank}
use Rattle.tank.specs.Rules.{fresh_length, carried}
use Rattle.tank.specs.State.{runs_of, table_of, view, Formed}
use Rattle.tank.proofs.Unique.{table_length}
use Rattle.tanks.specs.declared.Setting.{Setting}
use Rattle.tanks.specs.declared.Tanks.{Tanks}
use Rattle.tanks.specs.Settings.{no_setting, accepted, share_of, limit_of}
use Rattle.tanks.specs.House.{tank_at}
use Rattle.tanks.specs.Pool.{runs_in, tank_in, tank_of, meaning, Sound}
use Rattle.tanks.proofs.MeaningLaws.{tank_at_lem}
use Rattle.tanks.proofs.SettingLaws as rule
use Rattle.settings_text.specs.Text.{InRange, AllInRange}
use Rattle.settings_text.proofs.Exact.{AllOrdered}
use Rattle.styles.specs.declared.Mark.{Mark}
use Rattle.saved.specs.Saved.{Saved, AllSayable, SayableHouse, saved_of, saved_text, house_text}
use Rattle.saved.specs.Saying.{newest, claimed, saying, house_in}
use Rattle.saved.proofs.RunLines.{SetsWithin}
use Rattle.saved.proofs.Meant.{stored_in, saved_is}
use Rattle.saved.proofs.TankLines.{Keeps, AllKeep}
use Rattle.saved.proofs.MarksBack.{AllFit, Back}
use Rattle.saved.proofs.TanksBack.{AllFitIn}
use Rattle.saved.proofs.RoundTrip.{GoodSettings, said_again}

-- ---- settings
all_in_range : (st : List Setting) → ((u : ℕ) → u < length st → InRange (get_or st u no_setting)) → AllInRange st
unfolding AllInRange
all_in_range [] h = tt
all_in_range (s ∷ st) h = (h 0 (omega arith), all_in_range st (λ u l. h (suc u) (omega arith)))

all_ordered : (st : List Setting) → ((u : ℕ) → u < length st → (get_or st u no_setting).share ≤ (get_or st u no_setting).limit) → AllOrdered true st
unfolding AllOrdered
all_ordered [] h = tt
all_ordered (s ∷ st) h = (h 0 (omega arith), all_ordered st (λ u l. h (suc u) (omega arith)))

pub good_settings : (st : List Setting) → length st ≡ 8 → accepted st ≡ true → GoodSettings st
good_settings st e a = record {
  eight = e;
  range = all_in_range st (λ u h. let k = rule.accepted_at st a u (omega arith) in record { share_least = k.low; share_most = omega (arith, k.order, k.high); limit_least = omega (arith, k.low, k.order); limit_most = k.high });
  ordered = all_ordered st (λ u h. (rule.accepted_at st a u (omega arith)).order);
  shared = rule.accepted_sum st a;
}

-- ---- a tank in form
within_of : (n most : ℕ) (rs : List Run) → most ≡ 2 ^ n - 1 → AllSets (λ s. s < 2 ^ n) rs → total rs < 2 ^ 64 → SetsWithin most rs
unfolding SetsWithin AllSets total
within_of n most [] e a h = tt
within_of n most (r ∷ rs) e a h = (omega (arith, a.0), omega arith, within_of n most rs e a.1 (omega arith))

no_mark : (k : ℕ) → 0 ≡ 2 ^ k - 1 → k ≡ 0
no_mark zero e = refl
no_mark (suc k) e = absurd (omega (arith, pow-suc 2 k, pow_pos k))

module _ (v : ℕ) (st : List Setting) (held : List ℕ) (i : ℕ) (t : Tank) (f : Formed t) (sayable : AllSayable v (table_of t)) (limit : t.runs ≤ limit_of st i) (pool : claimed st (held ++ t.runs ∷ []) ≤ 512) where
  runs_count : length (runs_of t) ≡ t.runs
  runs_count = length_runs t.lens t.sets t.runs

  marks_count : length (table_of t) ≡ t.marks
  marks_count = table_length f.laid

  whole : gather (runs_of t) ≡ 2 ^ length (table_of t) - 1
  whole = f.whole ∙ ap (λ (n : ℕ). 2 ^ n - 1) (sym marks_count)

  fresh : t.touched ≡ false → (t.length ≡ fresh_length) × (length (table_of t) ≡ 0) × (length (runs_of t) ≡ 1)
  unfolding total gather
  fresh e =
      let r = f.fresh e in (
        f.laid.sum ∙ ap total r ∙ omega arith,
        no_mark (length (table_of t)) (sym (ap gather r) ∙ whole),
        ap length r,
      )

  pub kept_of : Keeps v st held i (stored_in t)
  kept_of = record {
    small = omega (arith, f.laid.small);
    few = omega (arith, marks_count, f.laid.few);
    sayable = sayable;
    roomy = f.laid.roomy;
    sorted = f.laid.sorted;
    numbers = f.laid.numbers;
    canon = f.laid.canon;
    within = within_of (length (table_of t)) (2 ^ length (table_of t) - 1) (runs_of t) refl (sets_less (length (table_of t)) (runs_of t) (omega (arith, whole, pow_pos (length (table_of t))))) (omega (arith, f.laid.sum, f.laid.small));
    sum = sym f.laid.sum;
    whole = whole;
    limit = λ e. omega (arith, runs_count);
    fresh = fresh;
    pool = rw runs_count pool;
  }

-- ---- eight of them
-- those of k tanks from t on
abbrev pub stored_from : Tanks → ℕ → ℕ → List Saved
stored_from s t zero = []
stored_from s t (suc k) = stored_in (tank_of s t) ∷ stored_from s (suc t) k

stored_snoc : (s : Tanks) (t k : ℕ) → stored_from s t k ++ stored_in (tank_of s (t + k)) ∷ [] ≡ stored_from s t (suc k)
stored_snoc s t zero = let e : t + 0 ≡ t = omega arith in ap (λ (j : ℕ). stored_in (tank_of s j) ∷ []) e
stored_snoc s t (suc k) =
    let e : t + suc k ≡ suc t + k = omega arith in
    ap (λ (l : List Saved). stored_in (tank_of s t) ∷ l) (ap (λ (j : ℕ). stored_from s (suc t) k ++ stored_in (tank_of s j) ∷ []) e ∙ stored_snoc s (suc t) k)

stored_length : (s : Tanks) (t k : ℕ) → length (stored_from s t k) ≡ k
stored_length s t zero = refl
stored_length s t (suc k) = ap suc (stored_length s (suc t) k)

tank_runs : (s : Tanks) (t : ℕ) → (tank_of s t).runs ≡ runs_in s.heads t
unfolding tank_of tank_in
tank_runs s t = refl

-- how many runs the first tanks hold
held_at : (s : Tanks) (t k u : ℕ) → get_or (map (λ (x : Saved). length x.runs) (stored_from s t k)) u 0 ≤ runs_in s.heads (t + u)
held_at s t zero u = omega arith
held_at s t (suc k) zero =
    let e : t + 0 ≡ t = omega arith in
    rw e (omega (arith, length_runs (tank_of s t).lens (tank_of s t).sets (tank_of s t).runs, tank_runs s t))
held_at s t (suc k) (suc u) = let e : t + suc u ≡ suc t + u = omega arith in rw e (held_at s (suc t) k u)

map_snoc : (xs : List Saved) (x : Saved) → map (λ (x : Saved). length x.runs) xs ++ length x.runs ∷ [] ≡ map (λ (x : Saved). length x.runs) (xs ++ x ∷ [])
map_snoc [] x = refl
map_snoc (y ∷ ys) x = ap (λ (l : List ℕ). length y.runs ∷ l) (map_snoc ys x)

-- the marks that a tank carries are those of its table
carried_table : (s : Tanks) → Sound s → (t : ℕ) → t < 8 → carried (tank_at (meaning s) t) ≡ table_of (tank_of s t)
unfolding saved_of
carried_table s sound t h = ap carried (tank_at_lem s t h) ∙ ap (λ (x : Saved). x.marks) (saved_is (sound.each t h))

module _ (v : ℕ) (s : Tanks) (sound : Sound s) (sayable : SayableHouse v (meaning s)) where
  tables : (t : ℕ) → t < 8 → AllSayable v (table_of (tank_of s t))
  tables t h = subst (AllSayable v) (carried_table s sound t h) (sayable t h)

  pool_of : (t : ℕ) → t < 8 → claimed s.settings (map (λ (x : Saved). length x.runs) (stored_from s 0 t) ++ (tank_of s t).runs ∷ []) ≤ 512
  pool_of t h =
      let own : length (runs_of (tank_of s t)) ≡ (tank_of s t).runs = length_runs (tank_of s t).lens (tank_of s t).sets (tank_of s t).runs in
      let all : map (λ (x : Saved). length x.runs) (stored_from s 0 t) ++ (tank_of s t).runs ∷ [] ≡ map (λ (x : Saved). length x.runs) (stored_from s 0 (suc t)) =
      ap (λ (n : ℕ). map (λ (x : Saved). length x.runs) (stored_from s 0 t) ++ n ∷ []) (sym own)
      ∙ map_snoc (stored_from s 0 t) (stored_in (tank_of s t))
      ∙ ap (map (λ (x : Saved). length x.runs)) (ap (λ (j : ℕ). stored_from s 0 t ++ stored_in (tank_of s j) ∷ []) (let e : t ≡ 0 + t = omega arith in e) ∙ stored_snoc s 0 t)
      in
      rw all
      (omega (
        arith,
        sound.sum,
        sum_least (λ u. max (get_or (map (λ (x : Saved). length x.runs) (stored_from s 0 (suc t))) u 0) (share_of s.settings u)) (λ u. max (runs_in s.heads u) (share_of s.settings u)) 8
            (λ u l. let q = held_at s 0 (suc t) u in let e : 0 + u ≡ u = omega arith in let q' : get_or (map (λ (x : Saved). length x.runs) (stored_from s 0 (suc t))) u 0 ≤ runs_in s.heads u = rw e at q in omega arith),
      ))

  kept_from : (k t : ℕ) → t + k ≡ 8 → AllKeep v s.settings (stored_from s 0 t) (stored_from s t k)
  unfolding AllKeep
  kept_from zero t e = tt
  kept_from (suc k) t e =
      let l : length (stored_from s 0 t) ≡ t = stored_length s 0 t in
      let n : stored_from s 0 t ++ stored_in (tank_of s t) ∷ [] ≡ stored_from s 0 (suc t) = ap (λ (j : ℕ). stored_from s 0 t ++ stored_in (tank_of s j) ∷ []) (let e : t ≡ 0 + t = omega arith in e) ∙ stored_snoc s 0 t in (
        rw l (kept_of v s.settings (map (λ (x : Saved). length x.runs) (stored_from s 0 t)) t (tank_of s t) (sound.each t (omega arith)) (tables t (omega arith)) (omega (arith, tank_runs s t, sound.limits t (omega arith))) (pool_of t (omega arith))),
        rw n (kept_from k (suc t) (omega arith)),
      )

  fit_from : ((t : ℕ) → t < 8 → AllFit (table_of (tank_of s t))) → (k t : ℕ) → t + k ≡ 8 → AllFitIn (stored_from s t k)
  unfolding AllFitIn
  fit_from f zero t e = tt
  fit_from f (suc k) t e = (
    f t (omega arith),
    omega (arith, length_runs (tank_of s t).lens (tank_of s t).sets (tank_of s t).runs, (sound.each t (omega arith)).laid.most),
    fit_from f k (suc t) (omega arith),
  )

  -- the meaning, written down
  written_is : map saved_of (meaning s).tanks ≡ stored_from s 0 8
  unfolding meaning
  written_is =
      let e : (t : ℕ) → t < 8 → saved_of (view (tank_of s t)) ≡ stored_in (tank_of s t) = λ t h. saved_is (sound.each t h) in
      λ i. e 0 (omega arith) i ∷ e 1 (omega arith) i ∷ e 2 (omega arith) i ∷ e 3 (omega arith) i ∷ e 4 (omega arith) i ∷ e 5 (omega arith) i ∷ e 6 (omega arith) i ∷ e 7 (omega arith) i ∷ []

  -- reading what was written of a sound state gives its meaning back
  pub read_back : (last : ℕ) → 1 ≤ v → v ≤ last → v < 2 ^ 64 → ((t : ℕ) → t < 8 → AllFit (table_of (tank_of s t)))
      → Back (saying last (house_text v (meaning s))) (record { version = v; settings = s.settings; tanks = stored_from s 0 8 }) []
  unfolding house_text meaning
  read_back last a b c f =
      let r = said_again last v s.settings (stored_from s 0 8) a b c (good_settings s.settings sound.settings_8 sound.rule) refl (kept_from 8 0 refl) (fit_from f 8 0 refl) in
      record { lines = r.lines; is = ap (λ (l : List Saved). saying last (saved_text v s.settings l)) written_is ∙ r.is }

pub read_means : (v : ℕ) (s : Tanks) → house_in (record { version = v; settings = s.settings; tanks = stored_from s 0 8 }) ≡ meaning s
unfolding meaning view
read_means v s = refl

-- the newest version can say every mark
pub newest_says : (v : ℕ) → newest ≤ v → (ms : List Mark) → AllSayable v ms
unfolding AllSayable
newest_says v h [] = tt
newest_says v h (m ∷ ms) = (record { plant = λ l. absurd (omega arith); uncounted = λ l. absurd (omega arith) }, newest_says v h ms)

-- so what is written in it reads back as what it means, whatever the marks are
pub read_newest : (s : Tanks) → Sound s → ((t : ℕ) → t < 8 → AllFit (table_of (tank_of s t)))
    → Back (saying newest (house_text newest (meaning s))) (record { version = newest; settings = s.settings; tanks = stored_from s 0 8 }) []
read_newest s sound f = read_back newest s sound (λ t h. newest_says newest (omega arith) (carried (tank_at (meaning s) t))) newest (omega arith) (omega arith) (omega arith) f
