-- The texts of marks, runs, pairs and tanks with one more of them behind.
use mathlib.Core.Path.{◌≡◌, refl, sym, ap, ◌∙◌}
use mathlib.Core.List.{List, [], ◌∷◌, ◌++◌, map, append_assoc, append-nil}
use Prim.Native.Nat.{ℕ, suc, ◌+◌, ◌≤◌, ◌<◌}
use native.Mathlib.Omega.{arith}
use native.Mathlib.Numerals.{add-one}
use lib.ListN.{length, get_or, take, length-map}
use lib.Seq.{take-suc, take_all, length-take-le}
use Rattle.styles.specs.declared.Mark.{Mark}
use Rattle.styles.specs.Marks.{blank}
use Rattle.runs.specs.Runs.{run, runs}
use Rattle.tank.specs.declared.Tank.{Tank}
use Rattle.tank.specs.Rules.{View, fresh_view}
use Rattle.tank.specs.State.{view, Formed}
use Rattle.tanks.specs.declared.Setting.{Setting}
use Rattle.tanks.specs.declared.Tanks.{Tanks}
use Rattle.tanks.specs.Settings.{no_setting}
use Rattle.tanks.specs.Pool.{meaning}
use Rattle.settings_text.specs.Text.{pair_text, pairs_text}
use Rattle.saved.specs.Saved.{Saved, saved_mark, marks_text, run_text, runs_text, tank_text, tanks_text, saved_of}
use Rattle.saved.proofs.Meant.{stored_in, saved_is}

-- ---- marks
marks_snoc : (v : ℕ) (ms : List Mark) (m : Mark) → marks_text v (ms ++ m ∷ []) ≡ marks_text v ms ++ saved_mark v m
unfolding marks_text
marks_snoc v [] m = append-nil (saved_mark v m)
marks_snoc v (x ∷ xs) m = ap (λ (l : List ℕ). saved_mark v x ++ l) (marks_snoc v xs m) ∙ sym (append_assoc (saved_mark v x) (marks_text v xs) (saved_mark v m))

pub marks_more : (v : ℕ) (ms : List Mark) (j : ℕ) → j < length ms → marks_text v (take j ms) ++ saved_mark v (get_or ms j blank) ≡ marks_text v (take (j + 1) ms)
marks_more v ms j h = sym (ap (marks_text v) (ap (λ (n : ℕ). take n ms) (add-one j) ∙ take-suc ms j blank h) ∙ marks_snoc v (take j ms) (get_or ms j blank))

-- ---- runs
pub runs_more : (lens sets : List ℕ) (j : ℕ) → runs_text (runs lens sets j) ++ run_text (run (get_or lens j 0) (get_or sets j 0)) ≡ runs_text (runs lens sets (j + 1))
unfolding runs_text runs
runs_more lens sets j = rw (add-one j) refl

-- ---- pairs
pairs_snoc : (t : ℕ) (st : List Setting) (s : Setting) → pairs_text t (st ++ s ∷ []) ≡ pairs_text t st ++ pair_text (t + length st) s
unfolding pairs_text
pairs_snoc t [] s = let e : t ≡ t + 0 = omega arith in append-nil (pair_text t s) ∙ ap (λ (n : ℕ). pair_text n s) e
pairs_snoc t (x ∷ xs) s =
    let e : suc t + length xs ≡ t + suc (length xs) = omega arith in
    ap (λ (l : List ℕ). pair_text t x ++ l) (pairs_snoc (suc t) xs s ∙ ap (λ (n : ℕ). pairs_text (suc t) xs ++ pair_text n s) e)
    ∙ sym (append_assoc (pair_text t x) (pairs_text (suc t) xs) (pair_text (t + suc (length xs)) s))

pub pairs_more : (st : List Setting) (t : ℕ) → t < length st → pairs_text 0 (take t st) ++ pair_text t (get_or st t no_setting) ≡ pairs_text 0 (take (t + 1) st)
pairs_more st t h =
    let e : 0 + length (take t st) ≡ t = omega (arith, length-take-le t st (omega arith)) in
    sym
    (ap (pairs_text 0) (ap (λ (n : ℕ). take n st) (add-one t) ∙ take-suc st t no_setting h)
    ∙ pairs_snoc 0 (take t st) (get_or st t no_setting)
    ∙ ap (λ (n : ℕ). pairs_text 0 (take t st) ++ pair_text n (get_or st t no_setting)) e)

-- ---- tanks
tanks_snoc : (v t : ℕ) (ss : List Saved) (s : Saved) → tanks_text v t (ss ++ s ∷ []) ≡ tanks_text v t ss ++ tank_text v (t + length ss) s
unfolding tanks_text
tanks_snoc v t [] s = let e : t ≡ t + 0 = omega arith in append-nil (tank_text v t s) ∙ ap (λ (n : ℕ). tank_text v n s) e
tanks_snoc v t (x ∷ xs) s =
    let e : suc t + length xs ≡ t + suc (length xs) = omega arith in
    ap (λ (l : List ℕ). tank_text v t x ++ l) (tanks_snoc v (suc t) xs s ∙ ap (λ (n : ℕ). tanks_text v (suc t) xs ++ tank_text v n s) e)
    ∙ sym (append_assoc (tank_text v t x) (tanks_text v (suc t) xs) (tank_text v (t + suc (length xs)) s))

map_snoc : (vs : List View) (x : View) → map saved_of (vs ++ x ∷ []) ≡ map saved_of vs ++ saved_of x ∷ []
map_snoc [] x = refl
map_snoc (y ∷ ys) x = ap (λ (l : List Saved). saved_of y ∷ l) (map_snoc ys x)

pub tanks_more : (v : ℕ) (vs : List View) (t : ℕ) (x : View) → t < length vs → x ≡ get_or vs t fresh_view
    → tanks_text v 0 (map saved_of (take t vs)) ++ tank_text v t (saved_of x) ≡ tanks_text v 0 (map saved_of (take (t + 1) vs))
tanks_more v vs t x h is =
    let ss : List Saved = map saved_of (take t vs) in
    let e : 0 + length ss ≡ t = omega (arith, length-map (take t vs) saved_of, length-take-le t vs (omega arith)) in
    ap (λ (y : View). tanks_text v 0 ss ++ tank_text v t (saved_of y)) is
    ∙ sym
    (ap (λ (l : List View). tanks_text v 0 (map saved_of l)) (ap (λ (n : ℕ). take n vs) (add-one t) ∙ take-suc vs t fresh_view h)
    ∙ ap (tanks_text v 0) (map_snoc (take t vs) (get_or vs t fresh_view))
    ∙ tanks_snoc v 0 ss (saved_of (get_or vs t fresh_view))
    ∙ ap (λ (n : ℕ). tanks_text v 0 ss ++ tank_text v n (saved_of (get_or vs t fresh_view))) e)

-- a tank in form, by what it stores
pub tank_stored : (v t : ℕ) {x : Tank} → Formed x → tank_text v t (stored_in x) ≡ tank_text v t (saved_of (view x))
tank_stored v t f = ap (tank_text v t) (sym (saved_is f))

-- the tanks of a state are eight
pub tanks_eight : (s : Tanks) → length (meaning s).tanks ≡ 8
unfolding meaning
tanks_eight s = refl

pub tanks_all : (v : ℕ) (s : Tanks) (t : ℕ) → 8 ≤ t → tanks_text v 0 (map saved_of (take t (meaning s).tanks)) ≡ tanks_text v 0 (map saved_of (meaning s).tanks)
tanks_all v s t h = ap (λ (l : List View). tanks_text v 0 (map saved_of l)) (take_all t (meaning s).tanks (omega (arith, tanks_eight s)))
