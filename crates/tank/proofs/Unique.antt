-- One meaning, one tank: runs held and marks carried are the meaning's, and two tanks in form with one view are equal.
use Prim.Native.Nat.{ℕ, ◌-◌, ◌<◌, ◌^◌}
use mathlib.Core.Path.{◌≡◌, sym, ap, ◌∙◌}
use native.Mathlib.Omega.{arith}
use native.Mathlib.Decide.{dec_lt}
use lib.ListN.{length, get_or, length-take}
use lib.Seq.{ext_get_or, get_or-take}
use Rattle.styles.specs.Marks.{blank}
use Rattle.styles.specs.Bits.{pick}
use Rattle.styles.proofs.UnionLaws.{pick_all}
use Rattle.styles.proofs.SameLaws.{pick_inj}
use Rattle.runs.specs.Runs.{runs, set_at, Spare}
use Rattle.runs.specs.Gather.{gather}
use Rattle.runs.proofs.Laws.{unique, length_runs}
use Rattle.runs.proofs.BehindLaws.{entries}
use Rattle.tank.specs.declared.Tank.{Tank}
use Rattle.tank.specs.Rules.{alike, carried, gathered, runs_held, View}
use Rattle.runs.specs.Positions.{stretch_count}
use Rattle.tank.specs.State.{runs_of, table_of, view, Laid, Formed}
use Rattle.tank.proofs.Counted.{at_inside, counted}
use Rattle.tank.proofs.Carried.{gathered_is}

-- the table has as many marks as the tank says
pub table_length : {t : Tank} → Laid t → length (table_of t) ≡ t.marks
table_length {t} f = let m = f.few in let l = f.table_64 in omega (arith, length-take t.marks t.table)

pub inside_table : {t : Tank} → Laid t → gather (runs_of t) < 2 ^ length (table_of t)
inside_table {t} f = rw (table_length f) f.inside

-- ---- runs held, counted from the positions
pub runs_held_lem : {t : Tank} → Laid t → runs_held (view t) ≡ t.runs
unfolding view
runs_held_lem {t} f =
    ap (stretch_count (alike (λ p. pick (table_of t) (set_at (runs_of t) p)))) f.sum
    ∙ counted (table_of t) (runs_of t) f.sorted (inside_table f) f.canon
    ∙ length_runs t.lens t.sets t.runs

-- ---- marks carried, gathered from the positions
pub marks_carried : {t : Tank} → Formed t → carried (view t) ≡ table_of t
unfolding view
marks_carried {t} f =
    let l = f.laid in
    ap (gathered (λ p. pick (table_of t) (set_at (runs_of t) p))) l.sum
    ∙ gathered_is (table_of t) l.sorted (runs_of t) l.canon
    ∙ ap (pick (table_of t)) (f.whole ∙ ap (λ n. 2 ^ n - 1) (sym (table_length l)))
    ∙ pick_all (table_of t)

-- ---- one view, one tank
-- two tanks with equal fields are equal
pub tank_eq : (x y : Tank) → x.touched ≡ y.touched → x.length ≡ y.length → x.runs ≡ y.runs → x.marks ≡ y.marks → x.lens ≡ y.lens → x.sets ≡ y.sets → x.table ≡ y.table → x ≡ y
tank_eq x y a b c d e f g = λ i. record { touched = a i; length = b i; runs = c i; marks = d i; lens = e i; sets = f i; table = g i }

module _ {t u : Tank} (f : Formed t) (g : Formed u) (e : view t ≡ view u) where
  same_length : t.length ≡ u.length
  unfolding view
  same_length = ap (λ (v : View). v.length) e

  same_touched : t.touched ≡ u.touched
  unfolding view
  same_touched = ap (λ (v : View). v.touched) e

  -- the tables have the same marks
  same_marks_lem : table_of t ≡ table_of u
  same_marks_lem = sym (marks_carried f) ∙ ap carried e ∙ marks_carried g

  same_count : t.marks ≡ u.marks
  same_count = sym (table_length f.laid) ∙ ap length same_marks_lem ∙ table_length g.laid

  same_at : (p : ℕ) → set_at (runs_of t) p ≡ set_at (runs_of u) p
  unfolding view
  same_at p =
      pick_inj (table_of t) (set_at (runs_of t) p) (set_at (runs_of u) p) f.laid.sorted
      (at_inside (runs_of t) _ p (inside_table f.laid))
      (at_inside (runs_of u) _ p (rw (ap length same_marks_lem) (inside_table g.laid)))
      (ap (λ (v : View). v.at p) e ∙ ap (λ ms. pick ms (set_at (runs_of u) p)) (sym same_marks_lem))

  same_runs : runs_of t ≡ runs_of u
  same_runs =
      let a = f.laid.sum in
      let b = g.laid.sum in
      unique (runs_of t) (runs_of u) f.laid.canon g.laid.canon (omega (arith, same_length)) same_at

  same_held : t.runs ≡ u.runs
  same_held = sym (length_runs t.lens t.sets t.runs) ∙ ap length same_runs ∙ length_runs u.lens u.sets u.runs

  same_entry : (i : ℕ) → (get_or t.lens i 0 ≡ get_or u.lens i 0) × (get_or t.sets i 0 ≡ get_or u.sets i 0)
  unfolding Spare
  same_entry i =
      elim (dec_lt i t.runs) [
        | yes h ↦
            entries t.lens t.sets u.lens u.sets t.runs (same_runs ∙ ap (runs u.lens u.sets) (sym same_held)) i h
        | no h ↦
            let x = f.laid.spare i (omega arith) in
            let y = g.laid.spare i (omega (arith, same_held)) in
            (x.0 ∙ sym y.0, x.1 ∙ sym y.1)
      ]

  same_mark : (i : ℕ) → get_or t.table i blank ≡ get_or u.table i blank
  same_mark i =
      elim (dec_lt i t.marks) [
        | yes h ↦
            sym (get_or-take t.marks t.table i blank h) ∙ ap (λ ms. get_or ms i blank) same_marks_lem
            ∙ get_or-take u.marks u.table i blank (omega (arith, same_count))
        | no h ↦ f.laid.blanks i (omega arith) ∙ sym (g.laid.blanks i (omega (arith, same_count)))
      ]

  pub same_tank : t ≡ u
  same_tank =
      let a = f.laid in
      let b = g.laid in
      let lens = ext_get_or 0 t.lens u.lens (a.lens_514 ∙ sym b.lens_514) (λ i k. (same_entry i).0) in
      let sets = ext_get_or 0 t.sets u.sets (a.sets_514 ∙ sym b.sets_514) (λ i k. (same_entry i).1) in
      let table = ext_get_or blank t.table u.table (a.table_64 ∙ sym b.table_64) (λ i k. same_mark i) in
      tank_eq t u same_touched same_length same_held same_count lens sets table
