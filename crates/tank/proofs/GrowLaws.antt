-- New positions: what `grow` asks of the run edit, and what it then means.
use Prim.Native.Nat.{ℕ, zero, suc, ◌+◌, ◌≤◌, ◌<◌, ◌^◌}
use mathlib.Core.Path.{◌≡◌, ap, ◌∙◌, sym}
use mathlib.Core.Bool.{true}
use mathlib.Core.List.{List}
use native.Mathlib.Omega.{arith}
use native.Mathlib.Decide.{dec_lt}
use native.Mathlib.Numerals.{sub-one}
use lib.Bits.{bit_and, and_zero_l, and_le_r}
use lib.ListN.{length}
use borrow.Author.Tests.{eq-eqb, ne_eqb}
use Rattle.styles.specs.declared.Mark.{Mark}
use Rattle.styles.specs.Marks.{Sorted}
use Rattle.styles.specs.Bits.{pick}
use Rattle.styles.proofs.PickLaws.{pick_both}
use Rattle.styles.proofs.UnionLaws.{pick_none}
use Rattle.runs.specs.Runs.{Run, runs, total, set_at, Spare}
use Rattle.runs.specs.Edits.{Joined, CanEdit}
use Rattle.runs.specs.Positions.{inserted_at}
use Rattle.runs.proofs.Copies.{inserted}
use Rattle.runs.specs.Gather.{gather}
use Rattle.runs.specs.Scan.{common_at}
use Rattle.runs.proofs.CountLaws.{inserted_runs}
use Rattle.styles.proofs.Digits.{and_digit, digit_within}
use Rattle.runs.proofs.EditLaws.{inserted_joined}
use Rattle.runs.proofs.GatherLaws.{gather_digit, gather_inserted}
use Rattle.runs.proofs.ScanLaws.{common_end}
use Rattle.tank.specs.declared.Tank.{Tank}
use Rattle.tank.specs.Rules.{inherited, after_insert, for_insert}
use Rattle.tank.specs.State.{runs_of, table_of, view_of, view, Laid}
use Rattle.tank.specs.Steps.{Stepped, CanGrow}
use Rattle.tank.proofs.Shape.{can_edit, over_runs, view_touched, stepped, reach}
use Rattle.tank.proofs.ViewLaws.{view_inserted}

-- ---- what the neighbours of pos have in common
-- it is carried
common_there : (rs : List Run) (pos : ℕ) → bit_and (common_at rs pos) (gather rs) ≡ common_at rs pos
unfolding common_at
common_there rs zero = and_zero_l (gather rs)
common_there rs (suc p) =
    digit_within (bit_and (set_at rs p) (set_at rs (suc p))) (gather rs)
    (λ i. omega (arith, and_digit (set_at rs p) (set_at rs (suc p)) i, gather_digit rs (suc p) i))

-- and its marks are the inherited ones
pub common_inherited : (rs : List Run) (pos : ℕ) → pos ≤ total rs → (ms : List Mark) → Sorted ms
    → pick ms (common_at rs pos) ≡ inherited pos (view_of true (total rs) ms rs)
unfolding inherited common_at
common_inherited rs zero fits ms sorted = pick_none ms
common_inherited rs (suc p) fits ms sorted =
    let a = ne_eqb (suc p) 0 (λ q. omega arith) in
    elim (dec_lt (suc p) (total rs)) [
      | yes k ↦ rw (a, ne_eqb (suc p) (total rs) (λ q. omega arith), sub-one) (pick_both ms (set_at rs p) (set_at rs (suc p)) sorted)
      | no k ↦ rw (a, common_end rs (suc p) (omega arith), eq-eqb (suc p) (total rs) (omega arith)) (pick_none ms)
    ]

-- what new positions at pos get
pub common_small : {t : Tank} → Laid t → (pos : ℕ) → common_at (runs_of t) pos < 2 ^ t.marks
common_small {t} f pos =
    let a = f.inside in
    omega (arith, common_there (runs_of t) pos, and_le_r (common_at (runs_of t) pos) (gather (runs_of t)))

module _ {t : Tank} (f : Laid t) (pos : ℕ) (fits : pos ≤ t.length) where
  pub common_for_insert : t.touched ≡ true → pick (table_of t) (common_at (runs_of t) pos) ≡ for_insert pos (view t)
  unfolding for_insert view
  common_for_insert e =
      common_inherited (runs_of t) pos (reach f fits) (table_of t) f.sorted ∙ ap (inherited pos) (view_touched f e) ∙ sym (simp e)

module _ {t : Tank} (pos len set : ℕ) (h : CanGrow t pos len set) where
  fits : pos ≤ total (runs_of t)
  fits = reach h.laid h.fits

  -- what becomes of the runs
  grown_out : Joined (t.length + len) (inserted_at pos len set (set_at (runs_of t))) (inserted (runs_of t) pos len set)
  grown_out = inserted_joined (runs_of t) t.length h.laid.sum pos len set h.fits

  pub grow_can : (olens osets : List ℕ) → length olens ≡ 514 → length osets ≡ 514
      → (pos ≤ t.length) × CanEdit (t.length + len) (inserted_at pos len set (set_at (runs_of t))) olens osets t.lens t.sets t.runs t.length
  grow_can olens osets l l' =
      (h.fits, can_edit h.laid h.room grown_out (inserted_runs (runs_of t) pos len set fits) h.small olens osets l l')

  pub grow_done : (lens sets : List ℕ) (n : ℕ) → Joined (t.length + len) (inserted_at pos len set (set_at (runs_of t))) (runs lens sets n) → Spare lens sets n
      → length lens ≡ 514 → length sets ≡ 514
      → Stepped (after_insert pos len (view t)) (table_of t) (gather (runs_of t))
      (record { touched = true; length = t.length + len; runs = n; marks = t.marks; lens = lens; sets = sets; table = t.table })
  grow_done lens sets n made sp l l' =
      let f = h.laid in
      let out = inserted (runs_of t) pos len set in
      let g : gather out ≡ gather (runs_of t) =
      gather_inserted (runs_of t) pos len set f.canon fits (rw h.common (common_there (runs_of t) pos))
      in
      stepped
      (over_runs f h.room grown_out (inserted_runs (runs_of t) pos len set fits) h.small true lens sets n made sp l l' (rw g f.inside))
      (view_inserted (runs_of t) pos len set fits (table_of t)
      (ap (pick (table_of t)) h.common ∙ common_inherited (runs_of t) pos fits (table_of t) f.sorted)
      ∙ ap (after_insert pos len) (view_touched f h.touched))
      g
