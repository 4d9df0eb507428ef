-- Positions taken away: what `cut` asks of the run edit, and what it then means.
use Prim.Native.Nat.{ℕ, ◌-◌, ◌≤◌}
use mathlib.Core.Path.{◌≡◌, ap, ◌∙◌}
use mathlib.Core.Bool.{true}
use mathlib.Core.List.{List}
use native.Mathlib.Omega.{arith}
use lib.Bits.{and_le_r}
use lib.ListN.{length}
use Rattle.runs.specs.Runs.{runs, set_at, Spare}
use Rattle.runs.specs.Edits.{Joined, CanEdit}
use Rattle.runs.specs.Positions.{deleted_at}
use Rattle.runs.proofs.Copies.{deleted}
use Rattle.runs.specs.Gather.{gather}
use Rattle.runs.proofs.CountLaws.{deleted_runs}
use Rattle.runs.proofs.EditLaws.{deleted_joined}
use Rattle.runs.proofs.GatherLaws.{gather_deleted}
use Rattle.tank.specs.declared.Tank.{Tank}
use Rattle.tank.specs.Rules.{after_delete}
use Rattle.tank.specs.State.{runs_of, table_of, view, Laid}
use Rattle.tank.specs.Steps.{CanCut}
use Rattle.tank.proofs.Shape.{can_edit, over_runs, view_touched}
use Rattle.tank.proofs.AlterLaws.{fits_runs}
use Rattle.tank.proofs.ViewLaws.{view_deleted}

module _ {t : Tank} (start end : ℕ) (h : CanCut t start end) where
  -- what becomes of the runs
  cut_out : Joined (t.length - (end - start)) (deleted_at start end (set_at (runs_of t))) (deleted (runs_of t) start end)
  cut_out = deleted_joined (runs_of t) t.length h.range.laid.sum start end h.range.up h.range.fits

  pub cut_can : (olens osets : List ℕ) → length olens ≡ 514 → length osets ≡ 514
      → (start ≤ end) × (end ≤ t.length)
      × CanEdit (t.length - (end - start)) (deleted_at start end (set_at (runs_of t))) olens osets t.lens t.sets t.runs t.length
  cut_can olens osets l l' =
      let b = h.range.laid.small in (
        h.range.up,
        h.range.fits,
        can_edit h.range.laid h.range.room cut_out (deleted_runs (runs_of t) start end h.range.up (fits_runs h.range)) (omega arith) olens osets l l',
      )

  pub cut_done : (lens sets : List ℕ) (n : ℕ) → Joined (t.length - (end - start)) (deleted_at start end (set_at (runs_of t))) (runs lens sets n) → Spare lens sets n
      → length lens ≡ 514 → length sets ≡ 514
      → let r : Tank = record { touched = true; length = t.length - (end - start); runs = n; marks = t.marks; lens = lens; sets = sets; table = t.table } in
      (Laid r) × (view r ≡ after_delete start end (view t))
  cut_done lens sets n made sp l l' =
      let f = h.range.laid in
      let b = f.small in
      let d = f.inside in
      let out = deleted (runs_of t) start end in
      let s =
      over_runs f h.range.room cut_out (deleted_runs (runs_of t) start end h.range.up (fits_runs h.range)) (omega arith) true lens sets n made sp l l'
      (omega (arith, gather_deleted (runs_of t) start end h.range.up (fits_runs h.range), and_le_r (gather out) (gather (runs_of t))))
      in
      (s.laid, s.is ∙ view_deleted (runs_of t) start end h.range.up (fits_runs h.range) (table_of t) ∙ ap (after_delete start end) (view_touched f h.touched))
