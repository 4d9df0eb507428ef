-- The sets of a range changed by a function: what `lay` and `strip` both ask of the run edit, and the tank that comes of it.
use Prim.Native.Nat.{ℕ, ◌≤◌, ◌<◌, ◌^◌}
use mathlib.Core.Path.{◌≡◌}
use mathlib.Core.Bool.{Bool}
use mathlib.Core.List.{List}
use lib.ListN.{length}
use Rattle.runs.specs.Runs.{runs, total, set_at, Spare}
use Rattle.runs.specs.Edits.{Joined, CanEdit}
use Rattle.runs.specs.Positions.{altered_at}
use Rattle.runs.specs.Gather.{gather}
use Rattle.runs.proofs.Copies.{altered}
use Rattle.runs.proofs.CountLaws.{altered_runs}
use Rattle.runs.proofs.EditLaws.{altered_joined}
use Rattle.tank.specs.declared.Tank.{Tank}
use Rattle.tank.specs.State.{runs_of, table_of, view_of}
use Rattle.tank.specs.Steps.{Stepped, OnRange}
use Rattle.tank.proofs.Shape.{reach, can_edit, over_runs}

module _ {t : Tank} {start end : ℕ} (h : OnRange t start end) where
  pub fits_runs : end ≤ total (runs_of t)
  fits_runs = reach h.laid h.fits

  module _ (f : ℕ → ℕ) where
    -- what becomes of the runs
    made : Joined t.length (altered_at start end f (set_at (runs_of t))) (altered (runs_of t) start end f)
    made = altered_joined (runs_of t) t.length h.laid.sum start end f h.up h.fits

    pub alter_can : (olens osets : List ℕ) → length olens ≡ 514 → length osets ≡ 514
        → (start ≤ end) × (end ≤ t.length)
        × CanEdit t.length (altered_at start end f (set_at (runs_of t))) olens osets t.lens t.sets t.runs t.length
    alter_can olens osets l l' = (
      h.up,
      h.fits,
      can_edit h.laid h.room made (altered_runs (runs_of t) start end h.up fits_runs f) h.laid.small olens osets l l',
    )

    pub alter_done : (b : Bool) (lens sets : List ℕ) (n : ℕ) → Joined t.length (altered_at start end f (set_at (runs_of t))) (runs lens sets n)
        → Spare lens sets n → length lens ≡ 514 → length sets ≡ 514
        → gather (altered (runs_of t) start end f) < 2 ^ t.marks
        → Stepped (view_of b (total (altered (runs_of t) start end f)) (table_of t) (altered (runs_of t) start end f)) (table_of t) (gather (altered (runs_of t) start end f))
        (record { touched = b; length = t.length; runs = n; marks = t.marks; lens = lens; sets = sets; table = t.table })
    alter_done = over_runs h.laid h.room made (altered_runs (runs_of t) start end h.up fits_runs f) h.laid.small
