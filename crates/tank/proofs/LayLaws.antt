-- A mark of the table laid on a range: what the tank then means.
use Prim.Native.Nat.{ℕ, ◌%◌, ◌<◌, ◌^◌}
use mathlib.Core.Path.{◌≡◌, ap, ◌∙◌}
use mathlib.Core.Bool.{true}
use mathlib.Core.List.{List}
use native.Mathlib.Omega.{arith}
use lib.Bits.{bit_or, or_lt, or_zero_l}
use lib.ListN.{length, get_or}
use lib.Pow.{pow-lt}
use Rattle.styles.specs.declared.Mark.{Mark}
use Rattle.styles.specs.Marks.{Sorted, insert_mark, blank}
use Rattle.styles.specs.Bits.{pick, with_bit}
use Rattle.styles.proofs.BitLaws.{with_bit_fits}
use Rattle.styles.proofs.PickLaws.{pick_with}
use Rattle.runs.specs.Runs.{runs, set_at, Spare}
use Rattle.runs.specs.Edits.{Joined}
use Rattle.runs.specs.Positions.{altered_at}
use Rattle.runs.proofs.Copies.{adding, altered}
use Rattle.runs.specs.Gather.{gather}
use Rattle.runs.proofs.EditLaws.{add_is}
use Rattle.runs.proofs.GatherLaws.{gather_altered}
use Rattle.tank.specs.declared.Tank.{Tank}
use Rattle.tank.specs.Rules.{after_annotate}
use Rattle.tank.specs.State.{runs_of, table_of, view}
use Rattle.tank.specs.Steps.{Stepped, CanLay}
use Rattle.tank.proofs.Shape.{view_sum, stepped}
use Rattle.tank.proofs.AlterLaws.{fits_runs, alter_done}
use Rattle.tank.proofs.Unique.{table_length}
use Rattle.tank.proofs.ViewLaws.{view_altered}

pub one_bit : (i : ℕ) → with_bit i 0 ≡ 2 ^ i
unfolding with_bit
one_bit i = or_zero_l (2 ^ i)

-- a mark is one of 64, so its bit fits
pub bit_is : {b : ℕ} (i : ℕ) → i < 64 → b ≡ with_bit i 0 % 2 ^ 64 → b ≡ with_bit i 0
bit_is i h e = e ∙ with_bit_fits i 0 h (omega arith)

-- adding bit i to a set adds mark i to its marks
pub adds_mark : (ms : List Mark) (i : ℕ) → Sorted ms → i < length ms → (s : ℕ) → pick ms (adding (with_bit i 0) s) ≡ insert_mark (get_or ms i blank) (pick ms s)
unfolding with_bit
adds_mark ms i sorted h s = ap (pick ms) (add_is (with_bit i 0) s ∙ ap (bit_or s) (one_bit i)) ∙ pick_with ms i blank s h sorted

module _ {t : Tank} (start end i : ℕ) (h : CanLay t start end i) where
  pub lay_done : (lens sets : List ℕ) (n : ℕ) → Joined t.length (altered_at start end (adding (with_bit i 0)) (set_at (runs_of t))) (runs lens sets n)
      → Spare lens sets n
      → length lens ≡ 514 → length sets ≡ 514
      → Stepped (after_annotate start end (get_or (table_of t) i blank) (view t)) (table_of t) (bit_or (gather (runs_of t)) (2 ^ i))
      (record { touched = true; length = t.length; runs = n; marks = t.marks; lens = lens; sets = sets; table = t.table })
  unfolding after_annotate
  lay_done lens sets n made sp l l' =
      let f = h.range.laid in
      let up = h.range.up in
      let fits = fits_runs h.range in
      let g : gather (altered (runs_of t) start end (adding (with_bit i 0))) ≡ bit_or (gather (runs_of t)) (2 ^ i) =
      gather_altered (runs_of t) start end (with_bit i 0) f.canon h.some fits ∙ ap (bit_or (gather (runs_of t))) (one_bit i)
      in
      stepped
      (alter_done h.range (adding (with_bit i 0)) true lens sets n made sp l l'
      (rw g (or_lt t.marks (gather (runs_of t)) (2 ^ i) f.inside (pow-lt h.there))))
      (view_altered (runs_of t) start end (adding (with_bit i 0)) up fits (table_of t) (insert_mark (get_or (table_of t) i blank)) true
      (adds_mark (table_of t) i f.sorted (let q = h.there in omega (arith, table_length f)))
      ∙ ap (after_annotate start end (get_or (table_of t) i blank)) (view_sum f))
      g
