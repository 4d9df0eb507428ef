-- A mark of the table taken off a range: what the tank then means.
use Prim.Native.Nat.{ℕ, ◌-◌, ◌<◌, ◌^◌}
use mathlib.Core.Path.{◌≡◌, sym, ap, ◌∙◌}
use mathlib.Core.Bool.{◌&&◌}
use mathlib.Core.List.{List}
use native.Mathlib.Omega.{arith}
use lib.Bits.{bit_and}
use lib.Dec.{ltb, leb}
use lib.ListN.{length, get_or}
use Rattle.styles.specs.declared.Mark.{Mark}
use Rattle.styles.specs.Order.{id_of}
use Rattle.styles.specs.Marks.{Sorted, member, remove_mark, blank}
use Rattle.styles.specs.Bits.{pick, has_bit, with_bit, without_bit}
use Rattle.laws.proofs.Cases.{cond_by}
use Rattle.laws.proofs.Masks.{mask_bit}
use Rattle.styles.proofs.PickLaws.{pick_without}
use Rattle.styles.proofs.MaskLaws.{member_pick}
use Rattle.runs.specs.Runs.{runs, total, set_at, changing, Spare}
use Rattle.runs.specs.Edits.{Joined}
use Rattle.runs.specs.Positions.{altered_at}
use Rattle.runs.proofs.Copies.{altered}
use Rattle.runs.specs.Scan.{meets}
use Rattle.runs.proofs.EditLaws.{drop_is, at_altered, canon_altered}
use Rattle.runs.proofs.ScanLaws.{some_bit}
use Rattle.tank.specs.declared.Tank.{Tank}
use Rattle.tank.specs.Rules.{stripped}
use Rattle.tank.specs.State.{runs_of, table_of, view, Laid}
use Rattle.tank.specs.Steps.{CanStrip}
use Rattle.tank.proofs.Counted.{at_inside}
use Rattle.tank.proofs.LayLaws.{one_bit}
use Rattle.tank.proofs.Shape.{gather_small, view_sum}
use Rattle.tank.proofs.AlterLaws.{fits_runs, alter_done}
use Rattle.tank.proofs.Unique.{table_length}
use Rattle.tank.proofs.ViewLaws.{view_altered}

-- ---- one bit of a set
-- taken away
pub drops_bit : (i s : ℕ) → changing 0 (with_bit i 0) s ≡ without_bit i s
unfolding without_bit
drops_bit i s = drop_is (with_bit i 0) s ∙ ap (λ b. s - bit_and s b) (one_bit i)

-- tested
pub meets_bit : (i s : ℕ) → meets (with_bit i 0) s ≡ has_bit i s
meets_bit i s = ap (λ b. ltb 0 (bit_and s b)) (one_bit i) ∙ sym (some_bit (bit_and s (2 ^ i))) ∙ mask_bit i s

module _ (ms : List Mark) (i : ℕ) (sorted : Sorted ms) (there : i < length ms) where
  -- taking bit i off a set takes mark i off its marks
  pub drops_mark : (s : ℕ) → pick ms (changing 0 (with_bit i 0) s) ≡ remove_mark (id_of (get_or ms i blank)) (pick ms s)
  drops_mark s = ap (pick ms) (drops_bit i s) ∙ pick_without ms i blank s there sorted

  -- a set has bit i where its marks have mark i
  pub meets_mark : (s : ℕ) → meets (with_bit i 0) s ≡ member (id_of (get_or ms i blank)) (pick ms s)
  meets_mark s = meets_bit i s ∙ sym (member_pick ms i blank s there sorted)

module _ {t : Tank} (start end i : ℕ) (h : CanStrip t start end i) where
  -- no set has got larger
  at_small : (p : ℕ) → p < total (altered (runs_of t) start end (changing 0 (with_bit i 0)))
      → set_at (altered (runs_of t) start end (changing 0 (with_bit i 0))) p < 2 ^ t.marks
  at_small p k =
      let old = at_inside (runs_of t) t.marks p h.range.laid.inside in
      rw (at_altered (runs_of t) start end (changing 0 (with_bit i 0)) h.range.up (fits_runs h.range) p)
      (cond_by (λ x. x < 2 ^ t.marks) (leb start p && ltb p end) (omega (arith, drop_is (with_bit i 0) (set_at (runs_of t) p))) old)

  pub strip_done : (lens sets : List ℕ) (n : ℕ) → Joined t.length (altered_at start end (changing 0 (with_bit i 0)) (set_at (runs_of t))) (runs lens sets n)
      → Spare lens sets n
      → length lens ≡ 514 → length sets ≡ 514
      → let r : Tank = record { touched = t.touched; length = t.length; runs = n; marks = t.marks; lens = lens; sets = sets; table = t.table } in
      (Laid r) × (view r ≡ stripped (id_of (get_or (table_of t) i blank)) start end (view t))
  unfolding stripped
  strip_done lens sets n made sp l l' =
      let f = h.range.laid in
      let out = altered (runs_of t) start end (changing 0 (with_bit i 0)) in
      let s =
      alter_done h.range (changing 0 (with_bit i 0)) t.touched lens sets n made sp l l'
      (gather_small t.marks out (canon_altered (runs_of t) start end (changing 0 (with_bit i 0))) at_small)
      in (
        s.laid,
        s.is
            ∙ view_altered (runs_of t) start end (changing 0 (with_bit i 0)) h.range.up (fits_runs h.range) (table_of t) (remove_mark (id_of (get_or (table_of t) i blank))) t.touched
            (drops_mark (table_of t) i f.sorted (let q = h.there in omega (arith, table_length f)))
            ∙ ap (stripped (id_of (get_or (table_of t) i blank)) start end) (view_sum f),
      )
