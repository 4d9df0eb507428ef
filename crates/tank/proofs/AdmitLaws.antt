-- A new mark in the table, and a bit opened for it in every set: the tank means what it meant.
use Prim.Native.Nat.{ℕ, zero, suc, ◌+◌, ◌≤◌, ◌<◌, ◌^◌}
use mathlib.Core.Path.{◌≡◌, sym, ap, ◌∙◌}
use mathlib.Core.Bool.{false}
use mathlib.Core.List.{List, [], ◌∷◌}
use native.Mathlib.Omega.{arith}
use native.Mathlib.Numerals.{add-one}
use lib.ListN.{length, get_or, take, drop, length-take, length-drop}
use lib.Pow.{pow_mono}
use Rattle.styles.specs.declared.Mark.{Mark}
use Rattle.styles.specs.Order.{id_of}
use Rattle.styles.specs.Values.{value_nan}
use Rattle.styles.specs.Marks.{insert_at, table_with, blank}
use Rattle.styles.specs.Bits.{open_bit}
use Rattle.styles.proofs.PickLaws.{pick_open}
use Rattle.styles.proofs.TableLaws.{place_le, sorted_put, length_put, with_front, with_rest}
use Rattle.styles.proofs.UnionLaws.{open_within, open_none}
use Rattle.runs.specs.Runs.{runs, total, set_at}
use Rattle.runs.specs.Gather.{gather, Renumbered, CanOpen}
use Rattle.runs.proofs.BehindLaws.{get_d_behind}
use Rattle.runs.proofs.MapLaws.{map_runs, total_map, renumber_runs, renumber_spare, all_sets_at}
use Rattle.runs.proofs.RenumberLaws.{canon_open, gather_open, sets_less}
use Rattle.tank.specs.declared.Tank.{Tank}
use Rattle.tank.specs.State.{runs_of, table_of, view, Numbers}
use Rattle.tank.specs.Steps.{Stepped, CanAdmit}
use Rattle.tank.proofs.CrowdLaws.{roomy_put}
use Rattle.tank.proofs.Unique.{table_length}
use Rattle.tank.proofs.ViewLaws.{view_renumbered}

numbers_put : (i : ℕ) (m : Mark) (ms : List Mark) → i ≤ length ms → value_nan m.value ≡ false → Numbers ms → Numbers (insert_at i m ms)
unfolding insert_at Numbers
numbers_put zero m ms h v n = (v, n)
numbers_put (suc i) m [] h v n = absurd (omega arith)
numbers_put (suc i) m (x ∷ xs) h v n = (n.0, numbers_put i m xs (omega arith) v n.1)

module _ {t : Tank} (i : ℕ) (m : Mark) (h : CanAdmit t i m) where
  pub place_fits : i ≤ t.marks
  place_fits =
      let a = h.place in
      omega (arith, place_le (id_of m) (table_of t), table_length h.laid)

  pub can_open : CanOpen t.sets t.runs
  can_open =
      let f = h.laid in
      let a = h.few in
      let b = f.most in
      let c = f.sets_514 in
      record {
        count = omega arith;
        small =
            λ j k.
            all_sets_at (λ s. s < 2 ^ 63) t.lens t.sets t.runs
            (sets_less 63 (runs_of t) (let d = f.inside in omega (arith, pow_mono {i = t.marks} {j = 63} (omega arith)))) j k;
      }

  module _ (sets : List ℕ) (table : List Mark) (opened : Renumbered (λ s r. r ≡ open_bit i s) t.runs t.sets sets)
      (made : table ≡ table_with t.marks i m t.table) where
    long : t.marks ≤ length t.table
    long = let a = h.few in let b = h.laid.table_64 in omega arith

    front : take (t.marks + 1) table ≡ insert_at i m (table_of t)
    front = ap (take (t.marks + 1)) made ∙ with_front t.marks i m t.table place_fits h.few long

    rest : drop (t.marks + 1) table ≡ drop (t.marks + 1) t.table
    rest = ap (drop (t.marks + 1)) made ∙ with_rest t.marks i m t.table place_fits h.few long

    runs_are_lem : runs t.lens sets t.runs ≡ map_runs (open_bit i) (runs_of t)
    runs_are_lem = renumber_runs _ (open_bit i) (λ s r e. e) t.lens opened

    table_64 : length table ≡ 64
    table_64 =
        let a = h.few in
        let b = h.laid.table_64 in
        omega (
          arith,
          ap length front,
          ap length rest,
          length-take (t.marks + 1) table,
          length-drop (t.marks + 1) table,
          length-drop (t.marks + 1) t.table,
          length_put i m (table_of t) (omega (arith, place_fits, table_length h.laid)),
          table_length h.laid,
        )

    blanks : (k : ℕ) → t.marks + 1 ≤ k → get_or table k blank ≡ blank
    blanks k g = get_d_behind blank (t.marks + 1) k t.table table g rest ∙ h.laid.blanks k (omega arith)

    pub admit_done : Stepped (view t) (insert_at i m (table_of t)) (open_bit i (gather (runs_of t)))
        (record { touched = t.touched; length = t.length; runs = t.runs; marks = t.marks + 1; lens = t.lens; sets = sets; table = table })
    unfolding view
    admit_done =
        let f = h.laid in
        let a = h.few in
        let g : gather (runs t.lens sets t.runs) ≡ open_bit i (gather (runs_of t)) = ap gather runs_are_lem ∙ gather_open i (runs_of t) in
        record {
          laid =
              record {
                most = f.most;
                canon = rw runs_are_lem (canon_open i (runs_of t) f.canon);
                sum = f.sum ∙ sym (ap total runs_are_lem ∙ total_map (open_bit i) (runs_of t));
                small = f.small;
                spare = renumber_spare t.lens opened f.spare;
                lens_514 = f.lens_514;
                sets_514 = opened.kept ∙ f.sets_514;
                few = omega arith;
                table_64 = table_64;
                sorted = rw (front, h.place) (sorted_put m (table_of t) f.sorted h.new);
                numbers = rw front (numbers_put i m (table_of t) (omega (arith, place_fits, table_length f)) h.number f.numbers);
                roomy = rw (front, h.place) (roomy_put m (table_of t) h.new h.room);
                blanks = blanks;
                inside = rw (g, add-one t.marks) (open_within t.marks i (gather (runs_of t)) f.inside);
              };
          is = view_renumbered t.touched t.length (table_of t) (runs_of t) (open_bit i) (open_none i) front runs_are_lem (λ p. pick_open i m (table_of t) (set_at (runs_of t) p));
          table_is = front;
          all_is = g;
        }
