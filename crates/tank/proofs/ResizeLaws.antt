-- An insertion between two positions of one run, and a deletion of some of its positions but not all: the tank with another length for that run
-- is what the edit leaves. No mark comes or goes.
use Prim.Native.Nat.{ℕ, ◌+◌, ◌-◌, ◌≤◌, ◌<◌, ◌^◌}
use mathlib.Core.Path.{◌≡◌, refl, ap₂, ◌∙◌}
use mathlib.Core.Bool.{true, false, true≢false}
use native.Mathlib.Omega.{arith}
use lib.Bits.{bit_and, and_le_r}
use lib.ListN.{get_or, set, length, length-set}
use Rattle.styles.specs.declared.Party.{Party}
use Rattle.styles.specs.declared.Styles.{Styles}
use Rattle.styles.specs.Answers.{styles_of}
use Rattle.styles.specs.Bits.{pick}
use Rattle.styles.specs.Marks.{of_party}
use Rattle.runs.specs.Edits.{Joined}
use Rattle.runs.specs.Positions.{deleted_at, inserted_at}
use Rattle.runs.specs.Runs.{runs, total, set_at}
use Rattle.runs.specs.Scan.{common_at}
use Rattle.runs.specs.Gather.{gather}
use Rattle.runs.proofs.GatherLaws.{set_within}
use Rattle.runs.proofs.Laws.{total_more}
use Rattle.runs.proofs.ScanLaws.{at_run, common_inside}
use Rattle.runs.proofs.ResizeLaws.{resized_gather, resized_spare, run_some, run_common, run_inserted, run_deleted}
use Rattle.tank.specs.declared.Tank.{Tank}
use Rattle.tank.specs.Rules.{deleting, is_lab, largest}
use Rattle.tank.specs.State.{runs_of, table_of, Sound, Called}
use Rattle.tank.proofs.CutLaws.{cut_done}
use Rattle.tank.proofs.DeleteLaws.{can_cut, delete_done}
use Rattle.tank.proofs.GrowLaws.{grow_done}
use Rattle.tank.proofs.InsertLaws.{Gives, can_grow, insert_done}

-- the tank with l positions, of which run i has v
abbrev pub resized_tank : Tank → ℕ → ℕ → ℕ → Tank
resized_tank t i v l = record {
  touched = true;
  length = l;
  runs = t.runs;
  marks = t.marks;
  lens = set t.lens i v;
  sets = t.sets;
  table = t.table;
}

module _ {t : Tank} (s : Sound t) (i : ℕ) (there : i < t.runs) where
  within : t.runs ≤ length t.lens
  within = let a = s.formed.laid.most in let b = s.formed.laid.lens_514 in omega arith

  -- a run's set is one of the table's marks
  pub run_inside : get_or t.sets i 0 < 2 ^ t.marks
  run_inside =
      let begins = total (runs t.lens t.sets i) in
      let canon = s.formed.laid.canon in
      let is = at_run t.lens t.sets t.runs i begins there (omega arith) (omega (arith, run_some t.lens t.sets t.runs i canon there within)) in
      let x = set_at (runs_of t) begins in
      omega (arith, is, set_within (runs_of t) begins, and_le_r x (gather (runs_of t)), s.formed.laid.inside)

  -- what two of its positions have in common
  pub common_within : (pos : ℕ) → total (runs t.lens t.sets i) < pos → pos < total (runs t.lens t.sets i) + get_or t.lens i 0 → get_or t.sets i 0 ≡ common_at (runs_of t) pos
  common_within pos after before = run_common t.lens t.sets t.runs i s.formed.laid.canon there within pos after before

  -- and what its last and the next run's first have
  pub common_border : (pos : ℕ) → i + 1 < t.runs → pos ≡ total (runs t.lens t.sets i) + get_or t.lens i 0 → common_at (runs_of t) pos ≡ bit_and (get_or t.sets i 0) (get_or t.sets (i + 1) 0)
  common_border pos h e =
      let canon = s.formed.laid.canon in
      let m = total_more t.lens t.sets i in
      let a = run_some t.lens t.sets t.runs i canon there within in
      let b = run_some t.lens t.sets t.runs (i + 1) canon h within in
      let x = at_run t.lens t.sets t.runs i (pos - 1) there (omega arith) (omega arith) in
      let y = at_run t.lens t.sets t.runs (i + 1) pos h (omega arith) (omega arith) in
      common_inside (runs_of t) pos (λ z. omega arith) ∙ ap₂ bit_and x y

module _ {t : Tank} (s : Sound t) (i : ℕ) (there : i < t.runs) (who : Party) (plant : is_lab who ≡ false) (e : t.touched ≡ true) where
  -- where run i begins, and how many positions it has
  abbrev begins : ℕ
  begins = total (runs t.lens t.sets i)

  abbrev long : ℕ
  long = get_or t.lens i 0

  fit : t.runs ≤ length t.lens
  fit = within s i there

  module _ (pos len : ℕ) (some : len ≡ 0 → ⊥) (fits : pos ≤ t.length) (room : len ≤ largest - t.length) (after : begins ≤ pos) (before : pos ≤ begins + long) (common : get_or t.sets i 0 ≡ common_at (runs_of t) pos) where
    joined : Joined (t.length + len) (inserted_at pos len (get_or t.sets i 0) (set_at (runs_of t))) (runs (set t.lens i (long + len)) t.sets t.runs)
    joined = rw s.formed.laid.sum (run_inserted t.lens t.sets t.runs i s.formed.laid.canon there fit pos len (omega arith) (omega arith))

    pub insert_within : {styles : Styles} → styles ≡ styles_of (of_party who (pick (table_of t) (get_or t.sets i 0)))
        → Gives t who pos len (record { number = 0; styles = styles; tank = resized_tank t i (long + len) (t.length + len) })
    insert_within g =
        insert_done s who plant pos len some fits e room (get_or t.sets i 0) common g
        (grow_done pos len (get_or t.sets i 0) (can_grow s who plant pos len some fits e room (get_or t.sets i 0) common) (set t.lens i (long + len)) t.sets t.runs joined
        (resized_spare t.lens t.sets i (long + len) t.runs there s.formed.laid.spare)
        (length-set t.lens i (long + len) ∙ s.formed.laid.lens_514) s.formed.laid.sets_514)

  module _ (a b : ℕ) (up : a < b) (fits : b ≤ t.length) (after : begins ≤ a) (before : b ≤ begins + long) (left : b - a < long) where
    cut : Joined (t.length - (b - a)) (deleted_at a b (set_at (runs_of t))) (runs (set t.lens i (long - (b - a))) t.sets t.runs)
    cut = rw s.formed.laid.sum (run_deleted t.lens t.sets t.runs i s.formed.laid.canon there fit a b after (omega arith) before left)

    pub delete_within : Called (deleting who a b) t 0 (resized_tank t i (long - (b - a)) (t.length - (b - a)))
    delete_within =
        let d =
        cut_done a b (can_cut s who plant a b up fits e) (set t.lens i (long - (b - a))) t.sets t.runs cut
        (resized_spare t.lens t.sets i (long - (b - a)) t.runs there s.formed.laid.spare)
        (length-set t.lens i (long - (b - a)) ∙ s.formed.laid.lens_514) s.formed.laid.sets_514 in
        delete_done s who plant a b up fits e d
        (record {
          formed =
              record {
                laid = d.0;
                whole = resized_gather t.lens t.sets i (long - (b - a)) t.runs ∙ s.formed.whole;
                fresh = λ q. absurd (true≢false q);
              };
          is = refl;
        })
