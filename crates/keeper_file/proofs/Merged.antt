-- Logs one after another: what each step of a merge hands back; and that a merge, however its logs were cut into reads, keeps all of them or
-- nothing.
use mathlib.Core.Path.{◌≡◌, sym, ap, ◌∙◌}
use mathlib.Core.Bool.{true, false}
use mathlib.Core.List.{List}
use Prim.Native.Nat.{ℕ}
use native.Mathlib.Omega.{arith}
use Rattle.script.specs.Lines.{counted_of}
use Rattle.tanks.specs.declared.Tanks.{Tanks}
use Rattle.tanks.specs.Pool as pool
use Rattle.day_log.specs.declared.Log.{Log}
use Rattle.day_log.specs.declared.Stop.{Stop}
use Rattle.day_log.specs.declared.Taken.{Taken}
use Rattle.day_log.specs.Log as logs
use Rattle.day_log.specs.Log.{Course, going, fresh, at_end, course_of, Takes}
use Rattle.day_log.proofs.Cuts.{taken_course}
use Rattle.day_log.proofs.Tidy.{log_of}
use Rattle.keeper_file.specs.declared.Merge.{Merge}
use Rattle.keeper_file.specs.declared.Renewed.{Renewed}
use Rattle.keeper_file.specs.File.{further_by, Renews}
use Rattle.keeper_file.specs.Merging.{set_out, poured_on, ended_with, log_over, standing_of, Sound, Stands, nothing_new, Settles}

-- ---- One step
pub begun_stands : (s : Tanks) (l : Log) → pool.Sound s → (l ≡ fresh) × logs.Sound l → Stands (record { tanks = s; log = l; logs = 0; edits = 0 }) (set_out (pool.meaning s))
begun_stands s l h e =
    record {
      sound = record { tanks = h; log = e.1 };
      is = ap (λ (k : Log). record { course = course_of s k; logs = 0; edits = 0 }) e.0;
    }

pub poured_stands : (m : Merge) (bytes : List ℕ) (t : Taken) → Takes m.tanks m.log bytes t → Stands (record { tanks = t.tanks; log = t.log; logs = m.logs; edits = m.edits }) (poured_on (standing_of m) bytes)
poured_stands m bytes t k =
    record {
      sound = record { tanks = k.tanks_sound; log = k.log_sound };
      is = ap (λ (x : Course). record { course = x; logs = m.logs; edits = m.edits }) (taken_course k);
    }

module _ (m : Merge) (h : Sound m) (last : Log) (e : (last ≡ at_end m.log) × logs.Sound last) where
  -- the log that is over is the merge's own
  over_is : log_over (standing_of m) ≡ ended_with (standing_of m) last
  unfolding log_over
  over_is =
      ap (λ (l : Log). ended_with (standing_of m) (at_end l)) (sym (log_of (pool.meaning m.tanks) m.log h.log))
      ∙ ap (ended_with (standing_of m)) (sym e.0)

  -- it stopped
  pub over_stopped : going last.stop ≡ false → Stands (record { tanks = m.tanks; log = last; logs = m.logs; edits = m.edits }) (log_over (standing_of m))
  over_stopped g = record { sound = record { tanks = h.tanks; log = e.1 }; is = sym (over_is ∙ rw g) }

  -- it ended well
  pub over_well : (next : Log) (n k : ℕ) → last.stop ≡ Stop.Going → (next ≡ fresh) × logs.Sound next → n ≡ counted_of m.logs → k ≡ further_by m.edits last.edits
      → Stands (record { tanks = m.tanks; log = next; logs = n; edits = k }) (log_over (standing_of m))
  over_well next n k g f a b =
      let z : going last.stop ≡ true = ap going g in
      record {
        sound = record { tanks = h.tanks; log = f.1 };
        is = (λ i. record { course = course_of m.tanks (f.0 i); logs = a i; edits = b i }) ∙ sym (over_is ∙ rw z);
      }

-- ---- What is to be written
module _ (m : Merge) (place : ℕ) (kept buffer : List ℕ) (r : Renewed) (out : List ℕ) where
  pub settled_none : going m.log.stop ≡ false → r ≡ nothing_new → out ≡ buffer → Settles (standing_of m) place kept buffer r out
  settled_none g e f = record { all = λ k. let z : true ≡ false = cc in let y : ◌≡◌ {A = ℕ} 0 1 = cc in absurd (omega arith); none = λ k. (e, f) }

  pub settled_all : m.log.stop ≡ Stop.Going → Renews place (pool.meaning m.tanks) kept buffer r out → Settles (standing_of m) place kept buffer r out
  settled_all g e = record { all = λ k. e; none = λ k. let z : true ≡ false = sym (ap going g) ∙ k in let y : ◌≡◌ {A = ℕ} 0 1 = cc in absurd (omega arith) }
