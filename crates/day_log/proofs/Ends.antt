-- What the end of a log hands back, by where it stands.
use mathlib.Core.Path.{◌≡◌, refl, sym, ap, subst, ◌∙◌}
use mathlib.Core.Bool.{Bool, false, cond}
use Prim.Native.Nat.{ℕ}
use Rattle.script.specs.declared.Ending.{Ending}
use Rattle.script.specs.Lines.{state_of, counted_of, ending_of}
use Rattle.day_log.specs.declared.Log.{Log}
use Rattle.day_log.specs.declared.Stop.{Stop}
use Rattle.day_log.specs.Log.{going, stopped_log, ended_as, at_end, Sound}
use Rattle.day_log.proofs.Tidy.{tidy_empty}

pub sound_stopped : {l : Log} (edits line number : ℕ) → l ≡ stopped_log edits line number → Sound l
sound_stopped edits line number e = subst Sound (sym e) (record { op = refl; tidy = tidy_empty })

module _ (l : Log) (h : Sound l) where
  -- it had stopped
  pub end_stopped : going l.stop ≡ false → (l ≡ at_end l) × Sound l
  unfolding at_end
  end_stopped g = (sym (ap (λ (b : Bool). cond b (ended_as (ending_of (state_of l.reader)) l) l) g), h)

  module _ (g : l.stop ≡ Stop.Going) where
    ends_as : (e : Ending) → ending_of (state_of l.reader) ≡ e → ended_as e l ≡ at_end l
    unfolding at_end
    ends_as e f = sym (ap (λ (b : Bool). cond b (ended_as (ending_of (state_of l.reader)) l) l) (ap going g) ∙ ap (λ (k : Ending). ended_as k l) f)

    -- it ends between two groups
    pub end_clean : ending_of (state_of l.reader) ≡ Ending.Clean → (l ≡ at_end l) × Sound l
    end_clean f = (ends_as Ending.Clean f, h)

    -- it ends in the middle of one
    pub end_cut : {r : Log} (line : ℕ) → ending_of (state_of l.reader) ≡ Ending.Cut → line ≡ counted_of l.reader.newlines → r ≡ stopped_log l.edits line 13 → (r ≡ at_end l) × Sound r
    end_cut line f k e = (e ∙ ap (λ (n : ℕ). stopped_log l.edits n 13) k ∙ ends_as Ending.Cut f, sound_stopped l.edits line 13 e)
