-- A refusal leaves all lent bytes as they were, whatever it is and wherever it comes from.
use mathlib.Core.Path.{◌≡◌, refl, ap, ◌∙◌}
use mathlib.Core.Bool.{Bool, true, false, cond}
use mathlib.Core.List.{List, []}
use Prim.Native.Nat.{ℕ, min}
use lib.Dec.{eqb, ltb}
use lib.ListN.{length}
use Rattle.runs.specs.Stretches.{in_front}
use Rattle.tanks.specs.declared.Setting.{Setting}
use Rattle.tanks.specs.House.{House, open_number, opening}
use Rattle.text_lines.specs.Lines.{Got, bad, got}
use Rattle.settings_text.specs.Text.{settings_of}
use Rattle.saved.specs.Saying.{Said, newest, saying, house_in}
use Rattle.saved.specs.Writes.{write_number}
use Rattle.door.specs.Door.{Result, wrong, right, if_fits, begun_by, begun, most_answers, handed, run_from, bad_line, answers_of, house_after, on_text, run, fed_on, FeedsFrom, FeedsBy, Begins, RunsScript, FeedsLog}

-- beside a number there is nothing to write
pub record Leaves (r : Result) : Type 0 where
  pub text : (r.number ≡ 0 → ⊥) → r.text ≡ []
  pub answers : (r.number ≡ 0 → ⊥) → r.answers ≡ []

wrong_leaves : (number line : ℕ) → Leaves (wrong number line)
wrong_leaves number line = record { text = λ h. refl; answers = λ h. refl }

right_leaves : (h : House) (t : List ℕ) → Leaves (right h t)
right_leaves h t = record { text = λ k. absurd (k refl); answers = λ k. absurd (k refl) }

either : (b : Bool) (r q : Result) → Leaves r → Leaves q → Leaves (cond b r q)
either true r q x y = x
either false r q x y = y

fits_leaves : (room : ℕ) (h : House) (r : Result) → Leaves r → Leaves (if_fits room h r)
fits_leaves room h r x = either (eqb (write_number room h) 0) r (wrong 11 0) x (wrong_leaves 11 0)

begun_leaves : (g : Got (List Setting)) (room : ℕ) → Leaves (begun_by g room)
unfolding begun_by
begun_leaves (bad n) room = wrong_leaves 12 n
begun_leaves (got st n rest) room = either (eqb (open_number st) 0) (if_fits room (opening st) (right (opening st) [])) (wrong 2 0) (fits_leaves room (opening st) (right (opening st) []) (right_leaves (opening st) [])) (wrong_leaves 2 0)

handed_leaves : (h : House) (a b : ℕ) (t : List ℕ) → Leaves (handed h a b t)
unfolding handed
handed_leaves h a b t = either (ltb (min b most_answers) (length t)) (wrong 11 0) (if_fits a h (right h t)) (wrong_leaves 11 0) (fits_leaves a h (right h t) (right_leaves h t))

from_leaves : (h : House) (script : List ℕ) (a b : ℕ) → Leaves (run_from h script a b)
unfolding run_from
from_leaves h script a b =
    either (ltb 0 (bad_line h script)) (wrong 64 (bad_line h script)) (handed (house_after h script) a b (answers_of h script)) (wrong_leaves 64 (bad_line h script)) (handed_leaves (house_after h script) a b (answers_of h script))

run_leaves : (g : Got Said) (script : List ℕ) (a b : ℕ) → Leaves (on_text g λ h. run_from h script a b)
run_leaves (bad n) script a b = wrong_leaves 13 n
run_leaves (got s n rest) script a b = from_leaves (house_in s) script a b

-- ---- Of the functions
-- a refused begin
pub begin_refused : {settings next out report : List ℕ} {number : ℕ} → Begins settings next number out report → (number ≡ 0 → ⊥) → out ≡ next
begin_refused {settings} {next} x no' =
    x.text ∙ ap (λ (t : List ℕ). in_front t next) ((begun_leaves (settings_of settings) (length next)).text λ e. no' (x.tells.0 ∙ e))

-- a refused run
pub run_refused : {saved script next lent out said report : List ℕ} {number : ℕ} → RunsScript saved script next lent number out said report → (number ≡ 0 → ⊥) → (out ≡ next) × (said ≡ lent)
run_refused {saved} {script} {next} {lent} x no' =
    let l = run_leaves (saying newest saved) script (length next) (length lent) in (
      x.text ∙ ap (λ (t : List ℕ). in_front t next) (l.text λ e. no' (x.tells.0 ∙ e)),
      x.answers ∙ ap (λ (t : List ℕ). in_front t lent) (l.answers λ e. no' (x.tells.0 ∙ e)),
    )
