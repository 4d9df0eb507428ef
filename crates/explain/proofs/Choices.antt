-- What is told, by the tests that the code makes: one law for each way.
use mathlib.Core.Path.{◌≡◌, refl, sym, ap, ◌∙◌}
use mathlib.Core.Bool.{Bool, true, false, cond}
use mathlib.Core.List.{List, [], ◌∷◌, ◌++◌, map}
use Prim.Native.Nat.{ℕ, ◌-◌, ◌≤◌, ◌<◌}
use native.Mathlib.Omega.{arith}
use lib.Dec.{eqb, ltb}
use lib.ListN.{length, get_or}
use borrow.Author.Tests.{eq-eqb, ne_eqb, lt-ltb, le-ltb}
use Rattle.text.specs.Bytes.{bytes, same_of}
use Rattle.text.specs.Number.{decimal_text}
use Rattle.script.specs.declared.Call.{Call}
use Rattle.script.specs.declared.Holds.{Holds}
use Rattle.script.specs.Args.{number_at}
use Rattle.script.specs.Grammar.{Field, field_at}
use Rattle.script.specs.Reading.{after_name}
use Rattle.script.specs.Writing.{Puts}
use Rattle.script.proofs.PutLaws.{puts_as}
use Rattle.explain.specs.declared.Came.{Came}
use Rattle.explain.specs.Told.{tank_text, figures_of, wrong_number, wrong_text, came_of, end_of, byte_shown, line_shown}

-- ---- A tank, where the first field is one
module _ {d o : List ℕ} {at m r : ℕ} (call : Call) (name : List ℕ) (e : name ≡ (field_at call.row 0).name) where
  pub tank_here : same_of (bytes "tank=") name ≡ true → Puts d at (bytes " tank " ++ decimal_text (number_at call 0)) m r o → Puts d at (tank_text call) m r o
  tank_here t p = puts_as (sym (ap (λ (b : Bool). cond b (bytes " tank " ++ decimal_text (number_at call 0)) []) (ap (same_of (bytes "tank=")) (sym e) ∙ t))) p

  pub tank_none : same_of (bytes "tank=") name ≡ false → Puts d at [] m r o → Puts d at (tank_text call) m r o
  tank_none t p = puts_as (sym (ap (λ (b : Bool). cond b (bytes " tank " ++ decimal_text (number_at call 0)) []) (ap (same_of (bytes "tank=")) (sym e) ∙ t))) p

-- ---- A text that is no number
module _ (t : List ℕ) where
  pub no_text : length t ≡ 0 → Came.NoNumber ≡ wrong_number t
  no_text h = rw (eq-eqb (length t) 0 h)

  pub zero_first : (length t ≡ 0 → ⊥) → figures_of t ≡ true → get_or t 0 0 ≡ 48 → Came.Zero ≡ wrong_number t
  zero_first h f z = rw (ne_eqb (length t) 0 h, f, eq-eqb (get_or t 0 0) 48 z)

  pub no_zero : (length t ≡ 0 → ⊥) → figures_of t ≡ true → (get_or t 0 0 ≡ 48 → ⊥) → Came.Large ≡ wrong_number t
  no_zero h f z = rw (ne_eqb (length t) 0 h, f, ne_eqb (get_or t 0 0) 48 z)

  pub no_digits : (length t ≡ 0 → ⊥) → figures_of t ≡ false → Came.NoNumber ≡ wrong_number t
  no_digits h f = rw (ne_eqb (length t) 0 h, f)

  pub ended : length t ≡ 0 → Came.Ended ≡ end_of t
  ended h = rw (eq-eqb (length t) 0 h)

  pub cut : (length t ≡ 0 → ⊥) → Came.Cut ≡ end_of t
  cut h = rw (ne_eqb (length t) 0 h)

-- ---- A bad line
module _ (f : Field) (line : List ℕ) where
  pub too_long : 64 < length line → Came.Long ≡ came_of f line
  unfolding came_of
  too_long h = rw (lt-ltb 64 (length line) h)

  pub nothing_there : length line ≤ 64 → length line ≡ 0 → Came.Empty ≡ came_of f line
  unfolding came_of
  nothing_there h e = rw (le-ltb 64 (length line) h) (rw (eq-eqb (length line) 0 e))

  pub return_last : length line ≤ 64 → (length line ≡ 0 → ⊥) → get_or line (length line - 1) 0 ≡ 13 → Came.Return ≡ came_of f line
  unfolding came_of
  return_last h e k = rw (le-ltb 64 (length line) h) (rw (ne_eqb (length line) 0 e) (rw (eq-eqb (get_or line (length line - 1) 0) 13 k)))

  pub other_line : {came : Came} (h : Holds) → length line ≤ 64 → (length line ≡ 0 → ⊥) → (get_or line (length line - 1) 0 ≡ 13 → ⊥) → h ≡ f.holds → came ≡ after_name f Came.Other (wrong_text h) line → came ≡ came_of f line
  unfolding came_of
  other_line h few e k g is =
      is
      ∙ ap (λ (x : Holds). after_name f Came.Other (wrong_text x) line) g
      ∙ sym (ap (λ (b : Bool). cond b Came.Return (after_name f Came.Other (wrong_text f.holds) line)) (ne_eqb (get_or line (length line - 1) 0) 13 k))
      ∙ sym (ap (λ (b : Bool). cond b Came.Empty (cond (eqb (get_or line (length line - 1) 0) 13) Came.Return (after_name f Came.Other (wrong_text f.holds) line))) (ne_eqb (length line) 0 e))
      ∙ sym (ap (λ (b : Bool). cond b Came.Long (cond (eqb (length line) 0) Came.Empty (cond (eqb (get_or line (length line - 1) 0) 13) Came.Return (after_name f Came.Other (wrong_text f.holds) line)))) (le-ltb 64 (length line) few))

-- ---- The line that came
module _ {d o : List ℕ} {at m r : ℕ} (line : List ℕ) where
  pub none_shown : length line ≡ 0 → Puts d at [] m r o → Puts d at (line_shown line) m r o
  none_shown h p = puts_as (sym (ap (λ (b : Bool). cond b [] (bytes ": " ++ map byte_shown line)) (eq-eqb (length line) 0 h))) p

  pub line_shown_lem : (length line ≡ 0 → ⊥) → Puts d at (bytes ": " ++ map byte_shown line) m r o → Puts d at (line_shown line) m r o
  line_shown_lem h p = puts_as (sym (ap (λ (b : Bool). cond b [] (bytes ": " ++ map byte_shown line)) (ne_eqb (length line) 0 h))) p
