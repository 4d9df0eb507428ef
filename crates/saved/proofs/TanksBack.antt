-- The text of a tank that keeps the rules is accepted, and says that tank; so is the text of eight.
use mathlib.Core.Path.{◌≡◌, refl, sym, ap, ◌∙◌}
use mathlib.Core.Bool.{Bool, true, false}
use mathlib.Core.List.{List, [], ◌∷◌, ◌++◌, append_assoc, append-nil, map}
use Prim.Native.Nat.{ℕ, suc, ◌+◌, ◌-◌, ◌*◌, ◌^◌, ◌≤◌, ◌<◌}
use native.Mathlib.Omega.{arith}
use native.Mathlib.Nat.{pow-le-pow_right}
use lib.Dec.{eqb}
use lib.ListN.{length, length-append}
use borrow.Author.Tests.{eq-eqb, le-leb}
use Rattle.text.specs.Bytes.{bytes, holds}
use Rattle.text_lines.specs.Lines.{Got, got, then, number_line, number_text}
use Rattle.text_lines.proofs.Laws.{number_back}
use Rattle.runs.specs.Runs.{Run, total, Canon}
use Rattle.runs.specs.Gather.{gather}
use Rattle.styles.specs.declared.Mark.{Mark}
use Rattle.tanks.specs.declared.Setting.{Setting}
use Rattle.tanks.specs.Settings.{limit_of}
use Rattle.saved.specs.Saved.{Saved, flag_of, marks_text, runs_text, tank_text, tanks_text}
use Rattle.saved.specs.Saying.{least_length, most_length, most_marks, least_runs, most_runs, claimed, adds_up, adds, runs_lines, tank_lines, tanks_lines}
use Rattle.saved.proofs.RunLines.{SetsWithin, runs_back}
use Rattle.saved.proofs.MarksBack.{AllFit, Back, marks_back}
use Rattle.saved.proofs.TankLines.{j1, j2, j3, j4, j5, j6, j7, Keeps, AllKeep, true_roomy}

-- ---- the bounds that a kept tank is within
pub record Fits (st : List Setting) (i b l k j : ℕ) : Type 0 where
  pub flag : b ≤ 1
  pub length_low : least_length b ≤ l
  pub length_high : l ≤ most_length b
  pub marks_high : k ≤ most_marks b
  pub runs_low : least_runs b ≤ j
  pub runs_high : j ≤ most_runs b (limit_of st i)

fits_by : {v : ℕ} {st : List Setting} {held : List ℕ} {i : ℕ} {s : Saved} → Keeps v st held i s → (b : Bool) → s.touched ≡ b → Fits st i (flag_of b) s.length (length s.marks) (length s.runs)
fits_by k true e = record { flag = omega arith; length_low = omega arith; length_high = k.small; marks_high = k.few; runs_low = omega arith; runs_high = k.limit e }
fits_by k false e =
    let f = k.fresh e in
    record { flag = omega arith; length_low = omega (arith, f.0); length_high = omega (arith, f.0); marks_high = omega (arith, f.1); runs_low = omega (arith, f.2); runs_high = omega (arith, f.2) }

flag_same : (b : Bool) → eqb (flag_of b) 1 ≡ b
flag_same true = refl
flag_same false = refl

adds_back : {v : ℕ} {st : List Setting} {held : List ℕ} {i : ℕ} {s : Saved} → Keeps v st held i s → adds st held s.length s.marks s.runs ≡ true
unfolding adds adds_up
adds_back {v} {st} {held} {i} {s} k =
    rw (eq-eqb (total s.runs) s.length k.sum)
    (rw (eq-eqb (gather s.runs) (2 ^ length s.marks - 1) k.whole)
    (rw (true_roomy s.marks k.roomy)
    (le-leb (claimed st (held ++ length s.runs ∷ [])) 512 k.pool)))

-- ---- names
tank_free : holds 10 (bytes "tank=") ≡ false
unfolding holds
tank_free = refl

touched_free : holds 10 (bytes "touched=") ≡ false
unfolding holds
touched_free = refl

length_free : holds 10 (bytes "length=") ≡ false
unfolding holds
length_free = refl

marks_free : holds 10 (bytes "marks=") ≡ false
unfolding holds
marks_free = refl

runs_free : holds 10 (bytes "runs=") ≡ false
unfolding holds
runs_free = refl

seven_apart : (a b c d e f g r : List ℕ) → (a ++ b ++ c ++ d ++ e ++ f ++ g) ++ r ≡ a ++ (b ++ (c ++ (d ++ (e ++ (f ++ (g ++ r))))))
seven_apart a b c d e f g r = simp append_assoc

small_power : (k : ℕ) → k ≤ 64 → 2 ^ k - 1 < 2 ^ 64
small_power k h = omega (arith, pow-le-pow_right {n = 2} (omega arith) {i = k} {j = 64} h)

-- the runs' part, behind the marks
runs_all : (rs : List Run) (most n : ℕ) (rest : List ℕ) → most < 2 ^ 64 → Canon rs → SetsWithin most rs → runs_lines most [] (length rs) n (runs_text rs ++ rest) ≡ got rs (n + 2 * length rs) rest
unfolding runs_lines
runs_all rs most n rest d c w =
    let e : length rs ≡ length rs + 0 = omega arith in
    ap (λ (k : ℕ). runs_lines most [] k n (runs_text rs ++ rest)) e ∙ runs_back rs 0 most n rest d c w

module _ (v : ℕ) (st : List Setting) (held : List ℕ) (i : ℕ) (s : Saved) (keeps : Keeps v st held i s) (fit : AllFit s.marks) (few : length s.runs < 2 ^ 64) (small : i < 2 ^ 64) where
  b : ℕ
  b = flag_of s.touched

  bounds : Fits st i (flag_of s.touched) s.length (length s.marks) (length s.runs)
  bounds = fits_by keeps s.touched refl

  -- the last lines: runs and the tests at the end
  tail_back : (m : ℕ) (rest : List ℕ)
      → j6 st held (flag_of s.touched) s.length (length s.marks) s.marks (length s.runs) m (runs_text s.runs ++ rest) ≡ got s (m + 2 * length s.runs) rest
  tail_back m rest =
      ap (λ (g : Got (List Run)). then g (j7 st held (flag_of s.touched) s.length s.marks)) (runs_all s.runs (2 ^ length s.marks - 1) m rest (small_power (length s.marks) keeps.few) keeps.canon keeps.within)
      ∙ rw (adds_back keeps) (ap (λ (t : Bool). got (record { touched = t; length = s.length; marks = s.marks; runs = s.runs }) (m + 2 * length s.runs) rest) (flag_same s.touched))

  pub tank_back : (n : ℕ) (rest : List ℕ) → Back (tank_lines v st held i n (tank_text v i s ++ rest)) s rest
  unfolding tank_lines tank_text
  tank_back n rest =
      let A = number_text (bytes "tank=") i in
      let B = number_text (bytes "touched=") (flag_of s.touched) in
      let C = number_text (bytes "length=") s.length in
      let D = number_text (bytes "marks=") (length s.marks) in
      let E = marks_text v s.marks in
      let F = number_text (bytes "runs=") (length s.runs) in
      let G = runs_text s.runs in
      let f = bounds in
      let ms = marks_back v s.marks [] (n + 1 + 1 + 1 + 1) (F ++ (G ++ rest)) keeps.sayable keeps.sorted keeps.numbers fit in
      record {
        lines = ms.lines + 1 + 2 * length s.runs;
        is = ap (λ (x : List ℕ). then (number_line (bytes "tank=") i i n x) (j1 v st held i)) (seven_apart A B C D E F G rest)
            ∙ ap (λ (g : Got ℕ). then g (j1 v st held i)) (number_back (bytes "tank=") i i n i (B ++ (C ++ (D ++ (E ++ (F ++ (G ++ rest)))))) tank_free (omega arith) (omega arith) small)
            ∙ ap (λ (g : Got ℕ). then g (j2 v st held i)) (number_back (bytes "touched=") 0 1 (n + 1) (flag_of s.touched) (C ++ (D ++ (E ++ (F ++ (G ++ rest))))) touched_free (omega arith) f.flag (omega (arith, f.flag)))
            ∙ ap (λ (g : Got ℕ). then g (j3 v st held i (flag_of s.touched))) (number_back (bytes "length=") (least_length (flag_of s.touched)) (most_length (flag_of s.touched)) (n + 1 + 1) s.length (D ++ (E ++ (F ++ (G ++ rest)))) length_free f.length_low f.length_high (omega (arith, keeps.small)))
            ∙ ap (λ (g : Got ℕ). then g (j4 v st held i (flag_of s.touched) s.length)) (number_back (bytes "marks=") 0 (most_marks (flag_of s.touched)) (n + 1 + 1 + 1) (length s.marks) (E ++ (F ++ (G ++ rest))) marks_free (omega arith) f.marks_high (omega (arith, keeps.few)))
            ∙ ap (λ (g : Got (List Mark)). then g (j5 st held i (flag_of s.touched) s.length (length s.marks))) ms.is
            ∙ ap (λ (g : Got ℕ). then g (j6 st held (flag_of s.touched) s.length (length s.marks) s.marks)) (number_back (bytes "runs=") (least_runs (flag_of s.touched)) (most_runs (flag_of s.touched) (limit_of st i)) ms.lines (length s.runs) (G ++ rest) runs_free f.runs_low f.runs_high few)
            ∙ tail_back (ms.lines + 1) rest;
      }

-- ---- tanks one after another
unfoldable pub AllFitIn : List Saved → Type 0
AllFitIn [] = Unit {0}
AllFitIn (s ∷ ss) = AllFit s.marks × (length s.runs < 2 ^ 64) × AllFitIn ss

pub tanks_back : (v : ℕ) (new ss : List Saved) (st : List Setting) (n : ℕ) (rest : List ℕ) → length ss + length new < 2 ^ 64 → AllKeep v st ss new → AllFitIn new
    → Back (tanks_lines v st ss (length new) n (tanks_text v (length ss) new ++ rest)) (ss ++ new) rest
unfolding tanks_lines tanks_text AllKeep AllFitIn
tanks_back v [] ss st n rest h k f = record { lines = n; is = ap (λ (l : List Saved). got l n rest) (sym (append-nil ss)) }
tanks_back v (s ∷ new) ss st n rest h k f =
    let held : List ℕ = map (λ s. length s.runs) ss in
    let b = tank_back v st held (length ss) s k.0 f.0 f.1 (omega arith) n (tanks_text v (suc (length ss)) new ++ rest) in
    let e = append_assoc ss (s ∷ []) new in
    let l : length (ss ++ s ∷ []) ≡ suc (length ss) = omega (arith, length-append ss (s ∷ [])) in
    let r = tanks_back v new (ss ++ s ∷ []) st b.lines rest (omega (arith, length-append ss (s ∷ []))) k.1 f.2 in
    record {
      lines = r.lines;
      is = ap (λ (x : List ℕ). then (tank_lines v st held (length ss) n x) λ s n t. tanks_lines v st (ss ++ s ∷ []) (length new) n t) (append_assoc (tank_text v (length ss) s) (tanks_text v (suc (length ss)) new) rest)
          ∙ ap (λ (g : Got Saved). then g λ s n t. tanks_lines v st (ss ++ s ∷ []) (length new) n t) b.is
          ∙ ap (λ (j : ℕ). tanks_lines v st (ss ++ s ∷ []) (length new) b.lines (tanks_text v j new ++ rest)) (sym l)
          ∙ r.is
          ∙ ap (λ (q : List Saved). got q r.lines rest) e;
    }
