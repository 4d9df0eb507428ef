-- What is wrong, what is written, and what a text says, by the numbers that the code looks at.
use mathlib.Core.Path.{◌≡◌, refl, sym, ap, ap₂, subst, ◌∙◌}
use mathlib.Core.Bool.{Bool, true, false, cond}
use mathlib.Core.List.{List, [], ◌∷◌, ◌++◌}
use Prim.Native.Nat.{ℕ, ◌+◌, ◌≤◌, ◌<◌, min}
use native.Mathlib.Omega.{arith}
use borrow.Author.Tests.{ne_eqb, lt-ltb, le-ltb}
use lib.ListN.{length, take, drop}
use lib.Seq.{length-take-le}
use Rattle.text.specs.Number.{put}
use Rattle.runs.specs.Stretches.{in_front}
use Rattle.tank.specs.Rules.{when_accepted}
use Rattle.lists.specs.declared.Listed.{Listed}
use Rattle.lists.specs.Lists.{unless_refused, filled_beside}
use Rattle.tanks.specs.declared.Setting.{Setting}
use Rattle.tanks.specs.declared.Tanks.{Tanks}
use Rattle.tanks.specs.House.{House, smallest_settings, open_number, opening}
use Rattle.tanks.specs.Pool.{meaning}
use Rattle.text_lines.specs.Lines.{Got, bad, got}
use Rattle.settings_text.specs.declared.Reading.{Reading}
use Rattle.settings_text.specs.Text.{settings_of, reading_of}
use Rattle.saved.specs.declared.Restored.{Restored}
use Rattle.saved.specs.Saying.{Said, newest, saying, house_in}
use Rattle.saved.specs.Reads.{restore_number, restore_line, restored, Restores}
use Rattle.saved.specs.Writes.{written, write_number}
use Rattle.script.specs.declared.Ending.{Ending}
use Rattle.day_log.specs.declared.Stop.{Stop}
use Rattle.day_log.specs.declared.Took.{Took}
use Rattle.day_log.specs.Groups.{TakesGroups}
use Rattle.door.specs.declared.Outcome.{Outcome}
use Rattle.door.specs.Door.{Result, wrong, right, fed_on, if_fits, begun_by, begun, most_answers, handed, run_from, bad_in, bad_line, answers_of, house_after, on_text, told, Writes, Runs, ReadsText, FeedsBy, FeedsFrom, Feeds, Tells, report_of, run, stop_number, stop_line}

-- ---- By a number
accepted : {A : Type 0} (n : ℕ) (a b : A) → n ≡ 0 → when_accepted n a b ≡ a
accepted n a b e = rw e

denied : {A : Type 0} (n : ℕ) (a b : A) → (n ≡ 0 → ⊥) → when_accepted n a b ≡ b
denied n a b no' = rw (ne_eqb n 0 no')

-- no number is above 0 and 0
above : {n : ℕ} → 0 < n → n ≡ 0 → ⊥
above h e = omega (arith, h, e)

none : {n : ℕ} → n ≤ 0 → n ≡ 0
none h = omega (arith, h)

-- ---- What is wrong leaves all as it was
pub wrong_writes : {r : Result} (number line : ℕ) {o : Outcome} (next out : List ℕ) → o ≡ told (wrong number line) → r ≡ wrong number line → out ≡ next → Writes r o next out
wrong_writes number line next out e f g = record { is = e ∙ ap told (sym f); text = g ∙ ap (λ (x : Result). in_front x.text next) (sym f) }

pub wrong_runs : {r : Result} (number line : ℕ) {o : Outcome} (next out answers : List ℕ) → o ≡ told (wrong number line) → r ≡ wrong number line → out ≡ next → Runs r o next out answers answers
wrong_runs number line next out answers e f g =
    record { is = e ∙ ap told (sym f); text = g ∙ ap (λ (x : Result). in_front x.text next) (sym f); answers = ap (λ (x : Result). in_front x.answers answers) (sym f) }

-- the same result by another name
pub runs_as : {r q : Result} {o : Outcome} {next out answers said : List ℕ} → r ≡ q → Runs r o next out answers said → Runs q o next out answers said
runs_as {o = o} {next = next} {out = out} {answers = answers} {said = said} e w = subst (λ (x : Result). Runs x o next out answers said) e w

-- ---- What is told
-- of a text and answers of so many bytes
abbrev pub counted : ℕ → ℕ → Outcome
counted text answers = record { number = 0; line = 0; text = text; answers = answers; taken = 0; applied = 0; stop = 0; at = 0 }

-- of a log too
abbrev pub counted_fed : ℕ → ℕ → ℕ → ℕ → ℕ → Outcome
counted_fed text taken edits number line = record { number = 0; line = 0; text = text; answers = 0; taken = taken; applied = edits; stop = number; at = line }

-- seven numbers, three of them by another name
pub seven : {a b d x y z : ℕ} (i j k l : ℕ) → a ≡ x → b ≡ y → d ≡ z → (i ∷ a ∷ b ∷ d ∷ j ∷ k ∷ l ∷ []) ≡ (i ∷ x ∷ y ∷ z ∷ j ∷ k ∷ l ∷ [])
seven {d = d} {x = x} {y = y} i j k l e f g = ap₂ (λ (p q : ℕ). i ∷ p ∷ q ∷ d ∷ j ∷ k ∷ l ∷ []) e f ∙ ap (λ (p : ℕ). i ∷ x ∷ y ∷ p ∷ j ∷ k ∷ l ∷ []) g

-- the number and the report of what was told
pub tells : (r : Result) (o : Outcome) {number : ℕ} {report : List ℕ} → o ≡ told r → (number ≡ o.number) × (report ≡ o.line ∷ o.text ∷ o.answers ∷ o.taken ∷ o.applied ∷ o.stop ∷ o.at ∷ []) → Tells r number report
tells r o e x = (x.0 ∙ ap (λ (q : Outcome). q.number) e, x.1 ∙ ap (λ (q : Outcome). q.line ∷ q.text ∷ q.answers ∷ q.taken ∷ q.applied ∷ q.stop ∷ q.at ∷ []) e)

-- a text put at the front
pub put_front : (d s : List ℕ) → put d 0 s ≡ in_front s d
put_front d s = let e : 0 + length s ≡ length s = omega arith in ap (λ (k : ℕ). s ++ drop k d) e

-- ---- Writing a text
module _ (h : House) {l : Listed} (next : List ℕ) {out : List ℕ} (is : l ≡ filled_beside (write_number (length next) h) (written h)) (text : out ≡ in_front (unless_refused (write_number (length next) h) (written h)) next) where
  -- it does not fit
  pub too_long : (r : Result) → 0 < l.number → (if_fits (length next) h r ≡ wrong 11 0) × (out ≡ next)
  too_long r k =
      let no' : write_number (length next) h ≡ 0 → ⊥ = λ e. above k (ap (λ (x : Listed). x.number) is ∙ e) in
      (denied (write_number (length next) h) r (wrong 11 0) no', text ∙ ap (λ (t : List ℕ). in_front t next) (denied (write_number (length next) h) (written h) [] no'))

  -- it fits
  pub fits : (r : Result) → l.number ≤ 0 → (if_fits (length next) h r ≡ r) × (out ≡ in_front (written h) next) × (l.count ≡ length (written h))
  fits r k =
      let e : write_number (length next) h ≡ 0 = sym (ap (λ (x : Listed). x.number) is) ∙ none k in
      let same = accepted (write_number (length next) h) (written h) [] e in
      (accepted (write_number (length next) h) r (wrong 11 0) e, text ∙ ap (λ (t : List ℕ). in_front t next) same, ap (λ (x : Listed). x.count) is ∙ ap length same)

-- ---- Begin
-- a settings text with a wrong line
settings_bad : (g : Got (List Setting)) (room : ℕ) → 0 < (reading_of g).number → begun_by g room ≡ wrong 12 (reading_of g).line
unfolding reading_of begun_by
settings_bad (bad n) room h = refl
settings_bad (got st n rest) room h = absurd (omega (arith, h))

pub settings_wrong : {r : Reading} (g : Got (List Setting)) (room : ℕ) → r ≡ reading_of g → 0 < r.number → begun_by g room ≡ wrong 12 r.line
settings_wrong g room e h = settings_bad g room (omega (arith, h, ap (λ (x : Reading). x.number) e)) ∙ ap (λ (x : Reading). wrong 12 x.line) (sym e)

-- and one that is read
opens : List Setting → ℕ → Result
opens st room = when_accepted (open_number st) (if_fits room (opening st) (right (opening st) [])) (wrong 2 0)

settings_good : (g : Got (List Setting)) (room : ℕ) → (reading_of g).number ≡ 0 → begun_by g room ≡ opens (reading_of g).settings room
unfolding reading_of begun_by opens
settings_good (bad n) room h = absurd (omega (arith, h))
settings_good (got st n rest) room h = refl

settings_read : {r : Reading} (g : Got (List Setting)) (room : ℕ) → r ≡ reading_of g → r.number ≤ 0 → begun_by g room ≡ opens r.settings room
settings_read g room e h = settings_good g room (sym (ap (λ (x : Reading). x.number) e) ∙ none h) ∙ ap (λ (x : Reading). opens x.settings room) (sym e)

-- settings with which no tanks open
pub not_opened : {r : Reading} (g : Got (List Setting)) (room : ℕ) {number : ℕ} → r ≡ reading_of g → r.number ≤ 0 → number ≡ open_number r.settings → 0 < number → begun_by g room ≡ wrong 2 0
unfolding opens
not_opened {r} g room e h f k =
    settings_read g room e h ∙ denied (open_number r.settings) (if_fits room (opening r.settings) (right (opening r.settings) [])) (wrong 2 0) λ z. above k (f ∙ z)

-- settings with which they open
pub opened : {r : Reading} (g : Got (List Setting)) (room : ℕ) {number : ℕ} (s : Tanks) → r ≡ reading_of g → r.number ≤ 0 → number ≡ open_number r.settings → number ≤ 0 → meaning s ≡ opening r.settings → begun_by g room ≡ if_fits room (meaning s) (right (meaning s) [])
unfolding opens
opened {r} g room s e h f k m =
    settings_read g room e h
    ∙ accepted (open_number r.settings) (if_fits room (opening r.settings) (right (opening r.settings) [])) (wrong 2 0) (sym f ∙ none k)
    ∙ ap (λ (x : House). if_fits room x (right x [])) (sym m)

-- a text that is written, with nothing beside it
pub done_writes : {r : Result} {o : Outcome} {count : ℕ} (h : House) (next out : List ℕ) → o ≡ counted count 0 → count ≡ length (written h) → r ≡ right h [] → out ≡ in_front (written h) next → Writes r o next out
done_writes h next out e n f g = record { is = e ∙ ap (λ (k : ℕ). counted k 0) n ∙ ap told (sym f); text = g ∙ ap (λ (x : Result). in_front x.text next) (sym f) }

-- ---- A saved text
pub reads_text : {s : Tanks} {text : List ℕ} {r : Restored} → meaning s ≡ opening smallest_settings → Restores s text r → ReadsText text r
reads_text {text = text} e x = record { number_is = x.number_is; line_is = x.line_is; is = x.is ∙ ap (λ (h : House). restored h (saying newest text)) e; sound = x.sound }

text_bad : (g : Got Said) (f : House → Result) → 0 < restore_number g → on_text g f ≡ wrong 13 (restore_line g)
text_bad (bad n) f h = refl
text_bad (got s n rest) f h = absurd (omega (arith, h))

text_good : (g : Got Said) (f : House → Result) (before : House) → restore_number g ≡ 0 → on_text g f ≡ f (restored before g)
text_good (bad n) f before h = absurd (omega (arith, h))
text_good (got s n rest) f before h = refl

module _ (text script : List ℕ) (a b : ℕ) {t : Restored} (x : ReadsText text t) where
  -- one with a wrong line
  pub text_wrong : 0 < t.number → run text script a b ≡ wrong 13 t.line
  text_wrong k = text_bad (saying newest text) (λ h. run_from h script a b) (omega (arith, k, x.number_is)) ∙ ap (wrong 13) (sym x.line_is)

  -- one that says a house
  pub text_read : t.number ≤ 0 → run text script a b ≡ run_from (meaning t.tanks) script a b
  text_read k =
      text_good (saying newest text) (λ h. run_from h script a b) (opening smallest_settings) (sym x.number_is ∙ none k) ∙ ap (λ (h : House). run_from h script a b) (sym x.is)

-- ---- A run
-- where it is bad
pub bad_over : {over : Bool} (e : Ending) {n k : ℕ} → over ≡ true → k ≡ n → k ≡ bad_in over e n
unfolding bad_in
bad_over e {n} h f = f ∙ ap (λ (b : Bool). bad_in b e n) (sym h)

pub bad_clean : {over : Bool} {e : Ending} (n : ℕ) → over ≡ false → e ≡ Ending.Clean → 0 ≡ bad_in over e n
unfolding bad_in
bad_clean n h f = ap₂ (λ (b : Bool) (x : Ending). bad_in b x n) (sym h) (sym f)

pub bad_cut : {over : Bool} {e : Ending} {n k : ℕ} → over ≡ false → e ≡ Ending.Cut → k ≡ n → k ≡ bad_in over e n
unfolding bad_in
bad_cut {n = n} h f g = g ∙ ap₂ (λ (b : Bool) (x : Ending). bad_in b x n) (sym h) (sym f)

pub script_wrong : (h : House) (script : List ℕ) (a b line : ℕ) → line ≡ bad_line h script → 0 < line → run_from h script a b ≡ wrong 64 line
unfolding run_from
script_wrong h script a b line e k = rw (lt-ltb 0 (bad_line h script) (omega (arith, e, k))) (ap (wrong 64) (sym e))

pub script_read : (h : House) (script : List ℕ) (a b line : ℕ) → line ≡ bad_line h script → line ≤ 0 → run_from h script a b ≡ handed (house_after h script) a b (answers_of h script)
unfolding run_from
script_read h script a b line e k = rw (le-ltb 0 (bad_line h script) (omega (arith, e, k)))

-- answers that do not fit
answers_long : (h : House) (a b : ℕ) (answers : List ℕ) → min b most_answers < length answers → handed h a b answers ≡ wrong 11 0
unfolding handed
answers_long h a b answers k = rw (lt-ltb (min b most_answers) (length answers) k)

answers_fit : (h : House) (a b : ℕ) (answers : List ℕ) → length answers ≤ min b most_answers → handed h a b answers ≡ if_fits a h (right h answers)
unfolding handed
answers_fit h a b answers k = rw (le-ltb (min b most_answers) (length answers) k)

-- more than any room
pub answers_many : (h : House) (a b : ℕ) (answers : List ℕ) → most_answers < length answers → handed h a b answers ≡ wrong 11 0
answers_many h a b answers k = answers_long h a b answers (omega (arith, k))

-- in the front of memory
module _ (h : House) (a b at : ℕ) (held : List ℕ) {room : ℕ} (inside : at ≤ length held) (is : room ≡ min b most_answers) where
  pub held_long : room < at → handed h a b (take at held) ≡ wrong 11 0
  held_long k = answers_long h a b (take at held) (omega (arith, is, k, length-take-le at held inside))

  pub held_fit : at ≤ room → handed h a b (take at held) ≡ if_fits a h (right h (take at held))
  held_fit k = answers_fit h a b (take at held) (omega (arith, is, k, length-take-le at held inside))

-- text and answers that are written
pub done_runs : {r : Result} {o : Outcome} {count n : ℕ} (h : House) (t next out answers said : List ℕ) → o ≡ counted count n → count ≡ length (written h) → n ≡ 0 + length t → r ≡ right h t → out ≡ in_front (written h) next → said ≡ put answers 0 t → Runs r o next out answers said
done_runs h t next out answers said e c n f g k =
    let m : 0 + length t ≡ length t = omega arith in
    record {
      is = e ∙ ap₂ counted c (n ∙ m) ∙ ap told (sym f);
      text = g ∙ ap (λ (x : Result). in_front x.text next) (sym f);
      answers = k ∙ put_front answers t ∙ ap (λ (x : Result). in_front x.answers answers) (sym f);
    }

-- ---- A feed
feed_bad : (g : Got Said) (log : List ℕ) (room : ℕ) → 0 < restore_number g → FeedsBy g log room (wrong 13 (restore_line g))
unfolding FeedsBy
feed_bad (bad n) log room h = refl
feed_bad (got s n rest) log room h = absurd (omega (arith, h))

feed_good : (g : Got Said) (log : List ℕ) (room : ℕ) (before : House) (r : Result) → restore_number g ≡ 0 → FeedsFrom (restored before g) log room r → FeedsBy g log room r
unfolding FeedsBy
feed_good (bad n) log room before r h x = absurd (omega (arith, h))
feed_good (got s n rest) log room before r h x = x

module _ (text log next : List ℕ) {t : Restored} (x : ReadsText text t) where
  -- a text with a wrong line
  pub feed_wrong : {o : Outcome} → 0 < t.number → o ≡ told (wrong 13 t.line) → Feeds text log o next next
  feed_wrong k e =
      record {
        result = wrong 13 (restore_line (saying newest text));
        by = feed_bad (saying newest text) log (length next) (omega (arith, k, x.number_is));
        writes = wrong_writes 13 (restore_line (saying newest text)) next next (e ∙ ap (λ (n : ℕ). told (wrong 13 n)) x.line_is) refl refl;
      }

  -- what comes of one that says a house
  fed_as : Took → Result
  fed_as k = if_fits (length next) (meaning k.tanks) (fed_on (meaning k.tanks) k.at k.edits k.stop)

  fed_by : (k : Took) → t.number ≤ 0 → TakesGroups t.tanks log k → FeedsBy (saying newest text) log (length next) (fed_as k)
  unfolding fed_as
  fed_by k h y =
      feed_good (saying newest text) log (length next) (opening smallest_settings) (fed_as k) (sym x.number_is ∙ none h)
      (record { tanks = t.tanks; is = x.is; took = k; takes = y; result = refl })

  -- its text does not fit
  pub feed_long : {o : Outcome} (out : List ℕ) (k : Took) → t.number ≤ 0 → TakesGroups t.tanks log k → o ≡ told (wrong 11 0) → (if_fits (length next) (meaning k.tanks) (fed_on (meaning k.tanks) k.at k.edits k.stop) ≡ wrong 11 0) × (out ≡ next) → Feeds text log o next out
  unfolding fed_as
  feed_long out k h y e f = record { result = fed_as k; by = fed_by k h y; writes = wrong_writes 11 0 next out e f.0 f.1 }

  -- it does
  pub feed_done : {o : Outcome} {count : ℕ} (out : List ℕ) (k : Took) → t.number ≤ 0 → TakesGroups t.tanks log k → o ≡ counted_fed count k.at k.edits (stop_number k.stop) (stop_line k.stop)
      → (if_fits (length next) (meaning k.tanks) (fed_on (meaning k.tanks) k.at k.edits k.stop) ≡ fed_on (meaning k.tanks) k.at k.edits k.stop) × (out ≡ in_front (written (meaning k.tanks)) next) × (count ≡ length (written (meaning k.tanks))) → Feeds text log o next out
  unfolding fed_as
  feed_done out k h y e f =
      record {
        result = fed_as k;
        by = fed_by k h y;
        writes =
            record {
              is = e ∙ ap (λ (n : ℕ). counted_fed n k.at k.edits (stop_number k.stop) (stop_line k.stop)) f.2 ∙ ap told (sym f.0);
              text = f.1 ∙ ap (λ (r : Result). in_front r.text next) (sym f.0);
            };
      }
