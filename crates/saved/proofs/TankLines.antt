-- The lines of a tank are exact, and what is accepted keeps the rules of a tank.
use mathlib.Core.Path.{◌≡◌, refl, sym, ap, ap₂, ◌∙◌}
use mathlib.Core.Bool.{Bool, true, false, cond, ◌&&◌, and-eq-true_iff}
use mathlib.Core.List.{List, [], ◌∷◌, ◌++◌, append_assoc, append-nil, map}
use Prim.Native.Nat.{ℕ, zero, suc, ◌+◌, ◌-◌, ◌^◌, ◌≤◌}
use native.Mathlib.Omega.{arith}
use native.Mathlib.Decide.{ℕ_discrete}
use lib.Dec.{eqb, leb}
use lib.ListN.{length}
use borrow.Author.Tests.{eq-eqb, ne_eqb, eqb-true, le-leb, leb-true}
use Rattle.laws.proofs.Cases.{cond_cases}
use Rattle.text.specs.Bytes.{bytes}
use Rattle.text_lines.specs.Lines.{Got, got, then, provided, number_line, number_text}
use Rattle.text_lines.proofs.Then.{then_got, got_inj, provided_got, number_then}
use Rattle.runs.specs.Runs.{Run, total, Canon}
use Rattle.runs.specs.Gather.{gather}
use Rattle.styles.specs.declared.Mark.{Mark}
use Rattle.styles.specs.declared.Party.TheVariants.{Lab}
use Rattle.styles.specs.Marks.{Sorted, of_party}
use Rattle.tank.specs.Rules.{fresh_length, largest, marks_of, needs}
use Rattle.tank.specs.State.{Numbers, Roomy}
use Rattle.tanks.specs.declared.Setting.{Setting}
use Rattle.tanks.specs.Settings.{limit_of}
use Rattle.saved.specs.Saved.{Saved, AllSayable, flag_of, marks_text, runs_text, tank_text, tanks_text}
use Rattle.saved.specs.Saying.{least_length, most_length, most_marks, least_runs, most_runs, claimed, roomy, adds_up, adds, marks_lines, runs_lines, tank_lines, tanks_lines}
use Rattle.saved.proofs.RunLines.{runs_only, SetsWithin}
use Rattle.saved.proofs.MarkLines.{marks_only}

-- ---- line after line
abbrev pub j7 : List Setting → List ℕ → ℕ → ℕ → List Mark → List Run → ℕ → List ℕ → Got Saved
j7 st held b l ms rs n t = provided (adds st held l ms rs) (record { touched = eqb b 1; length = l; marks = ms; runs = rs }) n t

abbrev pub j6 : List Setting → List ℕ → ℕ → ℕ → ℕ → List Mark → ℕ → ℕ → List ℕ → Got Saved
j6 st held b l k ms j n t = then (runs_lines (2 ^ k - 1) [] j n t) (j7 st held b l ms)

abbrev pub j5 : List Setting → List ℕ → ℕ → ℕ → ℕ → ℕ → List Mark → ℕ → List ℕ → Got Saved
j5 st held i b l k ms n t = then (number_line (bytes "runs=") (least_runs b) (most_runs b (limit_of st i)) n t) (j6 st held b l k ms)

abbrev pub j4 : ℕ → List Setting → List ℕ → ℕ → ℕ → ℕ → ℕ → ℕ → List ℕ → Got Saved
j4 v st held i b l k n t = then (marks_lines v [] k n t) (j5 st held i b l k)

abbrev pub j3 : ℕ → List Setting → List ℕ → ℕ → ℕ → ℕ → ℕ → List ℕ → Got Saved
j3 v st held i b l n t = then (number_line (bytes "marks=") 0 (most_marks b) n t) (j4 v st held i b l)

abbrev pub j2 : ℕ → List Setting → List ℕ → ℕ → ℕ → ℕ → List ℕ → Got Saved
j2 v st held i b n t = then (number_line (bytes "length=") (least_length b) (most_length b) n t) (j3 v st held i b)

abbrev pub j1 : ℕ → List Setting → List ℕ → ℕ → ℕ → ℕ → List ℕ → Got Saved
j1 v st held i z n t = then (number_line (bytes "touched=") 0 1 n t) (j2 v st held i)

-- ---- the rules that an accepted tank keeps
pub record Keeps (v : ℕ) (st : List Setting) (held : List ℕ) (i : ℕ) (s : Saved) : Type 0 where
  pub small : s.length ≤ largest
  pub few : length s.marks ≤ 64
  pub sayable : AllSayable v s.marks
  pub roomy : Roomy s.marks
  pub sorted : Sorted s.marks
  pub numbers : Numbers s.marks
  pub canon : Canon s.runs
  pub within : SetsWithin (2 ^ length s.marks - 1) s.runs
  pub sum : total s.runs ≡ s.length
  pub whole : gather s.runs ≡ 2 ^ length s.marks - 1
  pub limit : s.touched ≡ true → length s.runs ≤ limit_of st i
  pub fresh : s.touched ≡ false → (s.length ≡ fresh_length) × (length s.marks ≡ 0) × (length s.runs ≡ 1)
  pub pool : claimed st (held ++ length s.runs ∷ []) ≤ 512

-- what a bound says of a touched and of an untouched tank
by_flag : (b : ℕ) (x y : ℕ) (P : ℕ → Type 0) → P (cond (eqb b 1) x y) → (eqb b 1 ≡ true → P x) × (eqb b 1 ≡ false → P y)
by_flag b x y P h = on (eqb b 1) h where
  on : (c : Bool) → P (cond c x y) → (c ≡ true → P x) × (c ≡ false → P y)
  on true h = ((λ e. h), (λ e. let z : ◌≡◌ {A = ℕ} 0 1 = cc in absurd (omega arith)))
  on false h = ((λ e. let z : ◌≡◌ {A = ℕ} 0 1 = cc in absurd (omega arith)), (λ e. h))

flag_back : (b : ℕ) → b ≤ 1 → flag_of (eqb b 1) ≡ b
flag_back zero h = refl
flag_back (suc zero) h = refl
flag_back (suc (suc b)) h = absurd (omega arith)

either : (b : Bool) (P : Type 0) → (b ≡ true → P) → (b ≡ false → P) → P
either true P f g = f refl
either false P f g = g refl

-- seven parts one behind the other
seven_parts : (a b c d e f g r t u v w x y z : List ℕ) → t ≡ a ++ u → u ≡ b ++ v → v ≡ c ++ w → w ≡ d ++ x → x ≡ e ++ y → y ≡ f ++ z → z ≡ g ++ r → t ≡ (a ++ b ++ c ++ d ++ e ++ f ++ g) ++ r
seven_parts a b c d e f g r t u v w x y z h i j k l m n =
    h ∙ ap (λ (q : List ℕ). a ++ q) (i ∙ ap (λ (q : List ℕ). b ++ q) (j ∙ ap (λ (q : List ℕ). c ++ q) (k ∙ ap (λ (q : List ℕ). d ++ q) (l ∙ ap (λ (q : List ℕ). e ++ q) (m ∙ ap (λ (q : List ℕ). f ++ q) n)))))
    ∙ sym (simp append_assoc)

-- ---- refusal 8's sum
no_marks : (l : List Mark) → length l ≡ 0 → l ≡ []
no_marks [] e = refl
no_marks (m ∷ ms) e = absurd (omega arith)

pub roomy_true : (ms : List Mark) → length ms ≤ 64 → roomy ms ≡ true → Roomy ms
unfolding roomy
roomy_true ms few e = record {
  few = few;
  lab = λ some. cond_cases (λ (b : Bool). b ≡ true → needs ms ≤ 64) (eqb (marks_of Lab ms) 0) (λ h f. absurd (some (no_marks (of_party Lab ms) (eqb-true (marks_of Lab ms) 0 h)))) (λ h f. leb-true (needs ms) 64 f) e;
}

pub true_roomy : (ms : List Mark) → Roomy ms → roomy ms ≡ true
unfolding roomy
true_roomy ms r =
    elim (ℕ_discrete (marks_of Lab ms) 0) [
      | yes h ↦ rw (eq-eqb (marks_of Lab ms) 0 h)
      | no h ↦ rw (ne_eqb (marks_of Lab ms) 0 h) (le-leb (needs ms) 64 (r.lab (λ e. h (ap length e))))
    ]

-- what the tests at the last line say
pub record Added (st : List Setting) (held : List ℕ) (l : ℕ) (ms : List Mark) (rs : List Run) : Type 0 where
  pub sum : total rs ≡ l
  pub whole : gather rs ≡ 2 ^ length ms - 1
  pub room : roomy ms ≡ true
  pub pool : claimed st (held ++ length rs ∷ []) ≤ 512

pub adds_true : (st : List Setting) (held : List ℕ) (l : ℕ) (ms : List Mark) (rs : List Run) → adds st held l ms rs ≡ true → Added st held l ms rs
unfolding adds adds_up
adds_true st held l ms rs e =
    let p = (and-eq-true_iff (eqb (total rs) l && (eqb (gather rs) (2 ^ length ms - 1) && roomy ms)) (leb (claimed st (held ++ length rs ∷ [])) 512)).0 e in
    let a = (and-eq-true_iff (eqb (total rs) l) (eqb (gather rs) (2 ^ length ms - 1) && roomy ms)).0 p.0 in
    let b = (and-eq-true_iff (eqb (gather rs) (2 ^ length ms - 1)) (roomy ms)).0 a.1 in
    record { sum = eqb-true (total rs) l a.0; whole = eqb-true (gather rs) (2 ^ length ms - 1) b.0; room = b.1; pool = leb-true (claimed st (held ++ length rs ∷ [])) 512 p.1 }

-- the rules, from what each line was bounded by
module _ (v : ℕ) (st : List Setting) (held : List ℕ) (i b l k j : ℕ) (ms : List Mark) (rs : List Run) (marks : length ms ≡ k) (runs : length rs ≡ j) (added : Added st held l ms rs)
    (length_low : least_length b ≤ l) (length_high : l ≤ most_length b) (marks_high : k ≤ most_marks b) (runs_low : least_runs b ≤ j) (runs_high : j ≤ most_runs b (limit_of st i)) where
  keeps_small : l ≤ largest
  keeps_small =
      let h = by_flag b largest fresh_length (λ x. l ≤ x) length_high in
      either (eqb b 1) (l ≤ largest) h.0 (λ e. omega (arith, h.1 e))

  keeps_few : length ms ≤ 64
  keeps_few =
      let h = by_flag b 64 0 (λ x. k ≤ x) marks_high in
      either (eqb b 1) (length ms ≤ 64) (λ e. omega (arith, h.0 e)) (λ e. omega (arith, h.1 e))

  keeps_fresh : eqb b 1 ≡ false → (l ≡ fresh_length) × (length ms ≡ 0) × (length rs ≡ 1)
  keeps_fresh e =
      let a = (by_flag b largest fresh_length (λ x. l ≤ x) length_high).1 e in
      let c = (by_flag b 0 fresh_length (λ x. x ≤ l) length_low).1 e in
      let d = (by_flag b 64 0 (λ x. k ≤ x) marks_high).1 e in
      let f = (by_flag b (limit_of st i) 1 (λ x. j ≤ x) runs_high).1 e in
      let g = (by_flag b 0 1 (λ x. x ≤ j) runs_low).1 e in
      (omega arith, omega arith, omega arith)

  pub keeps_of : AllSayable v ms → Sorted ms → Numbers ms → Canon rs → SetsWithin (2 ^ k - 1) rs → Keeps v st held i (record { touched = eqb b 1; length = l; marks = ms; runs = rs })
  keeps_of y s n c w = record {
    small = keeps_small;
    few = keeps_few;
    sayable = y;
    roomy = roomy_true ms keeps_few added.room;
    sorted = s;
    numbers = n;
    canon = c;
    within = rw marks w;
    sum = added.sum;
    whole = added.whole;
    limit = λ e. omega (arith, (by_flag b (limit_of st i) 1 (λ x. j ≤ x) runs_high).0 e);
    fresh = keeps_fresh;
    pool = added.pool;
  }

pub record TankRead (v : ℕ) (st : List Setting) (held : List ℕ) (i : ℕ) (t : List ℕ) (s : Saved) (rest : List ℕ) : Type 0 where
  pub is : t ≡ tank_text v i s ++ rest
  pub keeps : Keeps v st held i s

-- the text of the fields that were read
tank_text_lem : (version i a b k j l : ℕ) (ms : List Mark) (rs : List Run) (t u v w x y z rest : List ℕ) → i ≡ a → b ≤ 1 → length ms ≡ k → length rs ≡ j
    → t ≡ number_text (bytes "tank=") a ++ u → u ≡ number_text (bytes "touched=") b ++ v → v ≡ number_text (bytes "length=") l ++ w → w ≡ number_text (bytes "marks=") k ++ x
    → x ≡ marks_text version ms ++ y → y ≡ number_text (bytes "runs=") j ++ z → z ≡ runs_text rs ++ rest → t ≡ tank_text version i (record { touched = eqb b 1; length = l; marks = ms; runs = rs }) ++ rest
unfolding tank_text
tank_text_lem version i a b k j l ms rs t u v w x y z rest ia b1 mk rj p1 p2 p3 p4 p5 p6 p7 =
    rw (flag_back b b1)
    (rw mk
    (rw rj
    (rw ia
    (seven_parts (number_text (bytes "tank=") a) (number_text (bytes "touched=") b) (number_text (bytes "length=") l) (number_text (bytes "marks=") k) (marks_text version ms) (number_text (bytes "runs=") j) (runs_text rs) rest t u v w x y z p1 p2 p3 p4 p5 p6 p7))))

none_text : (v : ℕ) (t : List ℕ) → marks_text v [] ++ t ≡ t
unfolding marks_text
none_text v t = refl

none_runs : (t : List ℕ) → runs_text [] ++ t ≡ t
unfolding runs_text
none_runs t = refl

zero_plus : (k : ℕ) → 0 + k ≡ k
zero_plus k = omega arith

start_sorted : Sorted []
unfolding Sorted
start_sorted = tt

start_sayable : (v : ℕ) → AllSayable v []
unfolding AllSayable
start_sayable v = tt

start_numbers : Numbers []
unfolding Numbers
start_numbers = tt

start_canon : Canon []
unfolding Canon
start_canon = tt

start_within : (most : ℕ) → SetsWithin most []
unfolding SetsWithin
start_within most = tt

pub tank_only : (v : ℕ) (st : List Setting) (held : List ℕ) (i n : ℕ) (t : List ℕ) (s : Saved) (m : ℕ) (rest : List ℕ) → tank_lines v st held i n t ≡ got s m rest → TankRead v st held i t s rest
unfolding tank_lines
tank_only v st held i n t s m rest e =
    let a = number_then (bytes "tank=") i i n t (j1 v st held i) s m rest e in
    let b = number_then (bytes "touched=") 0 1 (n + 1) a.text (j2 v st held i) s m rest a.second in
    let c = number_then (bytes "length=") (least_length b.value) (most_length b.value) (n + 1 + 1) b.text (j3 v st held i b.value) s m rest b.second in
    let d = number_then (bytes "marks=") 0 (most_marks b.value) (n + 1 + 1 + 1) c.text (j4 v st held i b.value c.value) s m rest c.second in
    let f = then_got (marks_lines v [] d.value (n + 1 + 1 + 1 + 1) d.text) (j5 st held i b.value c.value d.value) s m rest d.second in
    let g = number_then (bytes "runs=") (least_runs b.value) (most_runs b.value (limit_of st i)) f.lines f.text (j6 st held b.value c.value d.value f.value) s m rest f.second in
    let h = then_got (runs_lines (2 ^ d.value - 1) [] g.value (f.lines + 1) g.text) (j7 st held b.value c.value f.value) s m rest g.second in
    let p = provided_got (adds st held c.value f.value h.value) (record { touched = eqb b.value 1; length = c.value; marks = f.value; runs = h.value }) h.lines h.text s m rest h.second in
    let x = marks_only v d.value [] (n + 1 + 1 + 1 + 1) d.text f.value f.lines f.text f.first in
    let y = runs_only g.value (2 ^ d.value - 1) [] (f.lines + 1) g.text h.value h.lines h.text h.first in
    let one : i ≡ a.value = omega (arith, a.low, a.high) in
    rw (← p.1)
    record {
      is = tank_text_lem v i a.value b.value d.value g.value c.value f.value h.value t a.text b.text c.text d.text f.text g.text rest one b.high (x.count ∙ zero_plus d.value) (y.count ∙ zero_plus g.value)
          a.is b.is c.is d.is (sym (none_text v d.text) ∙ x.is) g.is (sym (none_runs g.text) ∙ y.is ∙ ap (λ (q : List ℕ). runs_text h.value ++ q) p.3);
      keeps = keeps_of v st held i b.value c.value d.value g.value f.value h.value (x.count ∙ zero_plus d.value) (y.count ∙ zero_plus g.value) (adds_true st held c.value f.value h.value p.0)
          c.low c.high d.high g.low g.high (x.sayable (start_sayable v)) (x.sorted (start_sayable v) start_sorted) (x.numbers start_numbers) (y.canon start_canon) (y.within (start_within (2 ^ d.value - 1)));
    }

-- ---- tanks one after another
-- each keeps the rules, behind those before it
unfoldable pub AllKeep : ℕ → List Setting → List Saved → List Saved → Type 0
AllKeep v st before [] = Unit {0}
AllKeep v st before (s ∷ ss) = Keeps v st (map (λ s. length s.runs) before) (length before) s × AllKeep v st (before ++ s ∷ []) ss

pub tanks_snoc : (v t : ℕ) (ss : List Saved) (s : Saved) → tanks_text v t (ss ++ s ∷ []) ≡ tanks_text v t ss ++ tank_text v (length ss + t) s
unfolding tanks_text
tanks_snoc v t [] s = append-nil (tank_text v t s) ∙ ap (λ (k : ℕ). tank_text v k s) (let e : t ≡ 0 + t = omega arith in e)
tanks_snoc v t (x ∷ xs) s =
    let e : length xs + suc t ≡ suc (length xs) + t = omega arith in
    ap (λ (l : List ℕ). tank_text v t x ++ l) (tanks_snoc v (suc t) xs s ∙ ap (λ (k : ℕ). tanks_text v (suc t) xs ++ tank_text v k s) e)
    ∙ sym (append_assoc (tank_text v t x) (tanks_text v (suc t) xs) (tank_text v (suc (length xs) + t) s))

pub record TanksRead (v : ℕ) (st : List Setting) (ss : List Saved) (k : ℕ) (t : List ℕ) (all : List Saved) (rest : List ℕ) : Type 0 where
  pub more : List Saved
  pub both : all ≡ ss ++ more
  pub count : length more ≡ k
  pub is : tanks_text v 0 ss ++ t ≡ tanks_text v 0 all ++ rest
  pub keep : AllKeep v st ss more

pub tanks_only : (v k : ℕ) (st : List Setting) (ss : List Saved) (n : ℕ) (t : List ℕ) (all : List Saved) (m : ℕ) (rest : List ℕ) → tanks_lines v st ss k n t ≡ got all m rest
    → TanksRead v st ss k t all rest
unfolding tanks_lines AllKeep
tanks_only v zero st ss n t all m rest e =
    let i = got_inj ss all n m t rest e in
    record {
      more = [];
      both = sym i.0 ∙ sym (append-nil ss);
      count = refl;
      is = ap₂ (λ (x : List Saved) (y : List ℕ). tanks_text v 0 x ++ y) i.0 i.2;
      keep = tt;
    }
tanks_only v (suc k) st ss n t all m rest e =
    let a = then_got (tank_lines v st (map (λ s. length s.runs) ss) (length ss) n t) (λ s n t. tanks_lines v st (ss ++ s ∷ []) k n t) all m rest e in
    let x = tank_only v st (map (λ s. length s.runs) ss) (length ss) n t a.value a.lines a.text a.first in
    let y = tanks_only v k st (ss ++ a.value ∷ []) a.lines a.text all m rest a.second in
    let z : length ss ≡ length ss + 0 = omega arith in
    record {
      more = a.value ∷ y.more;
      both = y.both ∙ append_assoc ss (a.value ∷ []) y.more;
      count = ap suc y.count;
      is = ap (λ (l : List ℕ). tanks_text v 0 ss ++ l) x.is
          ∙ sym (append_assoc (tanks_text v 0 ss) (tank_text v (length ss) a.value) a.text)
          ∙ ap (λ (l : List ℕ). l ++ a.text) (ap (λ (j : ℕ). tanks_text v 0 ss ++ tank_text v j a.value) z ∙ sym (tanks_snoc v 0 ss a.value))
          ∙ y.is;
      keep = (x.keeps, y.keep);
    }
