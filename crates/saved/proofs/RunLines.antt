-- The lines of runs are exact: what is accepted is the text of the runs that it says, and every text of joined runs is accepted.
use mathlib.Core.Path.{◌≡◌, refl, sym, ap, ap₂, ◌∙◌}
use mathlib.Core.Bool.{true, false}
use mathlib.Core.List.{List, [], ◌∷◌, ◌++◌, append_assoc}
use Prim.Native.Nat.{ℕ, zero, suc, ◌+◌, ◌-◌, ◌*◌, ◌≤◌, ◌<◌, ◌^◌}
use native.Mathlib.Omega.{arith}
use lib.Dec.{eqb}
use lib.ListN.{length}
use borrow.Author.Tests.{eqb-false, ne_eqb, not-true}
use Rattle.text.specs.Bytes.{bytes, holds}
use Rattle.text_lines.specs.Lines.{Got, got, then, provided, number_line, hex_line, number_text, digits_text}
use Rattle.text_lines.proofs.Laws.{number_only, number_back, hex_line_only, hex_line_back}
use Rattle.text_lines.proofs.Then.{then_got, provided_got}
use Rattle.runs.specs.Runs.{Run, run, Other, Canon}
use Rattle.saved.specs.Saved.{run_text, runs_text}
use Rattle.saved.specs.Saying.{set_before, other_than, run_lines, runs_lines}

-- ---- the test against the run before it
pub other_true : (s : ℕ) (rs : List Run) → other_than s (set_before rs) ≡ true → Other s rs
unfolding Other
other_true s [] e = tt
other_true s (r ∷ rs) e = λ f. eqb-false s r.set (not-true (eqb s r.set) e) (sym f)

pub true_other : (s : ℕ) (rs : List Run) → Other s rs → other_than s (set_before rs) ≡ true
unfolding Other
true_other s [] o = refl
true_other s (r ∷ rs) o = rw (ne_eqb s r.set (λ f. o (sym f)))

-- each set is at most so much, and each length fits 64 bits
unfoldable pub SetsWithin : ℕ → List Run → Type 0
SetsWithin most [] = Unit {0}
SetsWithin most (r ∷ rs) = (r.set ≤ most) × (r.len < 2 ^ 64) × SetsWithin most rs

-- ---- one run
pub record RunRead (most : ℕ) (rs : List Run) (n : ℕ) (t : List ℕ) (r : Run) (m : ℕ) (rest : List ℕ) : Type 0 where
  pub lines : m ≡ n + 2
  pub is : t ≡ run_text r ++ rest
  pub long : 0 < r.len
  pub fits : r.len < 2 ^ 64
  pub within : r.set ≤ most
  pub other : Other r.set rs

pub run_only : (most : ℕ) (rs : List Run) (n : ℕ) (t : List ℕ) (r : Run) (m : ℕ) (rest : List ℕ) → run_lines most (set_before rs) n t ≡ got r m rest → RunRead most rs n t r m rest
unfolding run_lines
run_only most rs n t r m rest e =
    let a = then_got (number_line (bytes "len=") 1 (2 ^ 64 - 1) n t) (λ len n t. then (hex_line (bytes "set=") 0 most n t) λ set n t. provided (other_than set (set_before rs)) (run len set) n t) r m rest e in
    let b = then_got (hex_line (bytes "set=") 0 most a.lines a.text) (λ set n t. provided (other_than set (set_before rs)) (run a.value set) n t) r m rest a.second in
    let p = provided_got (other_than b.value (set_before rs)) (run a.value b.value) b.lines b.text r m rest b.second in
    let x = number_only (bytes "len=") 1 (2 ^ 64 - 1) n t a.value a.lines a.text a.first in
    let y = hex_line_only (bytes "set=") 0 most a.lines a.text b.value b.lines b.text b.first in
    let len : a.value ≡ r.len = ap (λ (z : Run). z.len) p.1 in
    let set : b.value ≡ r.set = ap (λ (z : Run). z.set) p.1 in
    record {
      lines = omega (arith, x.lines, y.lines, p.2);
      is = x.is
          ∙ ap (λ (l : List ℕ). number_text (bytes "len=") a.value ++ l) (y.is ∙ ap (λ (l : List ℕ). digits_text (bytes "set=") b.value ++ l) p.3)
          ∙ sym (append_assoc (number_text (bytes "len=") a.value) (digits_text (bytes "set=") b.value) rest)
          ∙ ap (λ (z : Run). run_text z ++ rest) p.1;
      long = omega (arith, x.low);
      fits = omega (arith, x.high);
      within = omega (arith, y.high);
      other = other_true r.set rs (ap (λ (s : ℕ). other_than s (set_before rs)) (sym set) ∙ p.0);
    }

len_free : holds 10 (bytes "len=") ≡ false
unfolding holds
len_free = refl

set_free : holds 10 (bytes "set=") ≡ false
unfolding holds
set_free = refl

pub run_back : (most : ℕ) (rs : List Run) (n : ℕ) (r : Run) (rest : List ℕ) → 0 < r.len → r.len < 2 ^ 64 → r.set ≤ most → most < 2 ^ 64 → Other r.set rs
    → run_lines most (set_before rs) n (run_text r ++ rest) ≡ got r (n + 1 + 1) rest
unfolding run_lines
run_back most rs n r rest a b c d o =
    rw (append_assoc (number_text (bytes "len=") r.len) (digits_text (bytes "set=") r.set) rest)
    (rw (number_back (bytes "len=") 1 (2 ^ 64 - 1) n r.len (digits_text (bytes "set=") r.set ++ rest) len_free a (omega arith) b)
    (rw (hex_line_back (bytes "set=") 0 most (n + 1) r.set rest set_free (omega arith) c (omega arith))
    (rw (true_other r.set rs o))))

-- ---- all runs
pub record RunsRead (most : ℕ) (acc : List Run) (k n : ℕ) (t : List ℕ) (rs : List Run) (m : ℕ) (rest : List ℕ) : Type 0 where
  pub is : runs_text acc ++ t ≡ runs_text rs ++ rest
  pub count : length rs ≡ length acc + k
  pub lines : m ≡ n + 2 * k
  pub canon : Canon acc → Canon rs
  pub within : SetsWithin most acc → SetsWithin most rs

pub runs_only : (k most : ℕ) (acc : List Run) (n : ℕ) (t : List ℕ) (rs : List Run) (m : ℕ) (rest : List ℕ) → runs_lines most acc k n t ≡ got rs m rest → RunsRead most acc k n t rs m rest
unfolding runs_lines runs_text Canon SetsWithin
runs_only zero most acc n t rs m rest e =
    let a : acc ≡ rs = cc in
    let b : n ≡ m = cc in
    let c : t ≡ rest = cc in
    record {
      is = ap₂ (λ (x : List Run) (y : List ℕ). runs_text x ++ y) a c;
      count = omega (arith, ap length a);
      lines = omega arith;
      canon = λ h. rw a at h;
      within = λ h. rw a at h;
    }
runs_only (suc k) most acc n t rs m rest e =
    let a = then_got (run_lines most (set_before acc) n t) (λ r n t. runs_lines most (r ∷ acc) k n t) rs m rest e in
    let r = a.value in
    let x = run_only most acc n t a.value a.lines a.text a.first in
    let y = runs_only k most (a.value ∷ acc) a.lines a.text rs m rest a.second in
    record {
      is = ap (λ (l : List ℕ). runs_text acc ++ l) x.is ∙ sym (append_assoc (runs_text acc) (run_text a.value) a.text) ∙ y.is;
      count = omega (arith, y.count);
      lines = omega (arith, x.lines, y.lines);
      canon = λ h. y.canon (x.long, x.other, h);
      within = λ h. y.within (x.within, x.fits, h);
    }

-- a text of joined runs, and k more behind it
pub runs_back : (rs : List Run) (k most n : ℕ) (rest : List ℕ) → most < 2 ^ 64 → Canon rs → SetsWithin most rs
    → runs_lines most [] (length rs + k) n (runs_text rs ++ rest) ≡ runs_lines most rs k (n + 2 * length rs) rest
unfolding runs_lines runs_text Canon SetsWithin
runs_back [] k most n rest d c w =
    let a : 0 + k ≡ k = omega arith in
    let b : n ≡ n + 2 * 0 = omega arith in
    ap₂ (λ (j i : ℕ). runs_lines most [] j i rest) a b
runs_back (r ∷ rs) k most n rest d c w =
    let a : suc (length rs) + k ≡ length rs + suc k = omega arith in
    let i : n + 2 * length rs + 1 + 1 ≡ n + 2 * suc (length rs) = omega arith in
    ap₂ (λ (j : ℕ) (x : List ℕ). runs_lines most [] j n x) a (append_assoc (runs_text rs) (run_text r) rest)
    ∙ runs_back rs (suc k) most n (run_text r ++ rest) d c.2 w.2
    ∙ ap (λ (g : Got Run). then g λ r n t. runs_lines most (r ∷ rs) k n t) (run_back most rs (n + 2 * length rs) r rest c.0 w.1 w.0 d c.1)
    ∙ ap (λ (j : ℕ). runs_lines most (r ∷ rs) k j rest) i
