-- What is accepted is exactly the lines of the names that it says; the lines of any at most 64 good names are accepted; and the line that is
-- told is the first wrong one, of which there is one.
use Rattle.std.specs.Prelude.{Option, Some, None}
use mathlib.Core.Path.{◌≡◌, refl, sym, ap, ap₂, ◌∙◌}
use mathlib.Core.Bool.{Bool, true, false, cond, ◌&&◌, and-eq-true_iff}
use mathlib.Core.List.{List, [], ◌∷◌, ◌++◌, append_assoc, append-nil}
use Prim.Native.Nat.{ℕ, zero, suc, ◌+◌, ◌-◌, ◌≤◌, ◌<◌}
use native.Mathlib.Decide.{ℕ_discrete}
use native.Mathlib.Omega.{arith}
use lib.Dec.{leb}
use lib.ListN.{length, drop, length-append}
use lib.Seq.{append_snoc, drop-append-add}
use borrow.Author.Tests.{leb-true, le-leb}
use Rattle.text.specs.Bytes.{bytes, up_to, holds}
use Rattle.text.specs.Number.{decimal_of, decimal_text}
use Rattle.text.proofs.Finding.{held_past}
use Rattle.text.proofs.Laws.{decimal_only, decimal_back}
use Rattle.text_lines.specs.Lines.{Got, bad, got, then, behind, named, said, line, within, decimal_from, word_text}
use Rattle.text_lines.proofs.Ends.{holds_append, decimal_none}
use Rattle.text_lines.proofs.Laws.{line_only, line_back}
use Rattle.text_lines.proofs.Then.{then_got, got_inj, Stopped, at_first, later, then_bad}
use Rattle.key_names.specs.Names.{Named, name_line, ahead, name_lines, names_in, Good, AllGood, name_text, names_text}
use Rattle.key_names.proofs.Lines.{line_good, lines_on, lines_end, lines_over, ahead_none, ahead_ahead}
use Rattle.key_names.proofs.Spelled.{name_sized}
use Rattle.key_names.proofs.Splits.{front_text, held_text, held_split, name_lacks}

-- ---- one line
-- what stands in the line of a name
abbrev word_of : Named → List ℕ
word_of a = a.name ++ bytes "=" ++ decimal_text a.key

within_some : (p : Option ℕ) (v : ℕ) → within 0 65535 p ≡ Some v → (p ≡ Some v) × (v ≤ 65535)
within_some None v e = let z : ◌≡◌ {A = ℕ} 0 1 = cc in absurd (omega arith)
within_some (Some w) v e = by (leb 0 w && leb w 65535) refl e where
  by : (b : Bool) → (leb 0 w && leb w 65535) ≡ b → cond b (Some w) None ≡ Some v → (Some w ≡ Some v) × (v ≤ 65535)
  by true h f =
      let q : w ≡ v = cc in
      (ap Some q, omega (arith, q, leb-true w 65535 ((and-eq-true_iff (leb 0 w) (leb w 65535)).0 h).1))
  by false h f = let z : ◌≡◌ {A = ℕ} 0 1 = cc in absurd (omega arith)

-- a good line is that of the name that it says
word_only : (l : List ℕ) (a : Named) → name_line l ≡ Some a → (l ≡ word_of a) × Good a
word_only l a e =
    let w = line_good l a e in
    let rest : List ℕ = drop (length (up_to 61 l) + 1) l in
    let n = within_some (decimal_of rest) a.key w.number in (
      held_split 61 l w.equals
          ∙ ap₂ (λ (s t : List ℕ). s ++ 61 ∷ t) (sym w.name_is) (decimal_only rest a.key n.0)
          ∙ sym (append_snoc a.name 61 (decimal_text a.key)),
      record { key_most = n.1; good_name = w.good },
    )

-- and the line of a good name says it
word_back : (a : Named) → Good a → name_line (word_of a) ≡ Some a
unfolding name_line
word_back a g =
    let s = name_sized a.name g.good_name in
    let free : holds 61 a.name ≡ false = name_lacks 61 refl a.name s.all in
    let digits : List ℕ = decimal_text a.key in
    let low = g.key_most in
    let number : decimal_from 0 65535 digits ≡ Some a.key = rw (decimal_back a.key (omega arith)) (rw (le-leb 0 a.key (omega arith)) (rw (le-leb a.key 65535 low))) in
    rw (append_snoc a.name 61 digits)
    (rw (held_text 61 a.name digits free)
    (rw (front_text 61 a.name digits free)
    (rw (drop-append-add a.name (61 ∷ digits) 1)
    (rw number (rw g.good_name)))))

-- it has no newline in it
word_free : (a : Named) → Good a → holds 10 (word_of a) ≡ false
unfolding holds
word_free a g =
    let s = name_sized a.name g.good_name in
    ap (holds 10) (append_snoc a.name 61 (decimal_text a.key))
    ∙ holds_append a.name (61 ∷ decimal_text a.key) (name_lacks 10 refl a.name s.all)
    ∙ held_past 10 61 (decimal_text a.key) (λ e. omega arith)
    ∙ decimal_none a.key

free_none : holds 10 [] ≡ false
unfolding holds
free_none = refl

line_read : (n : ℕ) (a : Named) (rest : List ℕ) → Good a → line [] name_line n (name_text a ++ rest) ≡ got a (n + 1) rest
line_read n a rest g = line_back [] name_line n (word_of a) a rest free_none (word_free a g) (word_back a g)

-- ---- what is accepted is the lines of its names
pub record Accepted (k n : ℕ) (text : List ℕ) (ns : List Named) (m : ℕ) (rest : List ℕ) : Type 0 where
  pub is : text ≡ names_text ns
  pub good : AllGood ns
  pub few : length ns ≤ k
  pub lines : m ≡ n + length ns
  pub ends : rest ≡ []

ahead_got : (front : List Named) (g : Got (List Named)) (ns : List Named) (m : ℕ) (rest : List ℕ) → ahead front g ≡ got ns m rest → (bs : List Named) × (g ≡ got bs m rest) × (ns ≡ front ++ bs)
ahead_got front (bad n) ns m rest e = let z : ◌≡◌ {A = ℕ} 0 1 = cc in absurd (omega arith)
ahead_got front (got bs n t) ns m rest e =
    let k : n ≡ m = cc in
    let r : t ≡ rest = cc in
    (bs, ap₂ (λ (j : ℕ) (x : List ℕ). got bs j x) k r, cc)

empty : (t : List ℕ) → length t ≡ 0 → t ≡ []
empty [] e = refl
empty (c ∷ t) e = absurd (omega arith)

none_accepted : (k n : ℕ) (text : List ℕ) (ns : List Named) (m : ℕ) (rest : List ℕ) → text ≡ [] → got [] n [] ≡ got ns m rest → Accepted k n text ns m rest
unfolding names_text AllGood
none_accepted k n text ns m rest e f =
    let i = got_inj [] ns n m [] rest f in
    rw (← i.0) record { is = e; good = tt; few = omega arith; lines = omega (arith, i.1); ends = sym i.2 }

more_accepted : (k n : ℕ) (text : List ℕ) (ns : List Named) (m : ℕ) (rest : List ℕ) → then (line [] name_line n text) (λ a n x. ahead (a ∷ []) (name_lines k n x)) ≡ got ns m rest
    → ((n : ℕ) (text : List ℕ) (ns : List Named) → name_lines k n text ≡ got ns m rest → Accepted k n text ns m rest) → Accepted (suc k) n text ns m rest
unfolding names_text AllGood
more_accepted k n text ns m rest e again =
    let a = then_got (line [] name_line n text) (λ a n x. ahead (a ∷ []) (name_lines k n x)) ns m rest e in
    let l = line_only [] name_line n text a.value a.lines a.text a.first in
    let w = word_only l.1.word a.value l.1.good in
    let b = ahead_got (a.value ∷ []) (name_lines k a.lines a.text) ns m rest a.second in
    let r = again a.lines a.text b.0 b.1 in
    rw b.2
    record {
      is = l.1.is ∙ ap₂ (λ (x y : List ℕ). word_text [] x ++ y) w.0 r.is;
      good = (w.1, r.good);
      few = omega (arith, r.few);
      lines = omega (arith, r.lines, l.0);
      ends = r.ends;
    }

zero_accepted : (n : ℕ) (text : List ℕ) (ns : List Named) (m : ℕ) (rest : List ℕ) → name_lines 0 n text ≡ got ns m rest → Accepted 0 n text ns m rest
zero_accepted n [] ns m rest f = none_accepted 0 n [] ns m rest refl (sym (lines_end 0 n) ∙ f)
zero_accepted n (c ∷ t) ns m rest f =
    let g : bad (n + 1) ≡ got ns m rest = sym (lines_over n (c ∷ t) (omega arith)) ∙ f in
    let z : ◌≡◌ {A = ℕ} 0 1 = cc in
    absurd (omega arith)

lines_only : (k n : ℕ) (text : List ℕ) (ns : List Named) (m : ℕ) (rest : List ℕ) → name_lines k n text ≡ got ns m rest → Accepted k n text ns m rest
lines_only zero n text ns m rest e = zero_accepted n text ns m rest e
lines_only (suc k) n text ns m rest e =
    elim (ℕ_discrete (length text) 0) [
      | yes h ↦
          let t : text ≡ [] = empty text h in
          none_accepted (suc k) n text ns m rest t (sym (lines_end (suc k) n) ∙ ap (name_lines (suc k) n) (sym t) ∙ e)
      | no h ↦ more_accepted k n text ns m rest (sym (lines_on k n text (omega arith)) ∙ e) (λ n text ns f. lines_only k n text ns m rest f)
    ]

pub accepted_only : (text : List ℕ) (ns : List Named) (m : ℕ) (rest : List ℕ) → names_in text ≡ got ns m rest → Accepted 64 0 text ns m rest
unfolding names_in
accepted_only text ns m rest e = lines_only 64 0 text ns m rest e

-- ---- the lines of good names are accepted, and say them
-- good names in front of a text that is not empty, or of none
long_enough : (a : Named) (rest : List ℕ) → 0 < length (name_text a ++ rest)
long_enough a rest = omega (arith, length-append (name_text a) rest, length-append (word_of a) (bytes "\n"))

names_read : (ns : List Named) (k n : ℕ) (rest : List ℕ) → AllGood ns → name_lines (length ns + k) n (names_text ns ++ rest) ≡ ahead ns (name_lines k (n + length ns) rest)
unfolding names_text AllGood
names_read [] k n rest g =
    let z : 0 + k ≡ k = omega arith in
    let y : n ≡ n + 0 = omega arith in
    ap₂ (λ (i j : ℕ). name_lines i j rest) z y ∙ sym (ahead_none (name_lines k (n + 0) rest))
names_read (a ∷ bs) k n rest g =
    let z : suc (length bs) + k ≡ suc (length bs + k) = omega arith in
    let y : n + 1 + length bs ≡ n + suc (length bs) = omega arith in
    ap₂ (λ (i : ℕ) (t : List ℕ). name_lines i n t) z (append_assoc (name_text a) (names_text bs) rest)
    ∙ lines_on (length bs + k) n (name_text a ++ (names_text bs ++ rest)) (long_enough a (names_text bs ++ rest))
    ∙ ap (λ (l : Got Named). then l λ b n x. ahead (b ∷ []) (name_lines (length bs + k) n x)) (line_read n a (names_text bs ++ rest) g.0)
    ∙ ap (ahead (a ∷ [])) (names_read bs k (n + 1) rest g.1)
    ∙ ahead_ahead (a ∷ []) bs (name_lines k (n + 1 + length bs) rest)
    ∙ ap (λ (j : ℕ). ahead (a ∷ bs) (name_lines k j rest)) y

pub text_accepted : (ns : List Named) → AllGood ns → length ns ≤ 64 → names_in (names_text ns) ≡ got ns (length ns) []
unfolding names_in
text_accepted ns g h =
    let z : 64 ≡ length ns + (64 - length ns) = omega arith in
    let y : 0 + length ns ≡ length ns = omega arith in
    ap₂ (λ (i : ℕ) (t : List ℕ). name_lines i 0 t) z (sym (append-nil (names_text ns)))
    ∙ names_read ns (64 - length ns) 0 [] g
    ∙ ap (ahead ns) (lines_end (64 - length ns) (0 + length ns))
    ∙ ap₂ (λ (l : List Named) (j : ℕ). got l j []) (append-nil ns) y

-- equal names, equal text
pub equal_names : (a b : List ℕ) (ns : List Named) (m n : ℕ) (x y : List ℕ) → names_in a ≡ got ns m x → names_in b ≡ got ns n y → a ≡ b
equal_names a b ns m n x y e f = (accepted_only a ns m x e).is ∙ sym (accepted_only b ns n y f).is

-- ---- the first wrong line
-- so many good lines, at most k, and behind them text that begins with no good line, or is one line too many; counted behind n lines
pub record FirstWrong (k n : ℕ) (text : List ℕ) (m : ℕ) : Type 0 where
  pub before : List Named
  pub rest : List ℕ
  pub good : AllGood before
  pub few : length before ≤ k
  pub is : text ≡ names_text before ++ rest
  pub counted : m ≡ n + length before + 1
  pub left : 0 < length rest
  pub wrong : length before < k → line [] name_line (n + length before) rest ≡ bad m

-- such a line is told
wrong_told : (k n : ℕ) (text : List ℕ) (m : ℕ) → FirstWrong k n text m → name_lines k n text ≡ bad m
wrong_told k n text m w = by (k - length w.before) refl where
  z : k ≡ length w.before + (k - length w.before)
  z = omega (arith, w.few)

  front : name_lines k n text ≡ ahead w.before (name_lines (k - length w.before) (n + length w.before) w.rest)
  front = ap₂ (λ (i : ℕ) (t : List ℕ). name_lines i n t) z w.is ∙ names_read w.before (k - length w.before) n w.rest w.good

  by : (j : ℕ) → k - length w.before ≡ j → name_lines k n text ≡ bad m
  by zero e =
      front
      ∙ ap (λ (i : ℕ). ahead w.before (name_lines i (n + length w.before) w.rest)) e
      ∙ ap (ahead w.before) (lines_over (n + length w.before) w.rest w.left)
      ∙ ap bad (sym w.counted)
  by (suc j) e =
      front
      ∙ ap (λ (i : ℕ). ahead w.before (name_lines i (n + length w.before) w.rest)) e
      ∙ ap (ahead w.before) (lines_on j (n + length w.before) w.rest w.left)
      ∙ ap (λ (l : Got Named). ahead w.before (then l λ b i x. ahead (b ∷ []) (name_lines j i x))) (w.wrong (omega arith))

-- and what is told is such a line
ahead_bad : (front : List Named) (g : Got (List Named)) (m : ℕ) → ahead front g ≡ bad m → g ≡ bad m
ahead_bad front (bad n) m e = e
ahead_bad front (got bs n t) m e = let z : ◌≡◌ {A = ℕ} 0 1 = cc in absurd (omega arith)

line_bad : (n : ℕ) (text : List ℕ) (m : ℕ) → line [] name_line n text ≡ bad m → m ≡ n + 1
unfolding line
line_bad n text m e = by (holds 10 text) (named [] name_line (up_to 10 text)) e where
  by : (b : Bool) (o : Option Named) → cond b (said n (behind text) o) (bad (n + 1)) ≡ bad m → m ≡ n + 1
  by true None f = cc
  by true (Some v) f = let z : ◌≡◌ {A = ℕ} 0 1 = cc in absurd (omega arith)
  by false o f = cc

first_bad : (k n : ℕ) (text : List ℕ) (m : ℕ) → 0 < length text → line [] name_line n text ≡ bad m → FirstWrong k n text m
unfolding names_text AllGood
first_bad k n text m l e =
    let z : n + 0 ≡ n = omega arith in
    record {
      before = [];
      rest = text;
      good = tt;
      few = omega arith;
      is = refl;
      counted = omega (arith, line_bad n text m e);
      left = l;
      wrong = λ _. rw z e;
    }

later_bad : (k n : ℕ) (text : List ℕ) (m : ℕ) (a : Named) (i : ℕ) (t : List ℕ) → line [] name_line n text ≡ got a i t → FirstWrong k i t m → FirstWrong (suc k) n text m
unfolding names_text AllGood
later_bad k n text m a i t e w =
    let l = line_only [] name_line n text a i t e in
    let g = word_only l.1.word a l.1.good in
    let z : i + length w.before ≡ n + suc (length w.before) = omega (arith, l.0) in
    record {
      before = a ∷ w.before;
      rest = w.rest;
      good = (g.1, w.good);
      few = omega (arith, w.few);
      is = l.1.is ∙ ap₂ (λ (x y : List ℕ). word_text [] x ++ y) g.0 w.is ∙ sym (append_assoc (name_text a) (names_text w.before) w.rest);
      counted = omega (arith, w.counted, l.0);
      left = w.left;
      wrong = λ h. rw (← z) (w.wrong (omega arith));
    }

-- one line more than there may be
over_bad : (n : ℕ) (text : List ℕ) (m : ℕ) → name_lines 0 n text ≡ bad m → FirstWrong 0 n text m
unfolding names_text AllGood
over_bad n [] m e = let g : got [] n [] ≡ bad m = sym (lines_end 0 n) ∙ e in let z : ◌≡◌ {A = ℕ} 0 1 = cc in absurd (omega arith)
over_bad n (c ∷ t) m e =
    let g : bad (n + 1) ≡ bad m = sym (lines_over n (c ∷ t) (omega arith)) ∙ e in
    let z : n + 1 ≡ m = cc in
    record { before = []; rest = c ∷ t; good = tt; few = omega arith; is = refl; counted = omega arith; left = omega arith; wrong = λ h. absurd (omega arith) }

stopped_bad : (k n : ℕ) (text : List ℕ) (m : ℕ) → 0 < length text → ((n : ℕ) (text : List ℕ) → name_lines k n text ≡ bad m → FirstWrong k n text m)
    → Stopped {B = List Named} (line [] name_line n text) (λ a n x. ahead (a ∷ []) (name_lines k n x)) m → FirstWrong (suc k) n text m
stopped_bad k n text m l again (at_first e) = first_bad (suc k) n text m l e
stopped_bad k n text m l again (later a i t e f) = later_bad k n text m a i t e (again i t (ahead_bad (a ∷ []) (name_lines k i t) m f))

told_wrong : (k n : ℕ) (text : List ℕ) (m : ℕ) → name_lines k n text ≡ bad m → FirstWrong k n text m
told_wrong zero n text m e = over_bad n text m e
told_wrong (suc k) n text m e =
    elim (ℕ_discrete (length text) 0) [
      | yes h ↦
          let g : got [] n [] ≡ bad m = sym (lines_end (suc k) n) ∙ ap (name_lines (suc k) n) (sym (empty text h)) ∙ e in
          let z : ◌≡◌ {A = ℕ} 0 1 = cc in
          absurd (omega arith)
      | no h ↦
          stopped_bad k n text m (omega arith) (λ n text f. told_wrong k n text m f)
          (then_bad (line [] name_line n text) (λ a n x. ahead (a ∷ []) (name_lines k n x)) m (sym (lines_on k n text (omega arith)) ∙ e))
    ]

pub wrong_first : (text : List ℕ) (m : ℕ) → names_in text ≡ bad m → FirstWrong 64 0 text m
unfolding names_in
wrong_first text m e = told_wrong 64 0 text m e

pub first_wrong : (text : List ℕ) (m : ℕ) → FirstWrong 64 0 text m → names_in text ≡ bad m
unfolding names_in
first_wrong text m w = wrong_told 64 0 text m w

-- there is one
pub one_wrong : (text : List ℕ) (m n : ℕ) → FirstWrong 64 0 text m → FirstWrong 64 0 text n → m ≡ n
one_wrong text m n v w = let e : ◌≡◌ {A = Got (List Named)} (bad m) (bad n) = sym (first_wrong text m v) ∙ first_wrong text n w in cc

-- it is one of 1 to 65
pub wrong_counted : (text : List ℕ) (m : ℕ) → names_in text ≡ bad m → (1 ≤ m) × (m ≤ 65)
wrong_counted text m e = let w = wrong_first text m e in (omega (arith, w.counted), omega (arith, w.counted, w.few))
