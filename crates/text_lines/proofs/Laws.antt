-- A line is read where it is written: what is accepted is a name, a word that is good, and a newline; and every such line is.
use Rattle.std.specs.Prelude.{Option, Some, None}
use mathlib.Core.Path.{◌≡◌, refl, sym, ap, ap₂, ◌∙◌}
use mathlib.Core.Bool.{Bool, true, false, cond, ◌&&◌, and-eq-true_iff}
use mathlib.Core.List.{List, [], ◌∷◌, ◌++◌, append_assoc}
use Prim.Native.Nat.{ℕ, ◌+◌, ◌-◌, ◌^◌, ◌≤◌, ◌<◌}
use native.Mathlib.Omega.{arith}
use lib.Dec.{leb, ltb}
use lib.ListN.{length, take, drop, length-drop}
use lib.Seq.{drop-append_seam, drop-drop}
use borrow.Author.Tests.{le-leb, lt-leb, leb-true, lt-ltb, le-ltb}
use Rattle.text.specs.Bytes.{up_to, holds, starts_of}
use Rattle.text.specs.Number.{decimal_of, hex_of, decimal_text, hex_text}
use Rattle.text.proofs.Finding.{front_part, held_by_length}
use Rattle.text.proofs.Prefix.{starts_split, split_starts}
use Rattle.text.proofs.Laws.{decimal_only, decimal_back, hex_only, hex_back}
use Rattle.text_lines.specs.Lines.{bad, got, behind, named, said, line, within, decimal_from, hex_from, number_line, hex_line, word_text, number_text, digits_text, at, taken_by, got_by}
use Rattle.text_lines.proofs.Ends.{front_line, held_line_lem, held_split, held_inside, holds_append, decimal_none, hex_none}

-- ---- What the code hands back says the same
module _ (name : List ℕ) (way : List ℕ → Option ℕ) (text : List ℕ) (from : ℕ) where
  place_of : (n k : ℕ) (o : Option ℕ) → got_by text n (at k o) ≡ said n (drop k text) o
  place_of n k None = refl
  place_of n k (Some v) = refl

  pub taken_is : (n : ℕ) → got_by text n (taken_by name way text from) ≡ line name way n (drop from text)
  unfolding taken_by line
  taken_is n = by (holds 10 (drop from text)) where
    here : ℕ
    here = from + length (up_to 10 (drop from text)) + 1

    there : drop here text ≡ behind (drop from text)
    there =
        let e : here ≡ from + (length (up_to 10 (drop from text)) + 1) = omega arith in
        ap (λ (k : ℕ). drop k text) e ∙ sym (drop-drop (length (up_to 10 (drop from text)) + 1) from text)

    by : (b : Bool) → got_by text n (cond b (at here (named name way (up_to 10 (drop from text)))) None) ≡ cond b (said n (behind (drop from text)) (named name way (up_to 10 (drop from text)))) (bad (n + 1))
    by true = place_of n here (named name way (up_to 10 (drop from text))) ∙ ap (λ (t : List ℕ). said n t (named name way (up_to 10 (drop from text)))) there
    by false = refl

  -- the search for a newline says whether there is a line
  module _ (end : ℕ) (e : end ≡ from + length (up_to 10 (drop from text))) where
    ends : (b : Bool) → ltb (length (up_to 10 (drop from text))) (length (drop from text)) ≡ b → holds 10 (drop from text) ≡ b
    ends b h = held_by_length 10 (drop from text) ∙ h

    pub taken_here : end < length text → at (end + 1) (named name way (take (end - from) (drop from text))) ≡ taken_by name way text from
    unfolding taken_by
    taken_here h =
        rw (ends true (lt-ltb (length (up_to 10 (drop from text))) (length (drop from text)) (omega (arith, length-drop from text))))
        (rw (front_part 10 text from end e) (ap (λ (k : ℕ). at (k + 1) (named name way (up_to 10 (drop from text)))) e))

    pub taken_none : length text ≤ end → None ≡ taken_by name way text from
    unfolding taken_by
    taken_none h = rw (ends false (le-ltb (length (up_to 10 (drop from text))) (length (drop from text)) (omega (arith, length-drop from text))))

pub named_here : {A : Type 0} (name : List ℕ) (way : List ℕ → Option A) (l : List ℕ) → starts_of l name ≡ true → named name way l ≡ way (drop (length name) l)
named_here name way l e = rw e

pub named_none : {A : Type 0} (name : List ℕ) (way : List ℕ → Option A) (l : List ℕ) → starts_of l name ≡ false → named name way l ≡ None
named_none name way l e = rw e

-- the place behind a line that was read is inside the text
at_number : (k : ℕ) (o : Option ℕ) (v p : ℕ) → at k o ≡ Some (v, p) → p ≡ k
at_number k None v p e = let z : ◌≡◌ {A = ℕ} 0 1 = cc in absurd (omega arith)
at_number k (Some w) v p e = let q : ◌≡◌ {A = ℕ × ℕ} (w, k) (v, p) = cc in ap (λ (x : ℕ × ℕ). x.1) (sym q)

pub taken_inside : (name : List ℕ) (way : List ℕ → Option ℕ) (text : List ℕ) (from v p : ℕ) → taken_by name way text from ≡ Some (v, p) → p ≤ length text
unfolding taken_by
taken_inside name way text from v p e = by (holds 10 (drop from text)) (held_inside (drop from text)) e where
  by : (b : Bool) → (b ≡ true → length (up_to 10 (drop from text)) < length (drop from text))
      → cond b (at (from + length (up_to 10 (drop from text)) + 1) (named name way (up_to 10 (drop from text)))) None ≡ Some (v, p) → p ≤ length text
  by true h e = omega (arith, h refl, length-drop from text, at_number _ (named name way (up_to 10 (drop from text))) v p e)
  by false h e = let z : ◌≡◌ {A = ℕ} 0 1 = cc in absurd (omega arith)

-- ---- A line is exact
-- the word of a good line
pub record Word {A : Type 0} (name : List ℕ) (way : List ℕ → Option A) (t : List ℕ) (a : A) (rest : List ℕ) : Type 0 where
  pub word : List ℕ
  pub good : way word ≡ Some a
  pub is : t ≡ word_text name word ++ rest

-- what is good behind a test passed it
passed : {A : Type 0} (b : Bool) (o : Option A) (a : A) → cond b o None ≡ Some a → (b ≡ true) × (o ≡ Some a)
passed true o a e = (refl, e)
passed false o a e = let z : ◌≡◌ {A = ℕ} 0 1 = cc in absurd (omega arith)

word_append : (name w t : List ℕ) → (name ++ w) ++ 10 ∷ t ≡ word_text name w ++ t
word_append name w t = sym (append_assoc (name ++ w) (10 ∷ []) t)

said_got : {A : Type 0} (n : ℕ) (t : List ℕ) (o : Option A) (a : A) (m : ℕ) (rest : List ℕ) → said n t o ≡ got a m rest → (o ≡ Some a) × (m ≡ n + 1) × (t ≡ rest)
said_got n t None a m rest e = let z : ◌≡◌ {A = ℕ} 0 1 = cc in absurd (omega arith)
said_got n t (Some b) a m rest e = let p : b ≡ a = cc in (ap Some p, cc, cc)

module _ {A : Type 0} (name : List ℕ) (way : List ℕ → Option A) where
  pub line_only : (n : ℕ) (t : List ℕ) (a : A) (m : ℕ) (rest : List ℕ) → line name way n t ≡ got a m rest → (m ≡ n + 1) × Word name way t a rest
  unfolding line
  line_only n t a m rest e = by (holds 10 t) (held_split t) e where
    by : (b : Bool) → (b ≡ true → t ≡ up_to 10 t ++ 10 ∷ behind t) → cond b (said n (behind t) (named name way (up_to 10 t))) (bad (n + 1)) ≡ got a m rest → (m ≡ n + 1) × Word name way t a rest
    by false h e = let z : ◌≡◌ {A = ℕ} 0 1 = cc in absurd (omega arith)
    by true h e =
        let s = said_got n (behind t) (named name way (up_to 10 t)) a m rest e in
        let p = passed (starts_of (up_to 10 t) name) (way (drop (length name) (up_to 10 t))) a s.0 in (
          s.1,
          record {
            word = drop (length name) (up_to 10 t);
            good = p.1;
            is = h refl
                ∙ ap₂ (λ (l r : List ℕ). l ++ 10 ∷ r) (starts_split (up_to 10 t) name p.0) s.2
                ∙ word_append name (drop (length name) (up_to 10 t)) rest;
          },
        )

  pub line_back : (n : ℕ) (w : List ℕ) (a : A) (rest : List ℕ) → holds 10 name ≡ false → holds 10 w ≡ false → way w ≡ Some a → line name way n (word_text name w ++ rest) ≡ got a (n + 1) rest
  unfolding line
  line_back n w a rest hn hw e =
      let free : holds 10 (name ++ w) ≡ false = holds_append name w hn ∙ hw in
      rw (← word_append name w rest)
      (rw (held_line_lem (name ++ w) rest free)
      (rw (front_line (name ++ w) rest free)
      (rw (split_starts name w)
      (rw (drop-append_seam name w)
      (rw e
      (ap (λ (l : List ℕ). got a (n + 1) l) (after rest))))))) where
        after : (rest : List ℕ) → drop (length (name ++ w) + 1) ((name ++ w) ++ 10 ∷ rest) ≡ rest
        after rest = lib.Seq.drop-append-add (name ++ w) (10 ∷ rest) 1

  -- a word that the way does not take is wrong
  pub line_none : (n : ℕ) (w rest : List ℕ) → holds 10 name ≡ false → holds 10 w ≡ false → way w ≡ None → line name way n (word_text name w ++ rest) ≡ bad (n + 1)
  unfolding line
  line_none n w rest hn hw e =
      let free : holds 10 (name ++ w) ≡ false = holds_append name w hn ∙ hw in
      rw (← word_append name w rest)
      (rw (held_line_lem (name ++ w) rest free)
      (rw (front_line (name ++ w) rest free)
      (rw (split_starts name w)
      (rw (drop-append_seam name w)
      (rw e)))))

-- ---- A number's line
within_some : (least most : ℕ) (p : Option ℕ) (v : ℕ) → within least most p ≡ Some v → (p ≡ Some v) × (least ≤ v) × (v ≤ most)
within_some least most None v e = let z : ◌≡◌ {A = ℕ} 0 1 = cc in absurd (omega arith)
within_some least most (Some w) v e =
    let p = passed (leb least w && leb w most) (Some w) v e in
    let q : w ≡ v = cc p.1 in
    let t = (and-eq-true_iff (leb least w) (leb w most)).0 p.0 in
    (ap Some q, omega (arith, leb-true least w t.0), omega (arith, leb-true w most t.1))

within_back : (least most v : ℕ) → least ≤ v → v ≤ most → within least most (Some v) ≡ Some v
within_back least most v l m = rw (le-leb least v l) (rw (le-leb v most m))

-- what is known of a number's line that was read
pub record Numbered (name : List ℕ) (least most n : ℕ) (t : List ℕ) (v m : ℕ) (rest : List ℕ) : Type 0 where
  pub lines : m ≡ n + 1
  pub is : t ≡ number_text name v ++ rest
  pub low : least ≤ v
  pub high : v ≤ most

pub number_only : (name : List ℕ) (least most n : ℕ) (t : List ℕ) (v m : ℕ) (rest : List ℕ) → number_line name least most n t ≡ got v m rest → Numbered name least most n t v m rest
number_only name least most n t v m rest e =
    let o = line_only name (decimal_from least most) n t v m rest e in
    let w = within_some least most (decimal_of o.1.word) v o.1.good in
    record {
      lines = o.0;
      is = o.1.is ∙ ap (λ (s : List ℕ). word_text name s ++ rest) (decimal_only o.1.word v w.0);
      low = w.1;
      high = w.2;
    }

pub number_back : (name : List ℕ) (least most n v : ℕ) (rest : List ℕ) → holds 10 name ≡ false → least ≤ v → v ≤ most → v < 2 ^ 64 → number_line name least most n (number_text name v ++ rest) ≡ got v (n + 1) rest
number_back name least most n v rest h l m k =
    line_back name (decimal_from least most) n (decimal_text v) v rest h (decimal_none v) (rw (decimal_back v k) (within_back least most v l m))

pub record Dug (name : List ℕ) (least most n : ℕ) (t : List ℕ) (v m : ℕ) (rest : List ℕ) : Type 0 where
  pub lines : m ≡ n + 1
  pub is : t ≡ digits_text name v ++ rest
  pub low : least ≤ v
  pub high : v ≤ most

pub hex_line_only : (name : List ℕ) (least most n : ℕ) (t : List ℕ) (v m : ℕ) (rest : List ℕ) → hex_line name least most n t ≡ got v m rest → Dug name least most n t v m rest
hex_line_only name least most n t v m rest e =
    let o = line_only name (hex_from least most) n t v m rest e in
    let w = within_some least most (hex_of o.1.word) v o.1.good in
    record {
      lines = o.0;
      is = o.1.is ∙ ap (λ (s : List ℕ). word_text name s ++ rest) (hex_only o.1.word v w.0);
      low = w.1;
      high = w.2;
    }

pub hex_line_back : (name : List ℕ) (least most n v : ℕ) (rest : List ℕ) → holds 10 name ≡ false → least ≤ v → v ≤ most → v < 2 ^ 64 → hex_line name least most n (digits_text name v ++ rest) ≡ got v (n + 1) rest
hex_line_back name least most n v rest h l m k =
    line_back name (hex_from least most) n (hex_text v) v rest h (hex_none v) (rw (hex_back v k) (within_back least most v l m))

-- a number over the most is wrong
pub number_over : (name : List ℕ) (least most n v : ℕ) (rest : List ℕ) → holds 10 name ≡ false → most < v → v < 2 ^ 64 → number_line name least most n (number_text name v ++ rest) ≡ bad (n + 1)
number_over name least most n v rest h o k =
    line_none name (decimal_from least most) n (decimal_text v) rest h (decimal_none v) (rw (decimal_back v k) (over (leb least v))) where
      over : (b : Bool) → cond (b && leb v most) (Some v) None ≡ None
      over true = rw (lt-leb v most o)
      over false = refl
