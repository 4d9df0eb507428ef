-- Lines of names as the code reads them: one line, the next line of a text, and all of them.
use Rattle.std.specs.Prelude.{Option, Some, None}
use mathlib.Core.Path.{◌≡◌, refl, sym, ap, ◌∙◌}
use mathlib.Core.Bool.{Bool, true, false, cond}
use mathlib.Core.List.{List, [], ◌∷◌, ◌++◌, append_assoc, append-nil}
use Prim.Native.Nat.{ℕ, zero, suc, ◌+◌, ◌-◌, ◌≤◌, ◌<◌}
use native.Mathlib.Omega.{arith}
use lib.ListN.{length, take, drop, length-drop, drop_of_length-le}
use lib.Seq.{take-take, drop-drop}
use borrow.Author.Tests.{lt-ltb, le-ltb, ne_eqb}
use Rattle.text.specs.Bytes.{up_to, holds, starts_of}
use Rattle.text.proofs.Finding.{front_take, front_length, front_part, held_by_length}
use Rattle.text.proofs.Prefix.{rest_part}
use Rattle.text_lines.specs.Lines.{Got, bad, got, then, behind, named, line, decimal_from}
use Rattle.text_lines.proofs.Ends.{held_inside}
use Rattle.key_names.specs.declared.Names.{Names}
use Rattle.key_names.specs.declared.NamesRead.{NamesRead}
use Rattle.key_names.specs.Names.{Named, is_name, keyed, name_line, ahead, name_lines, names_in, names_said, wrong_line, placed, line_from, names_of, with_name, Formed, ReadsNames, said_next, NextLine}

-- ---- a line without its newline
module _ (l : List ℕ) (next equals : ℕ) (e : equals ≡ 0 + length (up_to 61 (drop 0 l))) where
  place : equals ≡ length (up_to 61 l)
  place = omega (arith, e)

  pub said_here : equals < length l → placed next (keyed (take (equals - 0) (drop 0 l)) (decimal_from 0 65535 (take (length l - (equals + 1)) (drop (equals + 1) l)))) ≡ placed next (name_line l)
  unfolding name_line
  said_here h =
      rw (held_by_length 61 l ∙ lt-ltb (length (up_to 61 l)) (length l) (omega (arith, place)))
      (rw (rest_part (equals + 1) l)
      (rw (front_part 61 l 0 equals e)
      (ap (λ (k : ℕ). placed next (keyed (up_to 61 l) (decimal_from 0 65535 (drop (k + 1) l)))) place)))

  pub said_none : length l ≤ equals → None ≡ placed next (name_line l)
  unfolding name_line
  said_none h = rw (held_by_length 61 l ∙ le-ltb (length (up_to 61 l)) (length l) (omega (arith, place)))

-- ---- the line from a place on
module _ (text : List ℕ) (from newline : ℕ) (e : newline ≡ from + length (up_to 10 (drop from text))) where
  pub line_here : newline < length text → placed (newline + 1) (name_line (take (newline - from) (drop from text))) ≡ line_from text from
  unfolding line_from
  line_here h =
      rw (held_by_length 10 (drop from text) ∙ lt-ltb (length (up_to 10 (drop from text))) (length (drop from text)) (omega (arith, length-drop from text)))
      (rw (front_part 10 text from newline e) (ap (λ (k : ℕ). placed (k + 1) (name_line (up_to 10 (drop from text)))) e))

  pub line_none : length text ≤ newline → None ≡ line_from text from
  unfolding line_from
  line_none h =
      rw (held_by_length 10 (drop from text) ∙ le-ltb (length (up_to 10 (drop from text))) (length (drop from text)) (omega (arith, length-drop from text)))

-- ---- what a good line says
pub record Line (l : List ℕ) (a : Named) : Type 0 where
  pub equals : holds 61 l ≡ true
  pub name_is : a.name ≡ up_to 61 l
  pub good : is_name a.name ≡ true
  pub number : decimal_from 0 65535 (drop (length (up_to 61 l) + 1) l) ≡ Some a.key

keyed_some : (name : List ℕ) (o : Option ℕ) (a : Named) → keyed name o ≡ Some a → (a.name ≡ name) × (is_name a.name ≡ true) × (o ≡ Some a.key)
keyed_some name None a e = let z : ◌≡◌ {A = ℕ} 0 1 = cc in absurd (omega arith)
keyed_some name (Some k) a e = by (is_name name) refl e where
  by : (b : Bool) → is_name name ≡ b → cond b (Some (record { key = k; name = name })) None ≡ Some a → (a.name ≡ name) × (is_name a.name ≡ true) × (Some k ≡ Some a.key)
  by true f g =
      let w : record { key = k; name = name } ≡ a = cc in
      rw (← w) (refl, f, refl)
  by false f g = let z : ◌≡◌ {A = ℕ} 0 1 = cc in absurd (omega arith)

pub line_good : (l : List ℕ) (a : Named) → name_line l ≡ Some a → Line l a
unfolding name_line
line_good l a e = by (holds 61 l) refl e where
  by : (b : Bool) → holds 61 l ≡ b → cond b (keyed (up_to 61 l) (decimal_from 0 65535 (drop (length (up_to 61 l) + 1) l))) None ≡ Some a → Line l a
  by true f g =
      let k = keyed_some (up_to 61 l) (decimal_from 0 65535 (drop (length (up_to 61 l) + 1) l)) a g in
      record { equals = f; name_is = k.0; good = k.1; number = k.2 }
  by false f g = let z : ◌≡◌ {A = ℕ} 0 1 = cc in absurd (omega arith)

-- ---- the next line of a text
unnamed : (l : List ℕ) → named [] name_line l ≡ name_line l
unfolding starts_of
unnamed l = refl

-- there is one
pub lines_on : (k n : ℕ) (text : List ℕ) → 0 < length text → name_lines (suc k) n text ≡ then (line [] name_line n text) λ a n text. ahead (a ∷ []) (name_lines k n text)
unfolding name_lines
lines_on k n text h = rw (ne_eqb (length text) 0 (λ e. omega arith))

pub lines_end : (k n : ℕ) → name_lines k n [] ≡ got [] n []
unfolding name_lines
lines_end zero n = refl
lines_end (suc k) n = refl

pub lines_over : (n : ℕ) (text : List ℕ) → 0 < length text → name_lines 0 n text ≡ bad (n + 1)
unfolding name_lines
lines_over n [] h = absurd (omega arith)
lines_over n (c ∷ text) h = refl

module _ (text : List ℕ) (from count : ℕ) (inside : from < length text) where
  after : Got Named → Got (List Named)
  after g = then g λ a n x. ahead (a ∷ []) (name_lines (64 - (count + 1)) n x)

  module _ (room : count < 64) where
    first : name_lines (64 - count) count (drop from text) ≡ after (line [] name_line count (drop from text))
    unfolding after
    first =
        let k : 64 - count ≡ suc (64 - (count + 1)) = omega arith in
        rw k (lines_on (64 - (count + 1)) count (drop from text) (omega (arith, length-drop from text)))

    place_next : from + length (up_to 10 (drop from text)) + 1 ≡ from + (length (up_to 10 (drop from text)) + 1)
    place_next = omega arith

    name_part : (a : Named) → Line (up_to 10 (drop from text)) a → take (length a.name) (drop from text) ≡ a.name
    name_part a w =
        let u : List ℕ = up_to 10 (drop from text) in
        let short : length (up_to 61 u) ≤ length u = front_length 61 u in
        rw w.name_is
        (sym (take-take (length (up_to 61 u)) (length u) (drop from text) short)
        ∙ ap (take (length (up_to 61 u))) (front_take 10 (drop from text))
        ∙ front_take 61 u)

    found : (o : Option Named) → name_line (up_to 10 (drop from text)) ≡ o → holds 10 (drop from text) ≡ true → NextLine text from count (placed (from + length (up_to 10 (drop from text)) + 1) o)
    unfolding line after
    found None e h =
        record {
          is = first ∙ rw h (rw (unnamed (up_to 10 (drop from text))) (rw e));
          fits = tt;
        }
    found (Some a) e h =
        let w = line_good (up_to 10 (drop from text)) a e in
        let d : drop (from + length (up_to 10 (drop from text)) + 1) text ≡ behind (drop from text) =
        ap (λ (k : ℕ). drop k text) place_next ∙ sym (drop-drop (length (up_to 10 (drop from text)) + 1) from text) in
        let p = name_part a w in
        let in_line : length (up_to 10 (drop from text)) < length (drop from text) = held_inside (drop from text) h in
        record {
          is = first ∙ rw h (rw (unnamed (up_to 10 (drop from text))) (rw e (rw d (rw p))));
          fits = record {
            room = room;
            good = rw p w.good;
            inside = omega (arith, ap length w.name_is, front_length 61 (up_to 10 (drop from text)), in_line, length-drop from text);
            later = omega arith;
            within = omega (arith, in_line, length-drop from text);
          };
        }

    pub next_here : NextLine text from count (line_from text from)
    unfolding line_from line after
    next_here = by (holds 10 (drop from text)) refl where
      by : (b : Bool) → holds 10 (drop from text) ≡ b
          → NextLine text from count (cond b (placed (from + length (up_to 10 (drop from text)) + 1) (name_line (up_to 10 (drop from text)))) None)
      by true h = found (name_line (up_to 10 (drop from text))) refl h
      by false h = record { is = first ∙ rw h; fits = tt }

  pub next_over : count ≤ 64 → 64 ≤ count → NextLine text from count None
  next_over h l =
      let k : 64 - count ≡ 0 = omega arith in
      record { is = rw k (lines_over count (drop from text) (omega (arith, length-drop from text))); fits = tt }

-- ---- all lines
-- so many names are read, and the lines from a place on are to come
pub record Underway (text : List ℕ) (ns : Names) (from : ℕ) : Type 0 where
  pub formed : Formed ns
  pub inside : from ≤ length text
  pub is : names_in text ≡ ahead (names_of ns) (name_lines (64 - ns.count) ns.count (drop from text))

pub ahead_none : (g : Got (List Named)) → ahead [] g ≡ g
ahead_none (bad n) = refl
ahead_none (got ns n x) = refl

pub ahead_ahead : (xs ys : List Named) (g : Got (List Named)) → ahead xs (ahead ys g) ≡ ahead (xs ++ ys) g
ahead_ahead xs ys (bad n) = refl
ahead_ahead xs ys (got zs n x) = ap (λ (l : List Named). got l n x) (sym (append_assoc xs ys zs))

pub underway_none : (text : List ℕ) (ns : Names) → (names_of ns ≡ []) × (ns.count ≡ 0) × Formed ns → Underway text ns 0
unfolding names_in
underway_none text ns e =
    record {
      formed = e.2;
      inside = omega arith;
      is = rw e.0 (rw e.1 (sym (ahead_none (name_lines 64 0 text))));
    }

module _ (text : List ℕ) (ns : Names) (from : ℕ) (u : Underway text ns from) where
  reads : (l : Option (ℕ × ℕ × ℕ)) → NextLine text from ns.count l → names_in text ≡ ahead (names_of ns) (said_next text from ns.count l)
  reads l e = u.is ∙ ap (ahead (names_of ns)) e.is

  pub wrong_read : NextLine text from ns.count None → (r : NamesRead) → (r.line ≡ ns.count + 1) × (names_of r.names ≡ []) × Formed r.names → ReadsNames text r
  wrong_read e r w =
      let b = reads None e in
      record { formed = w.2; line = w.0 ∙ sym (ap wrong_line b); names = w.1 ∙ sym (ap names_said b) }

  pub name_read : (key len next : ℕ) → NextLine text from ns.count (Some (key, len, next)) → (more : Names)
      → Formed more × (more.count ≡ ns.count + 1) × (names_of more ≡ with_name (names_of ns) key (take len (drop from text))) → Underway text more next
  name_read key len next e more w =
      record {
        formed = w.0;
        inside = e.fits.within;
        is = reads (Some (key, len, next)) e
            ∙ ahead_ahead (names_of ns) (record { key = key; name = take len (drop from text) } ∷ []) (name_lines (64 - (ns.count + 1)) (ns.count + 1) (drop next text))
            ∙ rw w.2 (rw w.1);
      }

  pub all_read : length text ≤ from → ReadsNames text (record { line = 0; names = ns })
  all_read h =
      let b : names_in text ≡ got (names_of ns) ns.count [] =
      u.is ∙ ap (λ (x : List ℕ). ahead (names_of ns) (name_lines (64 - ns.count) ns.count x)) (drop_of_length-le text h)
      ∙ ap (ahead (names_of ns)) (lines_end (64 - ns.count) ns.count) ∙ ap (λ (l : List Named). got l ns.count []) (append-nil (names_of ns)) in
      record { formed = u.formed; line = sym (ap wrong_line b); names = sym (ap names_said b) }
