-- The text of sorted marks that a version can say is accepted, and says those marks.
use Rattle.std.specs.Prelude.{Option, Some, None}
use mathlib.Core.Path.{◌≡◌, refl, sym, ap, ◌∙◌}
use mathlib.Core.Bool.{Bool, true, false, cond}
use mathlib.Core.List.{List, [], ◌∷◌, ◌++◌, append_assoc, append-nil}
use Prim.Native.Nat.{ℕ, suc, ◌+◌, ◌-◌, ◌^◌, ◌≤◌, ◌<◌}
use native.Mathlib.Omega.{arith}
use native.Mathlib.Decide.{ℕ_discrete, dec_lt}
use lib.Dec.{eqb, leb}
use lib.IntN.{ℤ, pos, negsuc}
use lib.ListN.{length}
use mir.Syntax.{w32}
use mir.Val.{SFits}
use borrow.Author.Tests.{eq-eqb, ne_eqb, le-leb, leb-true, leb-false}
use Rattle.text.specs.Bytes.{bytes, holds, starts_of, same_of}
use Rattle.text.specs.Number.{decimal_text}
use Rattle.text.specs.Signed.{signed_text, signed32_of}
use Rattle.text.proofs.Finding.{held_past}
use Rattle.text.proofs.Integers.{integer32_back}
use Rattle.text_lines.specs.Lines.{Got, got, then, line, word_text, number_text}
use Rattle.text_lines.proofs.Ends.{decimal_none, hex_none}
use Rattle.text_lines.proofs.Laws.{number_back, line_back}
use Rattle.styles.specs.declared.Identity.{Identity}
use Rattle.styles.specs.declared.Mark.{Mark}
use Rattle.styles.specs.declared.Party.{Party}
use Rattle.styles.specs.declared.Party.TheVariants.{Plant, Lab}
use Rattle.styles.specs.declared.Value.{Value}
use Rattle.styles.specs.declared.Stand.{Stand}
use Rattle.styles.specs.declared.Stand.TheVariants.{Before, Same, After}
use Rattle.styles.specs.Order.{id_of, rank, stands}
use Rattle.styles.specs.Marks.{Above, Sorted}
use Rattle.styles.specs.Values.{value_nan}
use Rattle.styles.proofs.OrderLaws.{by_party, by_key, by_lamport, by_peer, of_more, same_self, identity_eq}
use Rattle.tank.specs.State.{Numbers}
use Rattle.script.specs.declared.Kind.{Kind}
use Rattle.script.specs.Grammar.{kind_name}
use Rattle.script.specs.Reading.{kind_named, value_of}
use Rattle.script.specs.Writing.{kind_of, value_word, value_text, counter_text}
use Rattle.script.proofs.Exact.{Fitting, value_back}
use Rattle.saved.specs.Saved.{since, party_name, saved_mark, marks_text, Sayable, AllSayable}
use Rattle.saved.specs.Saying.{since_line, party_named, party_least, party_from, party_line, own_before, key_least, lamport_least, peer_least, identity_lines, counter_said, counter_line, kind_said, value_said, content_lines, mark_lines, last_of, marks_lines}
use Rattle.saved.proofs.MarkLines.{e1, e2, e3, c1, c2, c3, c4, m1, AfterLast}

-- a mark whose fields fit their widths
pub record Fit (m : Mark) : Type 0 where
  pub key : m.key < 2 ^ 16
  pub lamport : m.lamport < 2 ^ 32
  pub peer : m.peer < 2 ^ 64
  pub cnt : SFits w32 m.cnt
  pub flags : m.flags < 256
  pub value : Fitting m.value

-- what was read, after so many lines
pub record Back {A : Type 0} (g : Got A) (a : A) (rest : List ℕ) : Type 0 where
  pub lines : ℕ
  pub is : g ≡ got a lines rest

unfoldable pub AllFit : List Mark → Type 0
AllFit [] = Unit {0}
AllFit (m ∷ ms) = Fit m × AllFit ms

-- ---- words have no newline
kind_free : (k : Kind) → holds 10 (kind_name k) ≡ false
unfolding holds
kind_free Kind.Null = refl
kind_free Kind.Bool = refl
kind_free Kind.Whole = refl
kind_free Kind.Decimal = refl

kind_back : (k : Kind) → kind_said (kind_named (kind_name k)) ≡ Some k
unfolding kind_named same_of starts_of
kind_back Kind.Null = refl
kind_back Kind.Bool = refl
kind_back Kind.Whole = refl
kind_back Kind.Decimal = refl

signed_free : (z : ℤ) → holds 10 (signed_text z) ≡ false
unfolding signed_text
signed_free (pos n) = decimal_none n
signed_free (negsuc n) = held_past 10 45 (decimal_text (suc n)) (λ e. omega arith) ∙ decimal_none (suc n)

value_free : (v : Value) → holds 10 (value_word v) ≡ false
unfolding holds
value_free Value.Null = refl
value_free (Value.Flag true) = refl
value_free (Value.Flag false) = refl
value_free (Value.Whole z) = signed_free z
value_free (Value.Decimal x) = hex_none _

value_said_back : (v : Value) → Fitting v → value_nan v ≡ false → value_said (value_of (kind_of v) (value_word v)) ≡ Some v
value_said_back v f e = ap value_said (value_back v f) ∙ rw e

party_free : (who : Party) → holds 10 (party_name who) ≡ false
unfolding holds
party_free Plant = refl
party_free Lab = refl

party_back : (who : Party) → party_named (party_name who) ≡ Some who
unfolding same_of starts_of
party_back Plant = refl
party_back Lab = refl

-- ---- names have none either
party_name_free : holds 10 (bytes "party=") ≡ false
unfolding holds
party_name_free = refl

cnt_name_free : holds 10 (bytes "cnt=") ≡ false
unfolding holds
cnt_name_free = refl

name_free : holds 10 (bytes "key=") ≡ false
unfolding holds
name_free = refl

lamport_free : holds 10 (bytes "lamport=") ≡ false
unfolding holds
lamport_free = refl

peer_free : holds 10 (bytes "peer=") ≡ false
unfolding holds
peer_free = refl

flags_free : holds 10 (bytes "flags=") ≡ false
unfolding holds
flags_free = refl

kind_name_free : holds 10 (bytes "kind=") ≡ false
unfolding holds
kind_name_free = refl

value_name_free : holds 10 (bytes "value=") ≡ false
unfolding holds
value_name_free = refl

-- ---- a line that only later versions have
-- it is accepted where it is there, and where it is missing it says what it is read as
since_back : {A : Type 0} (first v : ℕ) (missing a : A) (reading : ℕ → List ℕ → Got A) (n : ℕ) (text rest : List ℕ)
    → (first ≤ v → reading n (text ++ rest) ≡ got a (n + 1) rest) → (v < first → missing ≡ a) → Back (since_line first v missing reading n (since first v text ++ rest)) a rest
since_back first v missing a reading n text rest h g = by (leb first v) refl where
  by : (b : Bool) → leb first v ≡ b → Back (cond b (reading n (cond b text [] ++ rest)) (got missing n (cond b text [] ++ rest))) a rest
  by true e = record { lines = n + 1; is = h (leb-true first v e) }
  by false e = record { lines = n; is = ap (λ (x : _). got x n rest) (g (leb-false first v e)) }

pub record Bounded (v : ℕ) (before : Option Mark) (m : Mark) : Type 0 where
  pub party : party_least before ≤ rank m.party
  pub key : key_least (own_before before m.party) ≤ m.key
  pub lamport : lamport_least (own_before before m.party) m.key ≤ m.lamport
  pub peer : peer_least (own_before before m.party) m.key m.lamport ≤ m.peer

-- ---- one mark
party_line_back : (v : ℕ) (before : Option Mark) (n : ℕ) (m : Mark) (rest : List ℕ) → Sayable v m → party_least before ≤ rank m.party
    → Back (party_line v (party_least before) n (since 2 v (word_text (bytes "party=") (party_name m.party)) ++ rest)) m.party rest
party_line_back v before n m rest s b =
    let way : List ℕ → Option Party = λ t. party_from (party_least before) (party_named t) in
    since_back 2 v Plant m.party (line (bytes "party=") way) n (word_text (bytes "party=") (party_name m.party)) rest
    (λ h. line_back (bytes "party=") way n (party_name m.party) m.party rest party_name_free (party_free m.party) (ap (party_from (party_least before)) (party_back m.party) ∙ rw (le-leb (party_least before) (rank m.party) b)))
    (λ h. sym (s.plant h))

counter_line_back : (v n : ℕ) (m : Mark) (rest : List ℕ) → Sayable v m → SFits w32 m.cnt → Back (counter_line v n (since 3 v (counter_text m.cnt) ++ rest)) m.cnt rest
counter_line_back v n m rest s f =
    let way : List ℕ → Option ℤ = λ t. counter_said (signed32_of t) in
    since_back 3 v (pos 0) m.cnt (line (bytes "cnt=") way) n (counter_text m.cnt) rest
    (λ h. line_back (bytes "cnt=") way n (signed_text m.cnt) m.cnt rest cnt_name_free (signed_free m.cnt) (ap counter_said (integer32_back m.cnt f)))
    (λ h. sym (s.uncounted h))

identity_back : (before : Option Mark) (n : ℕ) (m : Mark) (rest : List ℕ) → Fit m → key_least before ≤ m.key → lamport_least before m.key ≤ m.lamport
    → peer_least before m.key m.lamport ≤ m.peer
    → identity_lines before m.party n (number_text (bytes "key=") m.key ++ (number_text (bytes "lamport=") m.lamport ++ (number_text (bytes "peer=") m.peer ++ rest))) ≡ got (id_of m) (n + 1 + 1 + 1) rest
unfolding identity_lines
identity_back before n m rest f k l p =
    let B = number_text (bytes "lamport=") m.lamport in
    let C = number_text (bytes "peer=") m.peer in
    ap (λ (g : Got ℕ). then g (e1 before m.party)) (number_back (bytes "key=") (key_least before) (2 ^ 16 - 1) n m.key (B ++ (C ++ rest)) name_free k (omega (arith, f.key)) (omega (arith, f.key)))
    ∙ ap (λ (g : Got ℕ). then g (e2 before m.party m.key)) (number_back (bytes "lamport=") (lamport_least before m.key) (2 ^ 32 - 1) (n + 1) m.lamport (C ++ rest) lamport_free l (omega (arith, f.lamport)) (omega (arith, f.lamport)))
    ∙ ap (λ (g : Got ℕ). then g (e3 m.party m.key m.lamport)) (number_back (bytes "peer=") (peer_least before m.key m.lamport) (2 ^ 64 - 1) (n + 1 + 1) m.peer rest peer_free p (omega (arith, f.peer)) f.peer)

content_back : (v n : ℕ) (m : Mark) (rest : List ℕ) → Sayable v m → Fit m → value_nan m.value ≡ false
    → Back (content_lines v (id_of m) n (since 3 v (counter_text m.cnt) ++ (number_text (bytes "flags=") m.flags ++ (word_text (bytes "kind=") (kind_name (kind_of m.value)) ++ (word_text (bytes "value=") (value_word m.value) ++ rest))))) m rest
unfolding content_lines
content_back v n m rest s f e =
    let D = number_text (bytes "flags=") m.flags in
    let K = word_text (bytes "kind=") (kind_name (kind_of m.value)) in
    let W = word_text (bytes "value=") (value_word m.value) in
    let x = counter_line_back v n m (D ++ (K ++ (W ++ rest))) s f.cnt in
    record {
      lines = x.lines + 1 + 1 + 1;
      is = ap (λ (g : Got ℤ). then g (c1 (id_of m))) x.is
          ∙ ap (λ (g : Got ℕ). then g (c2 (id_of m) m.cnt)) (number_back (bytes "flags=") 0 255 x.lines m.flags (K ++ (W ++ rest)) flags_free (omega arith) (omega (arith, f.flags)) (omega (arith, f.flags)))
          ∙ ap (λ (g : Got Kind). then g (c3 (id_of m) m.cnt m.flags)) (line_back (bytes "kind=") (λ t. kind_said (kind_named t)) (x.lines + 1) (kind_name (kind_of m.value)) (kind_of m.value) (W ++ rest) kind_name_free (kind_free (kind_of m.value)) (kind_back (kind_of m.value)))
          ∙ ap (λ (g : Got Value). then g (c4 (id_of m) m.cnt m.flags)) (line_back (bytes "value=") (λ t. value_said (value_of (kind_of m.value) t)) (x.lines + 1 + 1) (value_word m.value) m.value rest value_name_free (value_free m.value) (value_said_back m.value f.value e));
    }

apart : (a b c d e f g h r : List ℕ) → (a ++ b ++ c ++ d ++ e ++ f ++ (g ++ h)) ++ r ≡ a ++ (b ++ (c ++ (d ++ (e ++ (f ++ (g ++ (h ++ r)))))))
apart a b c d e f g h r = simp append_assoc

pub mark_back : (v : ℕ) (before : Option Mark) (n : ℕ) (m : Mark) (rest : List ℕ) → Sayable v m → Fit m → value_nan m.value ≡ false → Bounded v before m
    → Back (mark_lines v before n (saved_mark v m ++ rest)) m rest
unfolding mark_lines saved_mark value_text
mark_back v before n m rest s f e b =
    let P = since 2 v (word_text (bytes "party=") (party_name m.party)) in
    let A = number_text (bytes "key=") m.key in
    let B = number_text (bytes "lamport=") m.lamport in
    let C = number_text (bytes "peer=") m.peer in
    let Z = since 3 v (counter_text m.cnt) in
    let D = number_text (bytes "flags=") m.flags in
    let K = word_text (bytes "kind=") (kind_name (kind_of m.value)) in
    let W = word_text (bytes "value=") (value_word m.value) in
    let x = party_line_back v before n m (A ++ (B ++ (C ++ (Z ++ (D ++ (K ++ (W ++ rest))))))) s b.party in
    let y = content_back v (x.lines + 1 + 1 + 1) m rest s f e in
    record {
      lines = y.lines;
      is = ap (λ (t : List ℕ). then (party_line v (party_least before) n t) (m1 v before)) (apart P A B C Z D K W rest)
          ∙ ap (λ (g : Got Party). then g (m1 v before)) x.is
          ∙ ap (λ (g : Got Identity). then g (content_lines v)) (identity_back (own_before before m.party) x.lines m (Z ++ (D ++ (K ++ (W ++ rest)))) f b.key b.lamport b.peer)
          ∙ y.is;
    }

-- ---- a mark behind another is within its bounds
not_after : {s : Stand} → s ≡ Before → s ≡ After → ⊥
not_after e f = let z : Before ≡ After = sym e ∙ f in let y : ◌≡◌ {A = ℕ} 0 1 = cc in omega arith

not_same : {s : Stand} → s ≡ Before → s ≡ Same → ⊥
not_same e f = let z : Before ≡ Same = sym e ∙ f in let y : ◌≡◌ {A = ℕ} 0 1 = cc in omega arith

module _ (p m : Mark) (e : stands (id_of p) (id_of m) ≡ Before) where
  party_up : rank p.party ≤ rank m.party
  party_up = elim (dec_lt (rank m.party) (rank p.party)) [ yes h ↦ absurd (not_after e (of_more (by_party h))) | no h ↦ omega arith ]

  module _ (r : rank m.party ≡ rank p.party) where
    key_up : p.key ≤ m.key
    key_up = elim (dec_lt m.key p.key) [ yes h ↦ absurd (not_after e (of_more (by_key r h))) | no h ↦ omega arith ]

    lamport_up : m.key ≡ p.key → p.lamport ≤ m.lamport
    lamport_up k = elim (dec_lt m.lamport p.lamport) [ yes h ↦ absurd (not_after e (of_more (by_lamport r k h))) | no h ↦ omega arith ]

    peer_up : m.key ≡ p.key → m.lamport ≡ p.lamport → p.peer < m.peer
    peer_up k l =
        elim (dec_lt p.peer m.peer) [
          | yes h ↦ h
          | no h ↦
              elim (ℕ_discrete p.peer m.peer) [
                | yes q ↦ absurd (not_same e (ap (stands (id_of p)) (sym (identity_eq (id_of p) (id_of m) (sym r) (sym k) (sym l) q)) ∙ same_self (id_of p)))
                | no q ↦ absurd (not_after e (of_more (by_peer r k l (omega arith))))
              ]
        ]

    lamport_bound : lamport_least (Some p) m.key ≤ m.lamport
    lamport_bound = elim (ℕ_discrete m.key p.key) [ yes h ↦ rw (eq-eqb m.key p.key h) (lamport_up h) | no h ↦ rw (ne_eqb m.key p.key h) (omega arith) ]

    peer_bound : peer_least (Some p) m.key m.lamport ≤ m.peer
    peer_bound =
        elim (ℕ_discrete m.key p.key) [
          | no h ↦ rw (ne_eqb m.key p.key h) (omega arith)
          | yes h ↦
              rw (eq-eqb m.key p.key h)
              (elim (ℕ_discrete m.lamport p.lamport) [
                | no g ↦ rw (ne_eqb m.lamport p.lamport g) (omega arith)
                | yes g ↦ rw (eq-eqb m.lamport p.lamport g) (omega (arith, peer_up h g))
              ])
        ]

  bounded_by : (v : ℕ) → Bounded v (Some p) m
  bounded_by v =
      elim (ℕ_discrete (rank m.party) (rank p.party)) [
        | yes r ↦
            let same : eqb (rank m.party) (rank p.party) ≡ true = eq-eqb (rank m.party) (rank p.party) r in
            record { party = party_up; key = rw same (key_up r); lamport = rw same (lamport_bound r); peer = rw same (peer_bound r) }
        | no r ↦
            let apart : eqb (rank m.party) (rank p.party) ≡ false = ne_eqb (rank m.party) (rank p.party) r in
            record { party = party_up; key = rw apart (omega arith); lamport = rw apart (omega arith); peer = rw apart (omega arith) }
      ]

pub bounded : (v : ℕ) (before : Option Mark) (m : Mark) → AfterLast before m → Bounded v before m
unfolding AfterLast
bounded v None m a = record { party = omega arith; key = omega arith; lamport = omega arith; peer = omega arith }
bounded v (Some p) m a = bounded_by p m a v

-- ---- all marks
above_here : (i : _) (ms : List Mark) (m : Mark) (more : List Mark) → Above i (ms ++ m ∷ more) → stands i (id_of m) ≡ Before
unfolding Above
above_here i [] m more h = h.0
above_here i (x ∷ xs) m more h = above_here i xs m more h.1

last_before : (ms : List Mark) (m : Mark) (more : List Mark) → Sorted (ms ++ m ∷ more) → AfterLast (last_of ms) m
unfolding Sorted AfterLast
last_before [] m more s = tt
last_before (x ∷ []) m more s = above_here (id_of x) [] m more s.0
last_before (x ∷ y ∷ ys) m more s = last_before (y ∷ ys) m more s.1

pub marks_back : (v : ℕ) (new ms : List Mark) (n : ℕ) (rest : List ℕ) → AllSayable v new → Sorted (ms ++ new) → Numbers new → AllFit new
    → Back (marks_lines v ms (length new) n (marks_text v new ++ rest)) (ms ++ new) rest
unfolding marks_lines marks_text Numbers AllFit AllSayable
marks_back v [] ms n rest y s h f = record { lines = n; is = ap (λ (l : List Mark). got l n rest) (sym (append-nil ms)) }
marks_back v (m ∷ new) ms n rest y s h f =
    let b = mark_back v (last_of ms) n m (marks_text v new ++ rest) y.0 f.0 h.0 (bounded v (last_of ms) m (last_before ms m new s)) in
    let e = append_assoc ms (m ∷ []) new in
    let r = marks_back v new (ms ++ m ∷ []) b.lines rest y.1 (rw e s) h.1 f.1 in
    record {
      lines = r.lines;
      is = ap (λ (x : List ℕ). then (mark_lines v (last_of ms) n x) λ m n t. marks_lines v (ms ++ m ∷ []) (length new) n t) (append_assoc (saved_mark v m) (marks_text v new) rest)
          ∙ ap (λ (g : Got Mark). then g λ m n t. marks_lines v (ms ++ m ∷ []) (length new) n t) b.is
          ∙ r.is
          ∙ ap (λ (l : List Mark). got l r.lines rest) e;
    }
