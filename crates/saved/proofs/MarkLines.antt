-- The lines of marks are exact, and what is accepted is sorted by identity.
use Rattle.std.specs.Prelude.{Option, Some, None}
use mathlib.Core.Path.{◌≡◌, refl, sym, ap, ap₂, ◌∙◌, subst}
use mathlib.Core.Bool.{Bool, true, false, cond}
use mathlib.Core.List.{List, [], ◌∷◌, ◌++◌, append_assoc, append-nil}
use Prim.Native.Nat.{ℕ, zero, suc, ◌+◌, ◌-◌, ◌^◌, ◌≤◌, ◌<◌}
use native.Mathlib.Omega.{arith}
use native.Mathlib.Decide.{ℕ_discrete, dec_lt}
use lib.Dec.{eqb, leb}
use lib.IntN.{ℤ, pos}
use lib.ListN.{length, length-append}
use borrow.Author.Tests.{eq-eqb, leb-true, leb-false}
use Rattle.laws.proofs.Cases.{cond_cases}
use Rattle.text.specs.Bytes.{bytes, same_of}
use Rattle.text.specs.Signed.{signed32_of}
use Rattle.text.proofs.Integers.{integer32_only}
use Rattle.text.proofs.Prefix.{same_true}
use Rattle.text_lines.specs.Lines.{Got, got, then, line, number_line, word_text, number_text}
use Rattle.text_lines.proofs.Laws.{line_only}
use Rattle.text_lines.proofs.Then.{then_got, got_inj, number_then}
use Rattle.styles.specs.declared.Identity.{Identity}
use Rattle.styles.specs.declared.Mark.{Mark}
use Rattle.styles.specs.declared.Party.{Party}
use Rattle.styles.specs.declared.Party.TheVariants.{Plant, Lab}
use Rattle.styles.specs.declared.Value.{Value}
use Rattle.styles.specs.declared.Stand.TheVariants.{Before}
use Rattle.styles.specs.Order.{id_of, rank, stands}
use Rattle.styles.specs.Marks.{Above, Sorted}
use Rattle.styles.specs.Values.{value_nan}
use Rattle.styles.proofs.OrderLaws.{by_party, by_key, by_lamport, by_peer, of_less, less_trans}
use Rattle.tank.specs.State.{Numbers}
use Rattle.script.specs.declared.Kind.{Kind}
use Rattle.script.specs.Grammar.{kind_name}
use Rattle.script.specs.Reading.{kind_named, value_of}
use Rattle.script.specs.Writing.{kind_of, value_word, value_text, counter_text}
use Rattle.saved.specs.Saved.{since, party_name, saved_mark, marks_text, Sayable, AllSayable}
use Rattle.saved.specs.Saying.{since_line, party_named, party_least, party_from, party_line, own_before, key_least, lamport_least, peer_least, identity_lines, counter_said, counter_line, kind_said, value_said, mark_with, content_lines, mark_lines, last_of, marks_lines}
use Rattle.saved.proofs.Values.{kind_only, kind_said_lem, OfKind, value_only, value_said_lem}

-- parts one behind the other
two_parts : (a b r t u : List ℕ) → t ≡ a ++ u → u ≡ b ++ r → t ≡ (a ++ b) ++ r
two_parts a b r t u p q = p ∙ ap (λ (l : List ℕ). a ++ l) q ∙ sym (append_assoc a b r)

three_parts : (a b c r t u v : List ℕ) → t ≡ a ++ u → u ≡ b ++ v → v ≡ c ++ r → t ≡ (a ++ b ++ c) ++ r
three_parts a b c r t u v p q s = two_parts (a ++ b) c r t v (two_parts a b v t u p q) s

groups : (a b c d e f g r t u v : List ℕ) → t ≡ a ++ u → u ≡ (b ++ c ++ d) ++ v → v ≡ (e ++ f ++ g) ++ r → t ≡ (a ++ b ++ c ++ d ++ e ++ f ++ g) ++ r
groups a b c d e f g r t u v p q s =
    let h : a ++ (b ++ c ++ d) ++ (e ++ f ++ g) ≡ a ++ b ++ c ++ d ++ e ++ f ++ g = simp append_assoc in
    three_parts a (b ++ c ++ d) (e ++ f ++ g) r t u v p q s ∙ ap (λ (l : List ℕ). l ++ r) h

-- ---- a line that only later versions have
-- what is known of it, where it is there and where it is missing
pub since_got : {A : Type 0} (first v : ℕ) (missing : A) (reading : ℕ → List ℕ → Got A) (n : ℕ) (t : List ℕ) (a : A) (k : ℕ) (rest : List ℕ) (P : Bool → Type 0)
    → (first ≤ v → reading n t ≡ got a k rest → P true) → (v < first → missing ≡ a → n ≡ k → t ≡ rest → P false) → since_line first v missing reading n t ≡ got a k rest → P (leb first v)
since_got first v missing reading n t a k rest P yes' no' e = by (leb first v) refl e where
  by : (b : Bool) → leb first v ≡ b → cond b (reading n t) (got missing n t) ≡ got a k rest → P b
  by true h q = yes' (leb-true first v h) q
  by false h q = let i = got_inj missing a n k t rest q in no' (leb-false first v h) i.0 i.1 i.2

-- ---- the party
named_only : (t : List ℕ) (who : Party) → party_named t ≡ Some who → t ≡ party_name who
named_only t who e =
    cond_cases (λ r. r ≡ Some who → t ≡ party_name who) (same_of t (party_name Plant))
    (λ h f. let q : Plant ≡ who = cc in same_true t (party_name Plant) h ∙ ap party_name q)
    (λ h. cond_cases (λ r. r ≡ Some who → t ≡ party_name who) (same_of t (party_name Lab))
    (λ h f. let q : Lab ≡ who = cc in same_true t (party_name Lab) h ∙ ap party_name q)
    (λ h f. let z : ◌≡◌ {A = ℕ} 0 1 = cc in absurd (omega arith)))
    e

from_only : (least : ℕ) (o : Option Party) (who : Party) → party_from least o ≡ Some who → (o ≡ Some who) × (least ≤ rank who)
from_only least None who e = let z : ◌≡◌ {A = ℕ} 0 1 = cc in absurd (omega arith)
from_only least (Some p) who e =
    cond_cases (λ r. r ≡ Some who → (Some p ≡ Some who) × (least ≤ rank who)) (leb least (rank p))
    (λ h f. let q : p ≡ who = cc in (ap Some q, omega (arith, leb-true least (rank p) h, ap rank q)))
    (λ h f. let z : ◌≡◌ {A = ℕ} 0 1 = cc in absurd (omega arith))
    e

pub record PartyRead (v : ℕ) (before : Option Mark) (t : List ℕ) (who : Party) (rest : List ℕ) (there : Bool) : Type 0 where
  pub is : t ≡ cond there (word_text (bytes "party=") (party_name who)) [] ++ rest
  pub least : 2 ≤ v → party_least before ≤ rank who
  pub plant : v < 2 → who ≡ Plant

pub party_only : (v : ℕ) (before : Option Mark) (n : ℕ) (t : List ℕ) (who : Party) (k : ℕ) (rest : List ℕ) → party_line v (party_least before) n t ≡ got who k rest
    → PartyRead v before t who rest (leb 2 v)
party_only v before n t who k rest e =
    since_got 2 v Plant (line (bytes "party=") (λ t. party_from (party_least before) (party_named t))) n t who k rest (PartyRead v before t who rest)
    (λ h q.
    let x = line_only (bytes "party=") (λ t. party_from (party_least before) (party_named t)) n t who k rest q in
    let f = from_only (party_least before) (party_named x.1.word) who x.1.good in
    record { is = x.1.is ∙ ap (λ (w : List ℕ). word_text (bytes "party=") w ++ rest) (named_only x.1.word who f.0); least = λ g. f.1; plant = λ g. absurd (omega arith) })
    (λ h p c r. record { is = r; least = λ g. absurd (omega arith); plant = λ g. sym p })
    e

-- ---- the identity
abbrev pub e3 : Party → ℕ → ℕ → ℕ → ℕ → List ℕ → Got Identity
e3 who key lamport peer n t = got (record { party = who; key = key; lamport = lamport; peer = peer }) n t

abbrev pub e2 : Option Mark → Party → ℕ → ℕ → ℕ → List ℕ → Got Identity
e2 before who key lamport n t = then (number_line (bytes "peer=") (peer_least before key lamport) (2 ^ 64 - 1) n t) (e3 who key lamport)

abbrev pub e1 : Option Mark → Party → ℕ → ℕ → List ℕ → Got Identity
e1 before who key n t = then (number_line (bytes "lamport=") (lamport_least before key) (2 ^ 32 - 1) n t) (e2 before who key)

pub record IdentityRead (before : Option Mark) (who : Party) (t : List ℕ) (i : Identity) (rest : List ℕ) : Type 0 where
  pub is : t ≡ (number_text (bytes "key=") i.key ++ number_text (bytes "lamport=") i.lamport ++ number_text (bytes "peer=") i.peer) ++ rest
  pub party : i.party ≡ who
  pub key_least_lem : key_least before ≤ i.key
  pub lamport_least_lem : lamport_least before i.key ≤ i.lamport
  pub peer_least_lem : peer_least before i.key i.lamport ≤ i.peer

pub identity_only : (before : Option Mark) (who : Party) (n : ℕ) (t : List ℕ) (i : Identity) (k : ℕ) (rest : List ℕ) → identity_lines before who n t ≡ got i k rest → IdentityRead before who t i rest
unfolding identity_lines
identity_only before who n t i k rest e =
    let a = number_then (bytes "key=") (key_least before) (2 ^ 16 - 1) n t (e1 before who) i k rest e in
    let b = number_then (bytes "lamport=") (lamport_least before a.value) (2 ^ 32 - 1) (n + 1) a.text (e2 before who a.value) i k rest a.second in
    let c = number_then (bytes "peer=") (peer_least before a.value b.value) (2 ^ 64 - 1) (n + 1 + 1) b.text (e3 who a.value b.value) i k rest b.second in
    let last = got_inj (record { party = who; key = a.value; lamport = b.value; peer = c.value }) i (n + 1 + 1 + 1) k c.text rest c.second in
    rw (← last.0)
    record {
      is = three_parts (number_text (bytes "key=") a.value) (number_text (bytes "lamport=") b.value) (number_text (bytes "peer=") c.value) rest t a.text b.text a.is b.is (c.is ∙ ap (λ (r : List ℕ). number_text (bytes "peer=") c.value ++ r) last.2);
      party = refl;
      key_least_lem = a.low;
      lamport_least_lem = b.low;
      peer_least_lem = c.low;
    }

-- ---- the rest of a mark
counter_only : (s : Option ℤ) (z : ℤ) → counter_said s ≡ Some z → s ≡ Some z
counter_only None z e = let y : ◌≡◌ {A = ℕ} 0 1 = cc in absurd (omega arith)
counter_only (Some x) z e = let q : x ≡ z = cc in ap Some q

pub record CounterRead (v : ℕ) (t : List ℕ) (z : ℤ) (rest : List ℕ) (there : Bool) : Type 0 where
  pub is : t ≡ cond there (counter_text z) [] ++ rest
  pub zero : v < 3 → z ≡ pos 0

pub counter_read : (v n : ℕ) (t : List ℕ) (z : ℤ) (k : ℕ) (rest : List ℕ) → counter_line v n t ≡ got z k rest → CounterRead v t z rest (leb 3 v)
counter_read v n t z k rest e =
    since_got 3 v (pos 0) (line (bytes "cnt=") (λ t. counter_said (signed32_of t))) n t z k rest (CounterRead v t z rest)
    (λ h q.
    let x = line_only (bytes "cnt=") (λ t. counter_said (signed32_of t)) n t z k rest q in
    record { is = x.1.is ∙ ap (λ (w : List ℕ). word_text (bytes "cnt=") w ++ rest) (integer32_only x.1.word z (counter_only (signed32_of x.1.word) z x.1.good)); zero = λ g. absurd (omega arith) })
    (λ h p c r. record { is = r; zero = λ g. sym p })
    e

abbrev pub c4 : Identity → ℤ → ℕ → Value → ℕ → List ℕ → Got Mark
c4 i cnt flags value n t = got (mark_with i cnt flags value) n t

abbrev pub c3 : Identity → ℤ → ℕ → Kind → ℕ → List ℕ → Got Mark
c3 i cnt flags kind n t = then (line (bytes "value=") (λ t. value_said (value_of kind t)) n t) (c4 i cnt flags)

abbrev pub c2 : Identity → ℤ → ℕ → ℕ → List ℕ → Got Mark
c2 i cnt flags n t = then (line (bytes "kind=") (λ t. kind_said (kind_named t)) n t) (c3 i cnt flags)

abbrev pub c1 : Identity → ℤ → ℕ → List ℕ → Got Mark
c1 i cnt n t = then (number_line (bytes "flags=") 0 255 n t) (c2 i cnt)

-- the last two lines, behind the others
record ValueRead (i : Identity) (cnt : ℤ) (flags : ℕ) (t : List ℕ) (m : Mark) (rest : List ℕ) : Type 0 where
  pub value : Value
  pub is_m : mark_with i cnt flags value ≡ m
  pub is : t ≡ value_text value ++ rest
  pub number : value_nan value ≡ false

-- a kind and a value, by their words
value_words : (kind : Kind) (v : Value) (kw vw t u rest : List ℕ) → t ≡ word_text (bytes "kind=") kw ++ u → u ≡ word_text (bytes "value=") vw ++ rest → kw ≡ kind_name kind
    → OfKind kind vw v → t ≡ value_text v ++ rest
unfolding value_text
value_words kind v kw vw t u rest p q r o =
    two_parts (word_text (bytes "kind=") (kind_name (kind_of v))) (word_text (bytes "value=") (value_word v)) rest t u
    (p ∙ ap (λ (w : List ℕ). word_text (bytes "kind=") w ++ u) (r ∙ ap kind_name (sym o.kind)))
    (q ∙ ap (λ (w : List ℕ). word_text (bytes "value=") w ++ rest) o.word)

value_lines : (i : Identity) (cnt : ℤ) (flags n : ℕ) (t : List ℕ) (m : Mark) (k : ℕ) (rest : List ℕ) → c2 i cnt flags n t ≡ got m k rest → ValueRead i cnt flags t m rest
value_lines i cnt flags n t m k rest e =
    let f = then_got (line (bytes "kind=") (λ t. kind_said (kind_named t)) n t) (c3 i cnt flags) m k rest e in
    let g = then_got (line (bytes "value=") (λ t. value_said (value_of f.value t)) f.lines f.text) (c4 i cnt flags) m k rest f.second in
    let x = line_only (bytes "kind=") (λ t. kind_said (kind_named t)) n t f.value f.lines f.text f.first in
    let y = line_only (bytes "value=") (λ t. value_said (value_of f.value t)) f.lines f.text g.value g.lines g.text g.first in
    let last = got_inj (mark_with i cnt flags g.value) m g.lines k g.text rest g.second in
    let vs = value_said_lem (value_of f.value y.1.word) g.value y.1.good in
    record {
      value = g.value;
      is_m = last.0;
      is = value_words f.value g.value x.1.word y.1.word t f.text rest x.1.is (y.1.is ∙ ap (λ (r : List ℕ). word_text (bytes "value=") y.1.word ++ r) last.2)
          (kind_only x.1.word f.value (kind_said_lem (kind_named x.1.word) f.value x.1.good))
          (value_only f.value y.1.word g.value vs.0 vs.1);
      number = vs.1;
    }

pub record ContentRead (v : ℕ) (i : Identity) (t : List ℕ) (m : Mark) (rest : List ℕ) : Type 0 where
  pub is : t ≡ (since 3 v (counter_text m.cnt) ++ number_text (bytes "flags=") m.flags ++ value_text m.value) ++ rest
  pub id : id_of m ≡ i
  pub uncounted : v < 3 → m.cnt ≡ pos 0
  pub number : value_nan m.value ≡ false

pub content_only : (v : ℕ) (i : Identity) (n : ℕ) (t : List ℕ) (m : Mark) (k : ℕ) (rest : List ℕ) → content_lines v i n t ≡ got m k rest → ContentRead v i t m rest
unfolding content_lines
content_only v i n t m k rest e =
    let a = then_got (counter_line v n t) (c1 i) m k rest e in
    let b = number_then (bytes "flags=") 0 255 a.lines a.text (c2 i a.value) m k rest a.second in
    let w = value_lines i a.value b.value (a.lines + 1) b.text m k rest b.second in
    let x = counter_read v n t a.value a.lines a.text a.first in
    rw (← w.is_m)
    record {
      is = three_parts (since 3 v (counter_text a.value)) (number_text (bytes "flags=") b.value) (value_text w.value) rest t a.text b.text x.is b.is w.is;
      id = refl;
      uncounted = x.zero;
      number = w.number;
    }

-- ---- one mark
abbrev pub m1 : ℕ → Option Mark → Party → ℕ → List ℕ → Got Mark
m1 v before who n t = then (identity_lines (own_before before who) who n t) (content_lines v)

pub record MarkRead (v : ℕ) (before : Option Mark) (t : List ℕ) (m : Mark) (rest : List ℕ) : Type 0 where
  pub is : t ≡ saved_mark v m ++ rest
  pub sayable : Sayable v m
  pub party_least_lem : 2 ≤ v → party_least before ≤ rank m.party
  pub key_least_lem : key_least (own_before before m.party) ≤ m.key
  pub lamport_least_lem : lamport_least (own_before before m.party) m.key ≤ m.lamport
  pub peer_least_lem : peer_least (own_before before m.party) m.key m.lamport ≤ m.peer
  pub number : value_nan m.value ≡ false

mark_of : (v : ℕ) (before : Option Mark) (m : Mark) (t u w rest : List ℕ) → PartyRead v before t m.party u (leb 2 v)
    → IdentityRead (own_before before m.party) m.party u (id_of m) w → ContentRead v (id_of m) w m rest → MarkRead v before t m rest
unfolding saved_mark
mark_of v before m t u w rest p q c = record {
  is = groups (since 2 v (word_text (bytes "party=") (party_name m.party))) (number_text (bytes "key=") m.key) (number_text (bytes "lamport=") m.lamport) (number_text (bytes "peer=") m.peer) (since 3 v (counter_text m.cnt)) (number_text (bytes "flags=") m.flags) (value_text m.value) rest t u w
      p.is q.is c.is;
  sayable = record { plant = p.plant; uncounted = c.uncounted };
  party_least_lem = p.least;
  key_least_lem = q.key_least_lem;
  lamport_least_lem = q.lamport_least_lem;
  peer_least_lem = q.peer_least_lem;
  number = c.number;
}

-- the parts speak of one mark
mark_by : (v : ℕ) (before : Option Mark) (who : Party) (i : Identity) (m : Mark) (t u w rest : List ℕ) → PartyRead v before t who u (leb 2 v)
    → IdentityRead (own_before before who) who u i w → ContentRead v i w m rest → MarkRead v before t m rest
mark_by v before who i m t u w rest p q c =
    let e : m.party ≡ who = ap (λ (j : Identity). j.party) c.id ∙ q.party in
    let j : IdentityRead (own_before before who) who u (id_of m) w = subst (λ (x : Identity). IdentityRead (own_before before who) who u x w) (sym c.id) q in
    mark_of v before m t u w rest
    (subst (λ (x : Party). PartyRead v before t x u (leb 2 v)) (sym e) p)
    (subst (λ (x : Party). IdentityRead (own_before before x) x u (id_of m) w) (sym e) j)
    (subst (λ (x : Identity). ContentRead v x w m rest) (sym c.id) c)

pub mark_only : (v : ℕ) (before : Option Mark) (n : ℕ) (t : List ℕ) (m : Mark) (k : ℕ) (rest : List ℕ) → mark_lines v before n t ≡ got m k rest → MarkRead v before t m rest
unfolding mark_lines
mark_only v before n t m k rest e =
    let a = then_got (party_line v (party_least before) n t) (m1 v before) m k rest e in
    let b = then_got (identity_lines (own_before before a.value) a.value a.lines a.text) (content_lines v) m k rest a.second in
    let x = party_only v before n t a.value a.lines a.text a.first in
    let y = identity_only (own_before before a.value) a.value a.lines a.text b.value b.lines b.text b.first in
    let z = content_only v b.value b.lines b.text m k rest b.second in
    mark_by v before a.value b.value m t a.text b.text rest x y z

-- ---- a mark comes after the one before it
comes_after : (p m : Mark) → rank p.party ≤ rank m.party → key_least (own_before (Some p) m.party) ≤ m.key
    → lamport_least (own_before (Some p) m.party) m.key ≤ m.lamport → peer_least (own_before (Some p) m.party) m.key m.lamport ≤ m.peer
    → stands (id_of p) (id_of m) ≡ Before
comes_after p m o a b c =
    elim (ℕ_discrete (rank m.party) (rank p.party)) [
      | no r ↦ of_less (by_party (omega arith))
      | yes r ↦
          let same : eqb (rank m.party) (rank p.party) ≡ true = eq-eqb (rank m.party) (rank p.party) r in
          let a' : p.key ≤ m.key = rw same at a in
          let b' : lamport_least (Some p) m.key ≤ m.lamport = rw same at b in
          let c' : peer_least (Some p) m.key m.lamport ≤ m.peer = rw same at c in
          elim (ℕ_discrete m.key p.key) [
            | no h ↦ of_less (by_key (sym r) (omega arith))
            | yes h ↦
                let b'' : p.lamport ≤ m.lamport = rw (eq-eqb m.key p.key h) at b' in
                elim (ℕ_discrete m.lamport p.lamport) [
                  | no g ↦ of_less (by_lamport (sym r) (sym h) (omega arith))
                  | yes g ↦
                      let c'' : p.peer + 1 ≤ m.peer = rw (eq-eqb m.lamport p.lamport g) at (rw (eq-eqb m.key p.key h) at c') in
                      of_less (by_peer (sym r) (sym h) (sym g) (omega arith))
                ]
          ]
    ]

-- all marks before it come before it
unfoldable pub AfterLast : Option Mark → Mark → Type 0
AfterLast None m = Unit {0}
AfterLast (Some p) m = stands (id_of p) (id_of m) ≡ Before

-- the last mark is one that the version can say
unfoldable pub LastSayable : ℕ → Option Mark → Type 0
LastSayable v None = Unit {0}
LastSayable v (Some p) = Sayable v p

pub last_sayable : (v : ℕ) (ms : List Mark) → AllSayable v ms → LastSayable v (last_of ms)
unfolding AllSayable LastSayable
last_sayable v [] h = tt
last_sayable v (m ∷ []) h = h.0
last_sayable v (m ∷ x ∷ xs) h = last_sayable v (x ∷ xs) h.1

-- parties ascend, also where no line says so
parties_up : (v : ℕ) (p m : Mark) → Sayable v p → Sayable v m → (2 ≤ v → rank p.party ≤ rank m.party) → rank p.party ≤ rank m.party
parties_up v p m a b h =
    elim (dec_lt v 2) [
      | yes l ↦ omega (arith, ap rank (a.plant l), ap rank (b.plant l))
      | no l ↦ h (omega arith)
    ]

pub after_last : (v : ℕ) (before : Option Mark) (t : List ℕ) (m : Mark) (rest : List ℕ) → LastSayable v before → MarkRead v before t m rest → AfterLast before m
unfolding AfterLast LastSayable
after_last v None t m rest s r = tt
after_last v (Some p) t m rest s r = comes_after p m (parties_up v p m s r.sayable r.party_least_lem) r.key_least_lem r.lamport_least_lem r.peer_least_lem

above_snoc : (i : _) (ms : List Mark) (m : Mark) → Above i ms → stands i (id_of m) ≡ Before → Above i (ms ++ m ∷ [])
unfolding Above
above_snoc i [] m h e = (e, tt)
above_snoc i (x ∷ xs) m h e = (h.0, above_snoc i xs m h.1 e)

-- each of a sorted list comes before what comes after the last
first_before : (x : Mark) (xs : List Mark) (m : Mark) → Sorted (x ∷ xs) → AfterLast (last_of (x ∷ xs)) m → stands (id_of x) (id_of m) ≡ Before
unfolding Sorted Above AfterLast
first_before x [] m s a = a
first_before x (y ∷ ys) m s a = less_trans (id_of x) (id_of y) (id_of m) s.0.0 (first_before y ys m s.1 a)

pub sorted_snoc : (ms : List Mark) (m : Mark) → Sorted ms → AfterLast (last_of ms) m → Sorted (ms ++ m ∷ [])
unfolding Sorted Above AfterLast
sorted_snoc [] m s a = (tt, tt)
sorted_snoc (x ∷ []) m s a = ((a, tt), (tt, tt))
sorted_snoc (x ∷ y ∷ ys) m s a =
    (above_snoc (id_of x) (y ∷ ys) m s.0 (first_before x (y ∷ ys) m s a), sorted_snoc (y ∷ ys) m s.1 a)

numbers_snoc : (ms : List Mark) (m : Mark) → Numbers ms → value_nan m.value ≡ false → Numbers (ms ++ m ∷ [])
unfolding Numbers
numbers_snoc [] m h e = (e, tt)
numbers_snoc (x ∷ xs) m h e = (h.0, numbers_snoc xs m h.1 e)

sayable_snoc : (v : ℕ) (ms : List Mark) (m : Mark) → AllSayable v ms → Sayable v m → AllSayable v (ms ++ m ∷ [])
unfolding AllSayable
sayable_snoc v [] m h e = (e, tt)
sayable_snoc v (x ∷ xs) m h e = (h.0, sayable_snoc v xs m h.1 e)

-- ---- all marks
text_snoc : (v : ℕ) (ms : List Mark) (m : Mark) → marks_text v (ms ++ m ∷ []) ≡ marks_text v ms ++ saved_mark v m
unfolding marks_text
text_snoc v [] m = append-nil (saved_mark v m)
text_snoc v (x ∷ xs) m = ap (λ (l : List ℕ). saved_mark v x ++ l) (text_snoc v xs m) ∙ sym (append_assoc (saved_mark v x) (marks_text v xs) (saved_mark v m))

pub record MarksRead (v : ℕ) (ms : List Mark) (k : ℕ) (t : List ℕ) (all : List Mark) (rest : List ℕ) : Type 0 where
  pub is : marks_text v ms ++ t ≡ marks_text v all ++ rest
  pub count : length all ≡ length ms + k
  pub sayable : AllSayable v ms → AllSayable v all
  pub sorted : AllSayable v ms → Sorted ms → Sorted all
  pub numbers : Numbers ms → Numbers all

pub marks_only : (v k : ℕ) (ms : List Mark) (n : ℕ) (t : List ℕ) (all : List Mark) (m : ℕ) (rest : List ℕ) → marks_lines v ms k n t ≡ got all m rest → MarksRead v ms k t all rest
unfolding marks_lines
marks_only v zero ms n t all m rest e =
    let a : ms ≡ all = cc in
    let c : t ≡ rest = cc in
    record {
      is = ap₂ (λ (x : List Mark) (y : List ℕ). marks_text v x ++ y) a c;
      count = omega (arith, ap length a);
      sayable = λ h. rw a at h;
      sorted = λ s h. rw a at h;
      numbers = λ h. rw a at h;
    }
marks_only v (suc k) ms n t all m rest e =
    let a = then_got (mark_lines v (last_of ms) n t) (λ m n t. marks_lines v (ms ++ m ∷ []) k n t) all m rest e in
    let x = mark_only v (last_of ms) n t a.value a.lines a.text a.first in
    let y = marks_only v k (ms ++ a.value ∷ []) a.lines a.text all m rest a.second in
    record {
      is = ap (λ (l : List ℕ). marks_text v ms ++ l) x.is
          ∙ sym (append_assoc (marks_text v ms) (saved_mark v a.value) a.text)
          ∙ ap (λ (l : List ℕ). l ++ a.text) (sym (text_snoc v ms a.value))
          ∙ y.is;
      count = omega (arith, y.count, length-append ms (a.value ∷ []));
      sayable = λ s. y.sayable (sayable_snoc v ms a.value s x.sayable);
      sorted = λ s h. y.sorted (sayable_snoc v ms a.value s x.sayable) (sorted_snoc ms a.value h (after_last v (last_of ms) t a.value a.text (last_sayable v ms s) x));
      numbers = λ h. y.numbers (numbers_snoc ms a.value h x.number);
    }
