-- A line with a word, as the code reads it: the newline is looked for, and the word is what stands between the name and it.
use Rattle.std.specs.Prelude.{Option, Some, None}
use mathlib.Core.Path.{◌≡◌, refl, sym, ap, ap₂, ◌∙◌}
use mathlib.Core.Bool.{Bool, true, false}
use mathlib.Core.List.{List}
use Prim.Native.Nat.{ℕ, ◌+◌, ◌-◌, ◌≤◌, ◌<◌}
use native.Mathlib.Omega.{arith}
use lib.Dec.{ltb}
use lib.IntN.{ℤ, pos}
use lib.ListN.{length, take, drop, length-drop}
use lib.Seq.{drop-drop}
use borrow.Author.Tests.{lt-ltb, le-ltb, le-leb, lt-leb}
use Rattle.text.specs.Bytes.{bytes, up_to, holds}
use Rattle.text.proofs.Finding.{front_part, held_by_length}
use Rattle.text_lines.specs.Lines.{Got, bad, got, behind, named, said, line}
use Rattle.text.specs.Signed.{signed32_of}
use Rattle.styles.specs.declared.Party.{Party}
use Rattle.styles.specs.declared.Party.TheVariants.{Plant}
use Rattle.styles.specs.declared.Value.{Value}
use Rattle.script.specs.declared.Kind.{Kind}
use Rattle.script.specs.Reading.{kind_named, value_of}
use Rattle.saved.specs.Saying.{since_line, party_named, party_from, counter_said, kind_said, value_said}
use Rattle.saved.specs.Reads.{party_at, counter_at, kind_at, value_at, got_party, got_counter, got_kind, got_value, behind_party, behind_counter, behind_kind, behind_value, lines_party, lines_counter, ReadsParty, ReadsCounter, ReadsKind, ReadsValue}

module _ {A : Type 0} (name : List ℕ) (way : List ℕ → Option A) (text : List ℕ) (from end : ℕ) (e : end ≡ from + length (up_to 10 (drop from text))) where
  ends : (b : Bool) → ltb (length (up_to 10 (drop from text))) (length (drop from text)) ≡ b → holds 10 (drop from text) ≡ b
  ends b h = held_by_length 10 (drop from text) ∙ h

  there : drop (end + 1) text ≡ behind (drop from text)
  there =
      let q : end + 1 ≡ from + (length (up_to 10 (drop from text)) + 1) = omega arith in
      ap (λ (k : ℕ). drop k text) q ∙ sym (drop-drop (length (up_to 10 (drop from text)) + 1) from text)

  -- the line ends where the newline stands
  pub line_here : (n : ℕ) → end < length text → said n (drop (end + 1) text) (named name way (take (end - from) (drop from text))) ≡ line name way n (drop from text)
  unfolding line
  line_here n h =
      rw (ends true (lt-ltb (length (up_to 10 (drop from text))) (length (drop from text)) (omega (arith, length-drop from text))))
      (ap₂ (λ (t : List ℕ) (l : List ℕ). said n t (named name way l)) there (front_part 10 text from end e))

  -- where there is none, it is wrong
  pub line_nowhere : (n : ℕ) → length text ≤ end → bad (n + 1) ≡ line name way n (drop from text)
  unfolding line
  line_nowhere n h = rw (ends false (le-ltb (length (up_to 10 (drop from text))) (length (drop from text)) (omega (arith, length-drop from text))))

-- ---- a line that only later versions have
pub since_there : {A : Type 0} (first v : ℕ) (missing : A) (reading : ℕ → List ℕ → Got A) (n : ℕ) (t : List ℕ) → first ≤ v → reading n t ≡ since_line first v missing reading n t
since_there first v missing reading n t h = rw (le-leb first v h)

pub since_missing : {A : Type 0} (first v : ℕ) (missing : A) (reading : ℕ → List ℕ → Got A) (n : ℕ) (t : List ℕ) → v < first → got missing n t ≡ since_line first v missing reading n t
since_missing first v missing reading n t h = rw (lt-leb first v h)

-- ---- a party
abbrev pub party_way : ℕ → List ℕ → Option Party
party_way least t = party_from least (party_named t)

party_place : (text : List ℕ) (n k : ℕ) (o : Option Party) → got_party text n (party_at (n + 1) k o) ≡ said n (drop k text) o
party_place text n k None = refl
party_place text n k (Some v) = refl

party_behind : (lines k most : ℕ) (o : Option Party) → k ≤ most → behind_party (party_at lines k o) ≤ most
party_behind lines k most None h = omega arith
party_behind lines k most (Some v) h = h

party_lines : (lines k : ℕ) (o : Option Party) → lines_party (party_at lines k o) ≤ lines
party_lines lines k None = omega arith
party_lines lines k (Some v) = omega arith

module _ (v least : ℕ) (text : List ℕ) (from n : ℕ) where
  pub party_missing : v < 2 → from ≤ length text → ReadsParty v least text from n (Some (Plant, n, from))
  party_missing h i = record { is = since_missing 2 v Plant (line (bytes "party=") (party_way least)) n (drop from text) h; inside = i; lines_most = omega arith }

  pub party_here : 2 ≤ v → (end : ℕ) → end ≡ from + length (up_to 10 (drop from text)) → end < length text → (r : Option (Party × ℕ × ℕ))
      → r ≡ party_at (n + 1) (end + 1) (named (bytes "party=") (party_way least) (take (end - from) (drop from text))) → ReadsParty v least text from n r
  party_here l end e h r q = rw q record {
    is = party_place text n (end + 1) (named (bytes "party=") (party_way least) (take (end - from) (drop from text)))
        ∙ line_here (bytes "party=") (party_way least) text from end e n h
        ∙ since_there 2 v Plant (line (bytes "party=") (party_way least)) n (drop from text) l;
    inside = party_behind (n + 1) (end + 1) (length text) (named (bytes "party=") (party_way least) (take (end - from) (drop from text))) (omega arith);
    lines_most = party_lines (n + 1) (end + 1) (named (bytes "party=") (party_way least) (take (end - from) (drop from text)));
  }

  pub party_nowhere : 2 ≤ v → (end : ℕ) → end ≡ from + length (up_to 10 (drop from text)) → length text ≤ end → ReadsParty v least text from n None
  party_nowhere l end e h = record {
    is = line_nowhere (bytes "party=") (party_way least) text from end e n h ∙ since_there 2 v Plant (line (bytes "party=") (party_way least)) n (drop from text) l;
    inside = omega arith;
    lines_most = omega arith;
  }

-- ---- a counter
abbrev pub counter_way : List ℕ → Option ℤ
counter_way t = counter_said (signed32_of t)

counter_place : (text : List ℕ) (n k : ℕ) (o : Option ℤ) → got_counter text n (counter_at (n + 1) k o) ≡ said n (drop k text) o
counter_place text n k None = refl
counter_place text n k (Some v) = refl

counter_behind : (lines k most : ℕ) (o : Option ℤ) → k ≤ most → behind_counter (counter_at lines k o) ≤ most
counter_behind lines k most None h = omega arith
counter_behind lines k most (Some v) h = h

counter_lines : (lines k : ℕ) (o : Option ℤ) → lines_counter (counter_at lines k o) ≤ lines
counter_lines lines k None = omega arith
counter_lines lines k (Some v) = omega arith

module _ (v : ℕ) (text : List ℕ) (from n : ℕ) where
  pub counter_missing : v < 3 → from ≤ length text → ReadsCounter v text from n (Some (pos 0, n, from))
  counter_missing h i = record { is = since_missing 3 v (pos 0) (line (bytes "cnt=") counter_way) n (drop from text) h; inside = i; lines_most = omega arith }

  pub counter_here : 3 ≤ v → (end : ℕ) → end ≡ from + length (up_to 10 (drop from text)) → end < length text → (r : Option (ℤ × ℕ × ℕ))
      → r ≡ counter_at (n + 1) (end + 1) (named (bytes "cnt=") counter_way (take (end - from) (drop from text))) → ReadsCounter v text from n r
  counter_here l end e h r q = rw q record {
    is = counter_place text n (end + 1) (named (bytes "cnt=") counter_way (take (end - from) (drop from text)))
        ∙ line_here (bytes "cnt=") counter_way text from end e n h
        ∙ since_there 3 v (pos 0) (line (bytes "cnt=") counter_way) n (drop from text) l;
    inside = counter_behind (n + 1) (end + 1) (length text) (named (bytes "cnt=") counter_way (take (end - from) (drop from text))) (omega arith);
    lines_most = counter_lines (n + 1) (end + 1) (named (bytes "cnt=") counter_way (take (end - from) (drop from text)));
  }

  pub counter_nowhere : 3 ≤ v → (end : ℕ) → end ≡ from + length (up_to 10 (drop from text)) → length text ≤ end → ReadsCounter v text from n None
  counter_nowhere l end e h = record {
    is = line_nowhere (bytes "cnt=") counter_way text from end e n h ∙ since_there 3 v (pos 0) (line (bytes "cnt=") counter_way) n (drop from text) l;
    inside = omega arith;
    lines_most = omega arith;
  }

-- ---- a kind
kind_place : (text : List ℕ) (n k : ℕ) (o : Option Kind) → got_kind text n (kind_at k o) ≡ said n (drop k text) o
kind_place text n k None = refl
kind_place text n k (Some v) = refl

kind_behind : (k most : ℕ) (o : Option Kind) → k ≤ most → behind_kind (kind_at k o) ≤ most
kind_behind k most None h = omega arith
kind_behind k most (Some v) h = h

abbrev pub kind_way : List ℕ → Option Kind
kind_way t = kind_said (kind_named t)

pub kind_here : (text : List ℕ) (from end : ℕ) → end ≡ from + length (up_to 10 (drop from text)) → end < length text → (r : Option (Kind × ℕ))
    → r ≡ kind_at (end + 1) (named (bytes "kind=") kind_way (take (end - from) (drop from text))) → ReadsKind text from r
kind_here text from end e h r q = rw q record {
  is = λ n. kind_place text n (end + 1) (named (bytes "kind=") kind_way (take (end - from) (drop from text))) ∙ line_here (bytes "kind=") kind_way text from end e n h;
  inside = kind_behind (end + 1) (length text) (named (bytes "kind=") kind_way (take (end - from) (drop from text))) (omega arith);
}

pub kind_nowhere : (text : List ℕ) (from end : ℕ) → end ≡ from + length (up_to 10 (drop from text)) → length text ≤ end → ReadsKind text from None
kind_nowhere text from end e h = record { is = λ n. line_nowhere (bytes "kind=") kind_way text from end e n h; inside = omega arith }

-- ---- a value
value_place : (text : List ℕ) (n k : ℕ) (o : Option Value) → got_value text n (value_at k o) ≡ said n (drop k text) o
value_place text n k None = refl
value_place text n k (Some v) = refl

value_behind : (k most : ℕ) (o : Option Value) → k ≤ most → behind_value (value_at k o) ≤ most
value_behind k most None h = omega arith
value_behind k most (Some v) h = h

abbrev pub value_way : Kind → List ℕ → Option Value
value_way kind t = value_said (value_of kind t)

pub value_here : (kind : Kind) (text : List ℕ) (from end : ℕ) → end ≡ from + length (up_to 10 (drop from text)) → end < length text → (r : Option (Value × ℕ))
    → r ≡ value_at (end + 1) (named (bytes "value=") (value_way kind) (take (end - from) (drop from text))) → ReadsValue kind text from r
value_here kind text from end e h r q = rw q record {
  is = λ n. value_place text n (end + 1) (named (bytes "value=") (value_way kind) (take (end - from) (drop from text))) ∙ line_here (bytes "value=") (value_way kind) text from end e n h;
  inside = value_behind (end + 1) (length text) (named (bytes "value=") (value_way kind) (take (end - from) (drop from text))) (omega arith);
}

pub value_nowhere : (kind : Kind) (text : List ℕ) (from end : ℕ) → end ≡ from + length (up_to 10 (drop from text)) → length text ≤ end → ReadsValue kind text from None
value_nowhere kind text from end e h = record { is = λ n. line_nowhere (bytes "value=") (value_way kind) text from end e n h; inside = omega arith }
