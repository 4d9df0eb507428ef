-- The lines of marks as the code reads them: a mark part by part, and mark after mark.
use Rattle.std.specs.Prelude.{Option, Some, None, Result, Ok, Err}
use mathlib.Core.Path.{◌≡◌, refl, sym, ap, ap₂, ◌∙◌, subst}
use mathlib.Core.List.{List, [], ◌∷◌, ◌++◌}
use Prim.Native.Nat.{ℕ, zero, suc, ◌+◌, ◌-◌, ◌*◌, ◌^◌, ◌≤◌, ◌<◌}
use native.Mathlib.Omega.{arith}
use native.Mathlib.Numerals.{add-one}
use lib.IntN.{ℤ}
use lib.ListN.{length, get_or, take, drop, set, replicate, length-set}
use lib.Seq.{get_or-set_other, take-suc-set}
use Rattle.text.specs.Bytes.{bytes}
use Rattle.text_lines.specs.Lines.{Got, bad, got, then, line, decimal_from, taken_by}
use Rattle.text_lines.proofs.Laws.{taken_inside}
use Rattle.styles.specs.declared.Identity.{Identity}
use Rattle.styles.specs.declared.Mark.{Mark}
use Rattle.styles.specs.declared.Party.{Party}
use Rattle.styles.specs.declared.Value.{Value}
use Rattle.styles.specs.Marks.{blank}
use Rattle.script.specs.declared.Kind.{Kind}
use Rattle.saved.specs.declared.ReadMarks.{ReadMarks}
use Rattle.saved.specs.Saying.{party_least, own_before, key_least, lamport_least, peer_least, identity_lines, mark_with, content_lines, mark_lines, last_of, marks_lines}
use Rattle.saved.specs.Reads.{got_party, got_counter, got_kind, got_value, got_identity, got_mark, got_marks, ReadsParty, ReadsCounter, ReadsKind, ReadsValue, ReadsIdentity, ReadsContent, ReadsMark, ReadsMarks}
use Rattle.saved.proofs.Steps.{step_bad, step_on}
use Rattle.saved.proofs.MarkLines.{e1, e2, e3, c1, c2, c3, c4, m1}

-- ---- an identity, line after line: what is read then is what is left to read
module _ (before : Option Mark) (who : Party) (text : List ℕ) (from n : ℕ) where
  abbrev pub Key : Option (ℕ × ℕ) → Type 0
  Key r = r ≡ taken_by (bytes "key=") (decimal_from (key_least before) (2 ^ 16 - 1)) text from

  abbrev pub Lamport : ℕ → ℕ → Option (ℕ × ℕ) → Type 0
  Lamport key at r = r ≡ taken_by (bytes "lamport=") (decimal_from (lamport_least before key) (2 ^ 32 - 1)) text at

  abbrev pub Peer : ℕ → ℕ → ℕ → Option (ℕ × ℕ) → Type 0
  Peer key lamport at r = r ≡ taken_by (bytes "peer=") (decimal_from (peer_least before key lamport) (2 ^ 64 - 1)) text at

  abbrev pub Key-on : ℕ → ℕ → Type 0
  Key-on key at = identity_lines before who n (drop from text) ≡ e1 before who key (n + 1) (drop at text)

  abbrev pub Lamport-on : ℕ → ℕ → ℕ → Type 0
  Lamport-on key lamport at = identity_lines before who n (drop from text) ≡ e2 before who key lamport (n + 1 + 1) (drop at text)

  identity_bad : (line m : ℕ) → line ≡ m + 1 → bad (m + 1) ≡ identity_lines before who n (drop from text) → ReadsIdentity before who text from n (Err line)
  identity_bad line m e h = record { is = ap bad e ∙ h; inside = omega arith; counted = omega arith }

  pub key_wrong : Key None → ReadsIdentity before who text from n (Err (n + 1))
  unfolding identity_lines
  key_wrong e = identity_bad (n + 1) n refl (step_bad (identity_lines before who n (drop from text)) (bytes "key=") (key_least before) (2 ^ 16 - 1) text from n (e1 before who) refl e)

  pub key_on : (key at : ℕ) → Key (Some (key, at)) → Key-on key at
  unfolding identity_lines
  key_on key at e = step_on (identity_lines before who n (drop from text)) (bytes "key=") (key_least before) (2 ^ 16 - 1) text from n (e1 before who) refl key at e

  pub lamport_wrong : (key a : ℕ) → Key-on key a → Lamport key a None → ReadsIdentity before who text from n (Err (n + 2))
  lamport_wrong key a h e = identity_bad (n + 2) (n + 1) (omega arith) (step_bad (identity_lines before who n (drop from text)) (bytes "lamport=") (lamport_least before key) (2 ^ 32 - 1) text a (n + 1) (e2 before who key) h e)

  pub lamport_on : (key a : ℕ) → Key-on key a → (lamport at : ℕ) → Lamport key a (Some (lamport, at)) → Lamport-on key lamport at
  lamport_on key a h lamport at e = step_on (identity_lines before who n (drop from text)) (bytes "lamport=") (lamport_least before key) (2 ^ 32 - 1) text a (n + 1) (e2 before who key) h lamport at e

  pub peer_wrong : (key lamport a : ℕ) → Lamport-on key lamport a → Peer key lamport a None → ReadsIdentity before who text from n (Err (n + 3))
  peer_wrong key lamport a h e = identity_bad (n + 3) (n + 1 + 1) (omega arith) (step_bad (identity_lines before who n (drop from text)) (bytes "peer=") (peer_least before key lamport) (2 ^ 64 - 1) text a (n + 1 + 1) (e3 who key lamport) h e)

  pub identity_read : (key lamport a : ℕ) → Lamport-on key lamport a → (peer at : ℕ) → Peer key lamport a (Some (peer, at)) → (i : Identity)
      → i ≡ record { party = who; key = key; lamport = lamport; peer = peer }
      → ReadsIdentity before who text from n (Ok (i, at))
  identity_read key lamport a h peer at e i q =
      let three : n + 3 ≡ n + 1 + 1 + 1 = omega arith in
      record {
        is = ap₂ (λ (j : Identity) (k : ℕ). got j k (drop at text)) q three ∙ sym (step_on (identity_lines before who n (drop from text)) (bytes "peer=") (peer_least before key lamport) (2 ^ 64 - 1) text a (n + 1 + 1) (e3 who key lamport) h peer at e);
        inside = taken_inside (bytes "peer=") (decimal_from (peer_least before key lamport) (2 ^ 64 - 1)) text a peer at (sym e);
        counted = omega arith;
      }

-- ---- the rest of a mark
module _ (v : ℕ) (i : Identity) (text : List ℕ) (from n : ℕ) where
  abbrev pub Counter-on : ℤ → ℕ → ℕ → Type 0
  Counter-on cnt m at = content_lines v i n (drop from text) ≡ c1 i cnt m (drop at text)

  abbrev pub Flags : ℕ → Option (ℕ × ℕ) → Type 0
  Flags at r = r ≡ taken_by (bytes "flags=") (decimal_from 0 255) text at

  abbrev pub Flags-on : ℤ → ℕ → ℕ → ℕ → Type 0
  Flags-on cnt m flags at = content_lines v i n (drop from text) ≡ c2 i cnt flags (m + 1) (drop at text)

  abbrev pub Kind-on : ℤ → ℕ → ℕ → Kind → ℕ → Type 0
  Kind-on cnt m flags kind at = content_lines v i n (drop from text) ≡ c3 i cnt flags kind (m + 1 + 1) (drop at text)

  content_bad : (line m : ℕ) → line ≡ m + 1 → bad (m + 1) ≡ content_lines v i n (drop from text) → ReadsContent v i text from n (Err line)
  content_bad line m e h = record { is = ap bad e ∙ h; inside = omega arith; counted = omega arith; lines_most = omega arith }

  counter_step : (r : Option (ℤ × ℕ × ℕ)) → ReadsCounter v text from n r → content_lines v i n (drop from text) ≡ then (got_counter text n r) (c1 i)
  unfolding content_lines
  counter_step r h = ap (λ (g : Got ℤ). then g (c1 i)) (sym h.is)

  pub counter_wrong : (r : Option (ℤ × ℕ × ℕ)) → ReadsCounter v text from n r → r ≡ None → ReadsContent v i text from n (Err (n + 1))
  counter_wrong r h e = content_bad (n + 1) n refl (sym (counter_step r h ∙ ap (λ (x : Option (ℤ × ℕ × ℕ)). then (got_counter text n x) (c1 i)) e))

  pub counter_on : (r : Option (ℤ × ℕ × ℕ)) → ReadsCounter v text from n r → (cnt : ℤ) (m at : ℕ) → r ≡ Some (cnt, m, at) → Counter-on cnt m at
  counter_on r h cnt m at e = counter_step r h ∙ ap (λ (x : Option (ℤ × ℕ × ℕ)). then (got_counter text n x) (c1 i)) e

  pub counter_bounds : (r : Option (ℤ × ℕ × ℕ)) → ReadsCounter v text from n r → (cnt : ℤ) (m at : ℕ) → r ≡ Some (cnt, m, at) → (m ≤ n + 1) × (at ≤ length text)
  counter_bounds r h cnt m at e = let q = subst (ReadsCounter v text from n) e h in (q.lines_most, q.inside)

  pub flags_wrong : (cnt : ℤ) (m a : ℕ) → Counter-on cnt m a → Flags a None → ReadsContent v i text from n (Err (m + 1))
  flags_wrong cnt m a h e = content_bad (m + 1) m refl (step_bad (content_lines v i n (drop from text)) (bytes "flags=") 0 255 text a m (c2 i cnt) h e)

  pub flags_on : (cnt : ℤ) (m a : ℕ) → Counter-on cnt m a → (flags at : ℕ) → Flags a (Some (flags, at)) → Flags-on cnt m flags at
  flags_on cnt m a h flags at e = step_on (content_lines v i n (drop from text)) (bytes "flags=") 0 255 text a m (c2 i cnt) h flags at e

  kind_step : (cnt : ℤ) (m flags a : ℕ) → Flags-on cnt m flags a → (r : Option (Kind × ℕ)) → ReadsKind text a r → content_lines v i n (drop from text) ≡ then (got_kind text (m + 1) r) (c3 i cnt flags)
  kind_step cnt m flags a h r k = h ∙ ap (λ (g : Got Kind). then g (c3 i cnt flags)) (sym (k.is (m + 1)))

  pub kind_wrong : (cnt : ℤ) (m flags a : ℕ) → Flags-on cnt m flags a → (r : Option (Kind × ℕ)) → ReadsKind text a r → r ≡ None → ReadsContent v i text from n (Err (m + 2))
  kind_wrong cnt m flags a h r k e = content_bad (m + 2) (m + 1) (omega arith) (sym (kind_step cnt m flags a h r k ∙ ap (λ (x : Option (Kind × ℕ)). then (got_kind text (m + 1) x) (c3 i cnt flags)) e))

  pub kind_on : (cnt : ℤ) (m flags a : ℕ) → Flags-on cnt m flags a → (r : Option (Kind × ℕ)) → ReadsKind text a r → (kind : Kind) (at : ℕ) → r ≡ Some (kind, at) → Kind-on cnt m flags kind at
  kind_on cnt m flags a h r k kind at e = kind_step cnt m flags a h r k ∙ ap (λ (x : Option (Kind × ℕ)). then (got_kind text (m + 1) x) (c3 i cnt flags)) e

  pub kind_inside : (a : ℕ) (r : Option (Kind × ℕ)) → ReadsKind text a r → (kind : Kind) (at : ℕ) → r ≡ Some (kind, at) → at ≤ length text
  kind_inside a r k kind at e = (subst (ReadsKind text a) e k).inside

  value_step : (cnt : ℤ) (m flags : ℕ) (kind : Kind) (a : ℕ) → Kind-on cnt m flags kind a → (r : Option (Value × ℕ)) → ReadsValue kind text a r
      → content_lines v i n (drop from text) ≡ then (got_value text (m + 1 + 1) r) (c4 i cnt flags)
  value_step cnt m flags kind a h r k = h ∙ ap (λ (g : Got Value). then g (c4 i cnt flags)) (sym (k.is (m + 1 + 1)))

  pub value_wrong : (cnt : ℤ) (m flags : ℕ) (kind : Kind) (a : ℕ) → Kind-on cnt m flags kind a → (r : Option (Value × ℕ)) → ReadsValue kind text a r → r ≡ None
      → ReadsContent v i text from n (Err (m + 3))
  value_wrong cnt m flags kind a h r k e = content_bad (m + 3) (m + 1 + 1) (omega arith) (sym (value_step cnt m flags kind a h r k ∙ ap (λ (x : Option (Value × ℕ)). then (got_value text (m + 1 + 1) x) (c4 i cnt flags)) e))

  pub content_read : (cnt : ℤ) (m flags : ℕ) (kind : Kind) (a : ℕ) → Kind-on cnt m flags kind a → (r : Option (Value × ℕ)) → ReadsValue kind text a r → (value : Value) (at : ℕ)
      → r ≡ Some (value, at) → m ≤ n + 1 → (x : Mark) → x ≡ mark_with i cnt flags value
      → ReadsContent v i text from n (Ok (x, m + 3, at))
  content_read cnt m flags kind a h r k value at e few x w =
      let three : m + 3 ≡ m + 1 + 1 + 1 = omega arith in
      record {
        is = ap₂ (λ (y : Mark) (j : ℕ). got y j (drop at text)) w three ∙ sym (value_step cnt m flags kind a h r k ∙ ap (λ (y : Option (Value × ℕ)). then (got_value text (m + 1 + 1) y) (c4 i cnt flags)) e);
        inside = (subst (ReadsValue kind text a) e k).inside;
        counted = omega arith;
        lines_most = omega arith;
      }

-- ---- all of a mark
module _ (v : ℕ) (before : Option Mark) (text : List ℕ) (from n : ℕ) where
  abbrev pub Party-on : Party → ℕ → ℕ → Type 0
  Party-on who m at = mark_lines v before n (drop from text) ≡ m1 v before who m (drop at text)

  party_step : (r : Option (Party × ℕ × ℕ)) → ReadsParty v (party_least before) text from n r → mark_lines v before n (drop from text) ≡ then (got_party text n r) (m1 v before)
  unfolding mark_lines
  party_step r h = ap (λ (g : Got Party). then g (m1 v before)) (sym h.is)

  pub party_wrong : (r : Option (Party × ℕ × ℕ)) → ReadsParty v (party_least before) text from n r → r ≡ None → ReadsMark v before text from n (Err (n + 1))
  party_wrong r h e = record {
    is = sym (party_step r h ∙ ap (λ (x : Option (Party × ℕ × ℕ)). then (got_party text n x) (m1 v before)) e);
    inside = omega arith;
    counted = omega arith;
    lines_most = omega arith;
  }

  pub party_on : (r : Option (Party × ℕ × ℕ)) → ReadsParty v (party_least before) text from n r → (who : Party) (m at : ℕ) → r ≡ Some (who, m, at) → Party-on who m at
  party_on r h who m at e = party_step r h ∙ ap (λ (x : Option (Party × ℕ × ℕ)). then (got_party text n x) (m1 v before)) e

  pub party_bounds : (r : Option (Party × ℕ × ℕ)) → ReadsParty v (party_least before) text from n r → (who : Party) (m at : ℕ) → r ≡ Some (who, m, at) → (m ≤ n + 1) × (at ≤ length text)
  party_bounds r h who m at e = let q = subst (ReadsParty v (party_least before) text from n) e h in (q.lines_most, q.inside)

  module _ (who : Party) (m a : ℕ) (h : Party-on who m a) (r : Result (Identity × ℕ) ℕ) (k : ReadsIdentity (own_before before who) who text a m r) where
    identity_step : mark_lines v before n (drop from text) ≡ then (got_identity text m r) (content_lines v)
    identity_step = h ∙ ap (λ (g : Got Identity). then g (content_lines v)) (sym k.is)

    pub identity_wrong : (line : ℕ) → r ≡ Err line → ReadsMark v before text from n (Err line)
    identity_wrong line e = record {
      is = sym (identity_step ∙ ap (λ (x : Result (Identity × ℕ) ℕ). then (got_identity text m x) (content_lines v)) e);
      inside = omega arith;
      counted = (subst (ReadsIdentity (own_before before who) who text a m) e k).counted;
      lines_most = omega arith;
    }

    pub identity_inside : (i : Identity) (b : ℕ) → r ≡ Ok (i, b) → b ≤ length text
    identity_inside i b e = (subst (ReadsIdentity (own_before before who) who text a m) e k).inside

    pub mark_read : m ≤ n + 1 → (i : Identity) (b : ℕ) → r ≡ Ok (i, b) → (x : Result (Mark × ℕ × ℕ) ℕ) → ReadsContent v i text b (m + 3) x → ReadsMark v before text from n x
    mark_read few i b e x c = record {
      is = c.is ∙ sym (identity_step ∙ ap (λ (y : Result (Identity × ℕ) ℕ). then (got_identity text m y) (content_lines v)) e);
      inside = c.inside;
      counted = c.counted;
      lines_most = omega (arith, c.lines_most);
    }

-- ---- the loop: j marks are read, and the rest is to come
pub all_blank : (k i : ℕ) → get_or (replicate k blank) i blank ≡ blank
all_blank zero i = refl
all_blank (suc k) zero = refl
all_blank (suc k) (suc i) = all_blank k i

last_snoc : (ms : List Mark) (m : Mark) → last_of (ms ++ m ∷ []) ≡ Some m
last_snoc [] m = refl
last_snoc (x ∷ []) m = refl
last_snoc (x ∷ y ∷ ms) m = last_snoc (y ∷ ms) m

pub record MarksUnderway (v : ℕ) (text : List ℕ) (from n count : ℕ) (table : List Mark) (at lines : ℕ) (before : Option Mark) (j : ℕ) : Type 0 where
  pub few : j ≤ count
  pub lines_most : lines ≤ n + 8 * j
  pub table_64 : length table ≡ 64
  pub inside : at ≤ length text
  pub blanks : (i : ℕ) → j ≤ i → get_or table i blank ≡ blank
  pub last : before ≡ last_of (take j table)
  pub is : marks_lines v [] count n (drop from text) ≡ marks_lines v (take j table) (count - j) lines (drop at text)

pub marks_none : (v : ℕ) (text : List ℕ) (from n count : ℕ) → from ≤ length text → MarksUnderway v text from n count (replicate 64 blank) from n None 0
marks_none v text from n count h =
    let a : count ≡ count - 0 = omega arith in
    record {
      few = omega arith;
      lines_most = omega arith;
      table_64 = refl;
      inside = h;
      blanks = λ i l. all_blank 64 i;
      last = refl;
      is = ap (λ (k : ℕ). marks_lines v [] k n (drop from text)) a;
    }

pub marks_bad : (text : List ℕ) (count : ℕ) (r : ReadMarks) (line : ℕ) → 1 ≤ line → got_marks text count r line ≡ bad line
marks_bad text count r zero h = absurd (omega arith)
marks_bad text count r (suc k) h = refl

module _ (v : ℕ) (text : List ℕ) (from n count : ℕ) (table : List Mark) (at lines : ℕ) (before : Option Mark) (j : ℕ) (u : MarksUnderway v text from n count table at lines before j) (few : count ≤ 64) (h : j < count) (r : Result (Mark × ℕ × ℕ) ℕ) (p : ReadsMark v before text at lines r) where
  after_mark : marks_lines v [] count n (drop from text) ≡ then (got_mark text r) λ m k x. marks_lines v (take j table ++ m ∷ []) (count - suc j) k x
  unfolding marks_lines
  after_mark =
      let k : count - j ≡ suc (count - suc j) = omega arith in
      u.is
      ∙ ap (λ (i : ℕ). marks_lines v (take j table) i lines (drop at text)) k
      ∙ ap (λ (g : Got Mark). then g λ m k x. marks_lines v (take j table ++ m ∷ []) (count - suc j) k x)
      (ap (λ (o : Option Mark). mark_lines v o lines (drop at text)) (sym u.last) ∙ sym p.is)

  pub mark_wrong : (line : ℕ) → r ≡ Err line → ReadsMarks v text from n count (record { line = line; at = 0; lines = 0; table = replicate 64 blank })
  mark_wrong line e =
      let one : 1 ≤ line = (subst (ReadsMark v before text at lines) e p).counted in
      record {
        is = marks_bad text count (record { line = line; at = 0; lines = 0; table = replicate 64 blank }) line one
            ∙ sym (after_mark ∙ ap (λ (x : Result (Mark × ℕ × ℕ) ℕ). then (got_mark text x) λ m k x. marks_lines v (take j table ++ m ∷ []) (count - suc j) k x) e);
        inside = omega arith;
        lines_most = omega arith;
        table_64 = refl;
        blanks = λ i l. all_blank 64 i;
      }

  pub mark_more : (m : Mark) (more next : ℕ) → r ≡ Ok (m, more, next) → MarksUnderway v text from n count (set table j m) next more (Some m) (j + 1)
  mark_more m more next e =
      let q = subst (ReadsMark v before text at lines) e p in
      let new : take (j + 1) (set table j m) ≡ take j table ++ m ∷ [] = rw (add-one j) (take-suc-set table j m (omega (arith, u.table_64))) in
      let c : count - suc j ≡ count - (j + 1) = omega arith in
      record {
        few = omega arith;
        lines_most = omega (arith, q.lines_most, u.lines_most);
        table_64 = length-set table j m ∙ u.table_64;
        inside = q.inside;
        blanks = λ i l. get_or-set_other table j i m blank (λ e. omega arith) ∙ u.blanks i (omega arith);
        last = rw new (sym (last_snoc (take j table) m));
        is = after_mark ∙ ap (λ (x : Result (Mark × ℕ × ℕ) ℕ). then (got_mark text x) λ m k x. marks_lines v (take j table ++ m ∷ []) (count - suc j) k x) e
            ∙ rw new (ap (λ (i : ℕ). marks_lines v (take j table ++ m ∷ []) i more (drop next text)) c);
      }

pub marks_done : (v : ℕ) (text : List ℕ) (from n count : ℕ) (table : List Mark) (at lines : ℕ) (before : Option Mark) (j : ℕ) → MarksUnderway v text from n count table at lines before j → count ≤ j
    → ReadsMarks v text from n count (record { line = 0; at = at; lines = lines; table = table })
unfolding marks_lines
marks_done v text from n count table at lines before j u h =
    let e : j ≡ count = omega (arith, u.few) in
    let z : count - count ≡ 0 = omega arith in
    record {
      is = sym (u.is ∙ ap (λ (i : ℕ). marks_lines v (take i table) (count - i) lines (drop at text)) e ∙ ap (λ (k : ℕ). marks_lines v (take count table) k lines (drop at text)) z);
      inside = u.inside;
      lines_most = omega (arith, u.lines_most);
      table_64 = u.table_64;
      blanks = λ i l. u.blanks i (omega arith);
    }
