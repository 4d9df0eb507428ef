-- Bytes taken a part at a time lead where they lead one by one, whatever state they are folded over. A reader of groups is what brings something at the end of a part: `cut` says of its bytes that the first either ends its part or only goes on with it.
use mathlib.Core.Path.{◌≡◌, refl, sym, ap, ap₂, ◌∙◌}
use mathlib.Core.Bool.{Bool, false, cond}
use mathlib.Core.List.{List, [], ◌∷◌, ◌++◌, append_assoc, foldl}
use Prim.Native.Nat.{ℕ, suc, ◌+◌, ◌-◌, ◌<◌}
use native.Mathlib.Decide.{ℕ_discrete, dec_lt}
use native.Mathlib.Omega.{arith}
use lib.Dec.{eqb}
use lib.ListN.{length, take, drop}
use lib.Seq.{drop-nil}
use borrow.Author.Tests.{ne_eqb, eq-eqb}
use Rattle.text.specs.Bytes.{holds}
use Rattle.text.proofs.Finding.{front_here, front_past, held_here, held_past}
use Rattle.script.specs.declared.Call.{Call}
use Rattle.script.specs.declared.Event.{Event}
use Rattle.script.specs.declared.Read.{Read}
use Rattle.script.specs.Lines.{line_front, has_end, State, event_of, read_of, brings_of, after_of}
use Rattle.script.specs.Bodies.{Stage, in_lines, Brought, brings_nothing, brings_call, line_brings, counted_in, passed, with_part, body_brings, brought_by, behind_line, behind_part}
use Rattle.script.proofs.CutAnywhere.{same_line, line_cut}

-- ---- A fold, part by part
-- X is any state, B what a part brings, S where the reader stands
module _ {X S B : Type 0} (over : X → Bool) (stands : X → S) (brings : S → List ℕ → B) (on : X → B → X) (behind : S → List ℕ → List ℕ) where
  -- a part of some bytes, taken at once
  abbrev pub part_on : X → List ℕ → X
  part_on x rest = on x (brings (stands x) rest)

  -- one byte; when it is over nothing more is taken
  abbrev pub byte_on : X → ℕ → X
  byte_on x byte = cond (over x) x (part_on x (byte ∷ []))

  -- the first of some bytes ends its part
  pub record EndsPart (x : X) (c : ℕ) (cs : List ℕ) : Type 0 where
    pub same : part_on x (c ∷ []) ≡ part_on x (c ∷ cs)
    pub rest : behind (stands x) (c ∷ cs) ≡ cs

  -- it only goes on with it
  pub record GoesOn (x : X) (c : ℕ) (cs : List ℕ) : Type 0 where
    pub further : over (part_on x (c ∷ [])) ≡ false
    pub same : part_on (part_on x (c ∷ [])) cs ≡ part_on x (c ∷ cs)
    pub rest : behind (stands (part_on x (c ∷ []))) cs ≡ behind (stands x) (c ∷ cs)

  -- one or the other
  pub data Cut (x : X) (c : ℕ) (cs : List ℕ) : Type 0 where
    ends : EndsPart x c cs → Cut x c cs
    goes : GoesOn x c cs → Cut x c cs

  -- and behind the last of them there is nothing
  pub record Cuttable : Type 0 where
    pub cut : (x : X) (c d : ℕ) (ds : List ℕ) → Cut x c (d ∷ ds)
    pub last : (s : S) (c : ℕ) → behind s (c ∷ []) ≡ []

  -- the part that some bytes begin with, then the bytes behind it
  abbrev Parts : X → List ℕ → Type 0
  Parts x bytes = foldl byte_on x bytes ≡ foldl byte_on (part_on x bytes) (behind (stands x) bytes)

  byte_on_lem : (x : X) (c : ℕ) → over x ≡ false → byte_on x c ≡ part_on x (c ∷ [])
  byte_on_lem x c e = ap (λ (b : Bool). cond b x (part_on x (c ∷ []))) e

  parts_by : (x : X) (c d : ℕ) (ds : List ℕ) → over x ≡ false → Cut x c (d ∷ ds) → ((y : X) → over y ≡ false → Parts y (d ∷ ds)) → Parts x (c ∷ d ∷ ds)
  parts_by x c d ds e (ends p) more =
      ap (λ (y : X). foldl byte_on y (d ∷ ds)) (byte_on_lem x c e ∙ p.same) ∙ ap (foldl byte_on (part_on x (c ∷ d ∷ ds))) (sym p.rest)
  parts_by x c d ds e (goes p) more =
      ap (λ (y : X). foldl byte_on y (d ∷ ds)) (byte_on_lem x c e)
      ∙ more (part_on x (c ∷ [])) p.further
      ∙ ap₂ (foldl byte_on) p.same p.rest

  pub part_bytes : Cuttable → (x : X) (c : ℕ) (cs : List ℕ) → over x ≡ false → Parts x (c ∷ cs)
  part_bytes law x c [] e = byte_on_lem x c e ∙ ap (foldl byte_on (part_on x (c ∷ []))) (sym (law.last (stands x) c))
  part_bytes law x c (d ∷ ds) e = parts_by x c d ds e (law.cut x c d ds) λ y f. part_bytes law y d ds f

-- ---- The reader of lines
none_behind : (c : ℕ) → (c ≡ 10 → ⊥) → has_end (c ∷ []) ≡ false
unfolding holds
none_behind c n = held_past 10 c [] n

behind_here : (c : ℕ) (cs : List ℕ) → c ≡ 10 → behind_line (c ∷ cs) ≡ cs
behind_here c cs h = ap (λ (t : List ℕ). drop (length t + 1) (c ∷ cs)) (front_here 10 c cs h)

behind_other : (c : ℕ) (cs : List ℕ) → (c ≡ 10 → ⊥) → behind_line (c ∷ cs) ≡ behind_line cs
behind_other c cs n =
    let e : length (c ∷ line_front cs) + 1 ≡ suc (length (line_front cs) + 1) = omega arith in
    ap (λ (t : List ℕ). drop (length t + 1) (c ∷ cs)) (front_past 10 c cs n) ∙ ap (λ (k : ℕ). drop k (c ∷ cs)) e

behind_last_lem : (c : ℕ) → behind_line (c ∷ []) ≡ []
behind_last_lem c = elim (ℕ_discrete c 10) [ yes h ↦ behind_here c [] h | no h ↦ behind_other c [] h ∙ drop-nil (length (line_front []) + 1) ]

-- what the lines of a log bring: an event, the state of the reader behind it, and the call
pub record LineBrought : Type 0 where
  pub event : Event
  pub state : State
  pub call : Call

-- by what a line makes of the call, and the state after it
abbrev line_by : Read → State → LineBrought
line_by q s = record { event = event_of q.progress; state = s; call = q.call }

-- some bytes, as far as one line goes
unfoldable pub line_brought : State → List ℕ → LineBrought
unfolding brings_of
line_brought s rest = record { event = brings_of s rest; state = after_of s rest; call = (read_of s rest).call }

-- the first byte of some ends their line, or only goes on with it
line_same : (s : State) (c : ℕ) (cs : List ℕ) → c ≡ 10 → line_brought s (c ∷ []) ≡ line_brought s (c ∷ cs)
unfolding line_brought brings_of
line_same s c cs h = same_line line_by s (c ∷ []) (c ∷ cs) (held_here 10 c [] h ∙ sym (held_here 10 c cs h)) (front_here 10 c [] h ∙ sym (front_here 10 c cs h))

line_first : (s : State) (c : ℕ) → (c ≡ 10 → ⊥) → line_brought s (c ∷ []) ≡ record { event = Event.Nothing; state = after_of s (c ∷ []); call = s.call }
unfolding line_brought brings_of
line_first s c h = rw (none_behind c h)

line_rest : (s : State) (c : ℕ) (cs : List ℕ) → (c ≡ 10 → ⊥) → line_brought (after_of s (c ∷ [])) cs ≡ line_brought s (c ∷ cs)
unfolding line_brought brings_of
line_rest s c cs h = line_cut line_by s (c ∷ []) cs (none_behind c h)

-- so lines may be folded over any state that keeps the reader's, where nothing yet moves it alone and ends nothing
module _ {X : Type 0} (over : X → Bool) (stands : X → State) (on : X → LineBrought → X) (moved : X → State → X) (quiet : (x : X) (s : State) (c : Call) → on x (record { event = Event.Nothing; state = s; call = c }) ≡ moved x s)
    (opens : (x : X) (s : State) → over (moved x s) ≡ false) (there : (x : X) (s : State) → stands (moved x s) ≡ s) (alike : (x : X) (s : State) (b : LineBrought) → on (moved x s) b ≡ on x b) where
  first : (x : X) (c : ℕ) → (c ≡ 10 → ⊥) → on x (line_brought (stands x) (c ∷ [])) ≡ moved x (after_of (stands x) (c ∷ []))
  first x c h = ap (on x) (line_first (stands x) c h) ∙ quiet x (after_of (stands x) (c ∷ [])) (stands x).call

  line_goes : (x : X) (c d : ℕ) (ds : List ℕ) → (c ≡ 10 → ⊥) → GoesOn over stands line_brought on (λ s. behind_line) x c (d ∷ ds)
  line_goes x c d ds h =
      let s = after_of (stands x) (c ∷ []) in
      record {
        further = ap over (first x c h) ∙ opens x s;
        same =
            ap (λ (y : X). on y (line_brought (stands y) (d ∷ ds))) (first x c h)
            ∙ ap (λ (t : State). on (moved x s) (line_brought t (d ∷ ds))) (there x s)
            ∙ alike x s (line_brought s (d ∷ ds))
            ∙ ap (on x) (line_rest (stands x) c (d ∷ ds) h);
        rest = sym (behind_other c (d ∷ ds) h);
      }

  pub lines_cuttable : Cuttable over stands line_brought on (λ s. behind_line)
  lines_cuttable =
      record {
        cut = λ x c d ds. elim (ℕ_discrete c 10) [
          | yes h ↦ ends (record { same = ap (on x) (line_same (stands x) c (d ∷ ds) h); rest = behind_here c (d ∷ ds) h })
          | no h ↦ goes (line_goes x c d ds h)
        ];
        last = λ s c. behind_last_lem c;
      }

-- ---- The reader of lines and bodies
-- what a line brings, with bodies
abbrev stage_by : LineBrought → Brought
stage_by b = line_brings b.event b.state b.call

by_line : (i : Stage) (rest : List ℕ) → i.left ≡ 0 → brought_by i rest ≡ stage_by (line_brought i.lines rest)
unfolding brought_by line_brought
by_line i rest e = ap (λ (b : Bool). cond b (line_brings (brings_of i.lines rest) (after_of i.lines rest) (read_of i.lines rest).call) (body_brings i (take i.left rest))) (eq-eqb i.left 0 e)

by_body : (i : Stage) (rest : List ℕ) → 0 < i.left → brought_by i rest ≡ body_brings i (take i.left rest)
unfolding brought_by
by_body i rest h = ap (λ (b : Bool). cond b (line_brings (brings_of i.lines rest) (after_of i.lines rest) (read_of i.lines rest).call) (body_brings i (take i.left rest))) (ne_eqb i.left 0 (λ e. omega arith))

behind_line_lem : (i : Stage) (rest : List ℕ) → i.left ≡ 0 → behind_part i rest ≡ behind_line rest
unfolding behind_part
behind_line_lem i rest e = ap (λ (b : Bool). cond b (behind_line rest) (drop i.left rest)) (eq-eqb i.left 0 e)

behind_body : (i : Stage) (rest : List ℕ) → 0 < i.left → behind_part i rest ≡ drop i.left rest
unfolding behind_part
behind_body i rest h = ap (λ (b : Bool). cond b (behind_line rest) (drop i.left rest)) (ne_eqb i.left 0 (λ e. omega arith))

-- a body of so many bytes, of which the first has come
body_rest : (i : Stage) (c : ℕ) (cs : List ℕ) → body_brings (with_part i (c ∷ [])) cs ≡ body_brings i (c ∷ cs)
unfolding body_brings counted_in
body_rest i c cs =
    let t : (i.body ++ (c ∷ [])) ++ cs ≡ i.body ++ (c ∷ cs) = append_assoc i.body (c ∷ []) cs in
    let l : i.left - 1 - length cs ≡ i.left - suc (length cs) = omega arith in
    ap₂ (λ (b : List ℕ) (n : ℕ). cond (eqb n 0) (brings_call (passed i.lines (c ∷ cs)) i.call b) (brings_nothing (record { lines = passed i.lines (c ∷ cs); call = i.call; body = b; left = n }) i.call)) t l

body_first : (i : Stage) (c : ℕ) → 1 < i.left → body_brings i (c ∷ []) ≡ brings_nothing (with_part i (c ∷ [])) i.call
unfolding body_brings
body_first i c h = ap (λ (b : Bool). cond b (brings_call (passed i.lines (c ∷ [])) i.call (i.body ++ (c ∷ []))) (brings_nothing (with_part i (c ∷ [])) i.call)) (ne_eqb (i.left - 1) 0 (λ e. omega arith))

take_cons : (n c : ℕ) (cs : List ℕ) → 0 < n → take n (c ∷ cs) ≡ c ∷ take (n - 1) cs
take_cons n c cs h = let e : n ≡ suc (n - 1) = omega arith in ap (λ (k : ℕ). take k (c ∷ cs)) e

drop_cons' : (n c : ℕ) (cs : List ℕ) → 0 < n → drop n (c ∷ cs) ≡ drop (n - 1) cs
drop_cons' n c cs h = let e : n ≡ suc (n - 1) = omega arith in ap (λ (k : ℕ). drop k (c ∷ cs)) e

take_one : (n c : ℕ) → 0 < n → take n (c ∷ []) ≡ c ∷ []
take_one n c h = take_cons n c [] h ∙ ap (λ (t : List ℕ). c ∷ t) (take_nil (n - 1))
  where
    take_nil : (k : ℕ) → take {A = ℕ} k [] ≡ []
    take_nil k = lib.Seq.take_all k [] (omega arith)

-- so lines and bodies may be folded over any state that keeps the script's stage
module _ {X : Type 0} (over : X → Bool) (stands : X → Stage) (on : X → Brought → X) (moved : X → Stage → X) (quiet : (x : X) (i : Stage) (c : Call) → on x (brings_nothing i c) ≡ moved x i)
    (opens : (x : X) (i : Stage) → over (moved x i) ≡ false) (there : (x : X) (i : Stage) → stands (moved x i) ≡ i) (alike : (x : X) (i : Stage) (b : Brought) → on (moved x i) b ≡ on x b) where
  -- what goes on, by where the first byte leads and what the others bring then
  goes_by : (x : X) (c d : ℕ) (ds : List ℕ) (i : Stage) (k : Call) → brought_by (stands x) (c ∷ []) ≡ brings_nothing i k → brought_by i (d ∷ ds) ≡ brought_by (stands x) (c ∷ d ∷ ds) → behind_part i (d ∷ ds) ≡ behind_part (stands x) (c ∷ d ∷ ds)
      → GoesOn over stands brought_by on behind_part x c (d ∷ ds)
  goes_by x c d ds i k one more rest =
      let e : on x (brought_by (stands x) (c ∷ [])) ≡ moved x i = ap (on x) one ∙ quiet x i k in
      record {
        further = ap over e ∙ opens x i;
        same =
            ap (λ (y : X). on y (brought_by (stands y) (d ∷ ds))) e
            ∙ ap (λ (t : Stage). on (moved x i) (brought_by t (d ∷ ds))) (there x i)
            ∙ alike x i (brought_by i (d ∷ ds))
            ∙ ap (on x) more;
        rest = ap (λ (y : X). behind_part (stands y) (d ∷ ds)) e ∙ ap (λ (t : Stage). behind_part t (d ∷ ds)) (there x i) ∙ rest;
      }

  in_line : (x : X) (c d : ℕ) (ds : List ℕ) → (stands x).left ≡ 0 → Cut over stands brought_by on behind_part x c (d ∷ ds)
  unfolding line_brings
  in_line x c d ds z =
      let i = stands x in
      elim (ℕ_discrete c 10) [
        | yes h ↦
            ends
            (record {
              same = ap (on x) (by_line i (c ∷ []) z ∙ ap stage_by (line_same i.lines c (d ∷ ds) h) ∙ sym (by_line i (c ∷ d ∷ ds) z));
              rest = behind_line_lem i (c ∷ d ∷ ds) z ∙ behind_here c (d ∷ ds) h;
            })
        | no h ↦
            let j = in_lines (after_of i.lines (c ∷ [])) in
            goes
            (goes_by x c d ds j i.lines.call
            (by_line i (c ∷ []) z ∙ ap stage_by (line_first i.lines c h))
            (by_line j (d ∷ ds) refl ∙ ap stage_by (line_rest i.lines c (d ∷ ds) h) ∙ sym (by_line i (c ∷ d ∷ ds) z))
            (behind_line_lem j (d ∷ ds) refl ∙ sym (behind_other c (d ∷ ds) h) ∙ sym (behind_line_lem i (c ∷ d ∷ ds) z)))
      ]

  in_body : (x : X) (c d : ℕ) (ds : List ℕ) → 0 < (stands x).left → Cut over stands brought_by on behind_part x c (d ∷ ds)
  in_body x c d ds some =
      let i = stands x in
      elim (dec_lt 1 i.left) [
        | yes h ↦
            let j = with_part i (c ∷ []) in
            let more : 0 < i.left - 1 = omega arith in
            goes
            (goes_by x c d ds j i.call
            (by_body i (c ∷ []) some ∙ ap (body_brings i) (take_one i.left c some) ∙ body_first i c h)
            (by_body j (d ∷ ds) more ∙ body_rest i c (take (i.left - 1) (d ∷ ds)) ∙ ap (body_brings i) (sym (take_cons i.left c (d ∷ ds) some)) ∙ sym (by_body i (c ∷ d ∷ ds) some))
            (behind_body j (d ∷ ds) more ∙ sym (drop_cons' i.left c (d ∷ ds) some) ∙ sym (behind_body i (c ∷ d ∷ ds) some)))
        | no h ↦
            let one : i.left ≡ 1 = omega arith in
            ends
            (record {
              same =
                  ap
                  (on x)
                  (by_body i (c ∷ []) some
                  ∙ ap (λ (n : ℕ). body_brings i (take n (c ∷ []))) one
                  ∙ sym (ap (λ (n : ℕ). body_brings i (take n (c ∷ d ∷ ds))) one)
                  ∙ sym (by_body i (c ∷ d ∷ ds) some));
              rest = behind_body i (c ∷ d ∷ ds) some ∙ ap (λ (n : ℕ). drop n (c ∷ d ∷ ds)) one;
            })
      ]

  brought_last : (i : Stage) (c : ℕ) → behind_part i (c ∷ []) ≡ []
  brought_last i c =
      elim (ℕ_discrete i.left 0) [
        | yes z ↦ behind_line_lem i (c ∷ []) z ∙ behind_last_lem c
        | no z ↦ let some : 0 < i.left = omega (arith, z) in behind_body i (c ∷ []) some ∙ drop_cons' i.left c [] some ∙ drop-nil (i.left - 1)
      ]

  pub brought_cuttable : Cuttable over stands brought_by on behind_part
  brought_cuttable =
      record {
        cut = λ x c d ds. elim (ℕ_discrete (stands x).left 0) [
          | yes z ↦ in_line x c d ds z
          | no z ↦ in_body x c d ds (omega (arith, z))
        ];
        last = brought_last;
      }
