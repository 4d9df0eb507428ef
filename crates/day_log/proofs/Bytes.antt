-- A line taken at once is its bytes taken one by one; bytes may be cut anywhere; and the tanks are what the applied edits make of them.
use mathlib.Core.Path.{◌≡◌, refl, sym, ap, ◌∙◌}
use mathlib.Core.Bool.{Bool, true, false, cond}
use mathlib.Core.List.{List, [], ◌∷◌, ◌++◌, foldl, foldl-append}
use Prim.Native.Nat.{ℕ, suc, ◌+◌}
use native.Mathlib.Decide.{ℕ_discrete}
use native.Mathlib.Omega.{arith}
use lib.Dec.{eqb}
use lib.ListN.{length, drop}
use lib.Seq.{drop-nil}
use Rattle.text.specs.Bytes.{holds}
use Rattle.text.proofs.Finding.{front_here, front_past, held_here, held_past}
use Rattle.tanks.specs.House.{House, refusal_at, after_at, after_all, Call as Calling}
use Rattle.script.specs.declared.Call.{Call}
use Rattle.script.specs.declared.Event.{Event}
use Rattle.script.specs.declared.Read.{Read}
use Rattle.script.specs.Lines.{line_front, has_end, State, event_of, read_of, brings_of, after_of, counted_of}
use Rattle.script.proofs.CutAnywhere.{same_line, line_cut}
use Rattle.day_log.specs.declared.Stop.{Stop}
use Rattle.day_log.specs.Log.{logged, call_of, Course, going, stopped, read_on, on_line, after_line, after_byte, after_bytes, applied_on, applied_by, applied_all}

-- ---- cut anywhere
pub cut_anywhere : (x : Course) (a b : List ℕ) → after_bytes x (a ++ b) ≡ after_bytes (after_bytes x a) b
unfolding after_bytes
cut_anywhere x a b = foldl-append after_byte x a b

-- after a stop nothing more is taken
pub stopped_stays : (x : Course) (more : List ℕ) → going x.stop ≡ false → after_bytes x more ≡ x
unfolding after_bytes after_byte
stopped_stays x [] e = refl
stopped_stays x (b ∷ more) e = ap (λ (y : Course). after_bytes y more) (rw e) ∙ stopped_stays x more e

-- ---- the tanks are what the applied edits make of them
on_house : (e : Event) (x : Course) (r : State) (c : Call) → (on_line e x r c).house ≡ after_all x.house (applied_on e x c)
unfolding on_line after_all
on_house Event.Nothing x r c = by (logged c.op) where
  by : (b : Bool) → (cond {A = Course} b (read_on x r) (stopped x r.newlines 13)).house ≡ x.house
  by true = refl
  by false = refl
on_house Event.Bad x r c = refl
on_house Event.Call x r c = by (logged c.op) (eqb (refusal_at x.house (call_of c).tank (call_of c).edit) 0) where
  number : ℕ
  number = refusal_at x.house (call_of c).tank (call_of c).edit

  by : (known good : Bool)
      → (cond {A = Course} known (cond {A = Course} good (record { house = after_at x.house (call_of c).tank (call_of c).edit; reader = r; edits = counted_of x.edits; stop = Stop.Going }) (stopped x r.newlines number)) (stopped x r.newlines 13)).house
      ≡ foldl (λ (h : House) (k : Calling). after_at h k.tank k.edit) x.house (cond known (cond good (call_of c ∷ []) []) [])
  by true true = refl
  by true false = refl
  by false good = refl

byte_house : (x : Course) (byte : ℕ) → (after_byte x byte).house ≡ after_all x.house (applied_by x byte)
unfolding after_byte applied_by after_all
byte_house x byte = by (going x.stop) where
  by : (b : Bool) → (cond {A = Course} b (after_line x (byte ∷ [])) x).house ≡ after_all x.house (cond b (applied_on (brings_of x.reader (byte ∷ [])) x (read_of x.reader (byte ∷ [])).call) [])
  by true = on_house (brings_of x.reader (byte ∷ [])) x (after_of x.reader (byte ∷ [])) (read_of x.reader (byte ∷ [])).call
  by false = refl

pub log_house : (x : Course) (bytes : List ℕ) → (after_bytes x bytes).house ≡ after_all x.house (applied_all x bytes)
unfolding after_bytes applied_all after_all
log_house x [] = refl
log_house x (byte ∷ more) =
    log_house (after_byte x byte) more
    ∙ ap (λ (h : House). after_all h (applied_all (after_byte x byte) more)) (byte_house x byte)
    ∙ sym (foldl-append (λ (h : House) (k : Calling). after_at h k.tank k.edit) x.house (applied_by x byte) (applied_all (after_byte x byte) more))

-- ---- a line is its bytes
abbrev pub behind_line : List ℕ → List ℕ
behind_line line = drop (length (line_front line) + 1) line

-- where a log stands makes no difference to what a line brings but for its tanks and its edits
on_same : (e : Event) (x : Course) (q r : State) (c : Call) → on_line e (read_on x q) r c ≡ on_line e x r c
unfolding on_line
on_same Event.Nothing x q r c = refl
on_same Event.Bad x q r c = refl
on_same Event.Call x q r c = refl

pub none_behind : (c : ℕ) → (c ≡ 10 → ⊥) → has_end (c ∷ []) ≡ false
unfolding holds
none_behind c n = held_past 10 c [] n

behind_other : (c : ℕ) (cs : List ℕ) → (c ≡ 10 → ⊥) → behind_line (c ∷ cs) ≡ behind_line cs
behind_other c cs n =
    let e : length (c ∷ line_front cs) + 1 ≡ suc (length (line_front cs) + 1) = omega arith in
    ap (λ (t : List ℕ). drop (length t + 1) (c ∷ cs)) (front_past 10 c cs n) ∙ ap (λ (k : ℕ). drop k (c ∷ cs)) e

-- a log that is read, at an op of its own
pub record Ready (x : Course) : Type 0 where
  pub on : x.stop ≡ Stop.Going
  pub op : logged x.reader.call.op ≡ true

pub byte_taken : (x : Course) (c : ℕ) → Ready x → after_byte x c ≡ after_line x (c ∷ [])
unfolding after_byte
byte_taken x c r = rw r.on

-- a byte more of a line that goes on
unfoldable pub part : Course → ℕ → Course
part x c = read_on x (after_of x.reader (c ∷ []))

part_call : (s : State) (c : ℕ) → has_end (c ∷ []) ≡ false → (after_of s (c ∷ [])).call ≡ s.call
unfolding after_of
part_call s c e = rw e

pub part_brings_lem : (x : Course) (c : ℕ) → Ready x → has_end (c ∷ []) ≡ false → after_line x (c ∷ []) ≡ part x c
unfolding on_line brings_of part
part_brings_lem x c r e = rw e (rw r.op)

pub part_ready : (x : Course) (c : ℕ) → Ready x → has_end (c ∷ []) ≡ false → Ready (part x c)
unfolding part
part_ready x c r e = record { on = refl; op = rw (part_call x.reader c e) r.op }

pub part_line : (x : Course) (c : ℕ) (cs : List ℕ) → has_end (c ∷ []) ≡ false → after_line (part x c) cs ≡ after_line x (c ∷ cs)
unfolding part brings_of
part_line x c cs e =
    let s = x.reader in
    on_same (event_of (read_of (after_of s (c ∷ [])) cs).progress) x (after_of s (c ∷ [])) (after_of (after_of s (c ∷ [])) cs) (read_of (after_of s (c ∷ [])) cs).call
    ∙ line_cut (λ (q : Read) (t : State). on_line (event_of q.progress) x t q.call) s (c ∷ []) cs e

module _ (x : Course) (c : ℕ) (cs : List ℕ) (r : Ready x) where
  ends : c ≡ 10 → after_bytes x (c ∷ cs) ≡ after_bytes (after_line x (c ∷ cs)) (behind_line (c ∷ cs))
  unfolding after_bytes brings_of
  ends h =
      ap (λ (y : Course). after_bytes y cs) (byte_taken x c r ∙ same_line (λ (q : Read) (t : State). on_line (event_of q.progress) x t q.call) x.reader (c ∷ []) (c ∷ cs) (held_here 10 c [] h ∙ sym (held_here 10 c cs h)) (front_here 10 c [] h ∙ sym (front_here 10 c cs h)))
      ∙ ap (λ (t : List ℕ). after_bytes (after_line x (c ∷ cs)) (drop (length t + 1) (c ∷ cs))) (sym (front_here 10 c cs h))

  goes : (c ≡ 10 → ⊥) → after_bytes (part x c) cs ≡ after_bytes (after_line (part x c) cs) (behind_line cs) → after_bytes x (c ∷ cs) ≡ after_bytes (after_line x (c ∷ cs)) (behind_line (c ∷ cs))
  unfolding after_bytes
  goes h more =
      ap (λ (y : Course). after_bytes y cs) (byte_taken x c r ∙ part_brings_lem x c r (none_behind c h))
      ∙ more
      ∙ ap (λ (y : Course). after_bytes y (behind_line cs)) (part_line x c cs (none_behind c h))
      ∙ ap (after_bytes (after_line x (c ∷ cs))) (sym (behind_other c cs h))

last_byte : (x : Course) (c : ℕ) → Ready x → (c ≡ 10 → ⊥) → after_bytes x (c ∷ []) ≡ after_bytes (after_line x (c ∷ [])) (behind_line (c ∷ []))
unfolding after_bytes
last_byte x c r h =
    ap (λ (y : Course). after_bytes y []) (byte_taken x c r)
    ∙ sym (ap (after_bytes (after_line x (c ∷ []))) (behind_other c [] h ∙ drop-nil (length (line_front []) + 1)))

pub line_bytes : (x : Course) (c : ℕ) (cs : List ℕ) → Ready x → after_bytes x (c ∷ cs) ≡ after_bytes (after_line x (c ∷ cs)) (behind_line (c ∷ cs))
line_bytes x c [] r = elim (ℕ_discrete c 10) [ yes h ↦ ends x c [] r h | no h ↦ last_byte x c r h ]
line_bytes x c (d ∷ ds) r = elim (ℕ_discrete c 10) [ yes h ↦ ends x c (d ∷ ds) r h | no h ↦ goes x c (d ∷ ds) r h (line_bytes (part x c) d ds (part_ready x c r (none_behind c h))) ]
