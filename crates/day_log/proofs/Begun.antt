-- Where a log does not stand between two groups: inside a line, and behind a good line that is not its group's last. And where it does: behind
-- the last line of a group.
use Rattle.std.specs.Prelude.{ℤ, Option, Some, None}
use mathlib.Core.Path.{◌≡◌, refl, sym, ap, subst, ◌∙◌}
use mathlib.Core.Bool.{Bool, true, false, cond}
use mathlib.Core.List.{List, [], ◌∷◌, ◌++◌}
use Prim.Native.Nat.{ℕ, zero, suc, ◌+◌, ◌<◌, ◌≤◌}
use native.Mathlib.Decide.{ℕ_discrete}
use native.Mathlib.Omega.{arith}
use lib.Dec.{ltb}
use lib.ListN.{length, take, drop, length-take, length-append}
use lib.Seq.{take-nil}
use Rattle.text.specs.Bytes.{same_of, starts_of}
use Rattle.text.proofs.Finding.{front_here, front_past, front_none, held_here}
use Rattle.script.specs.Grammar.{OpRow, Field, field_at, ops}
use Rattle.script.specs.declared.Call.{Call}
use Rattle.script.specs.declared.Event.{Event}
use Rattle.script.specs.declared.Holds.{Holds}
use Rattle.script.specs.declared.Kind.{Kind}
use Rattle.script.specs.declared.Progress.{Progress}
use Rattle.script.specs.declared.Read.{Read}
use Rattle.styles.specs.declared.Value.{Value}
use Rattle.text.specs.Signed.{signed32_of}
use Rattle.script.specs.Reading.{number_of, byte_of, party_of, kind_named, value_of, op_from, op_named, after_name, bad_of, moved_of, with_op, with_number, with_counter, with_kind, with_value, held_line, line_of}
use Rattle.script.specs.Lines.{line_front, has_end, grown_of, State, event_of, brings_of, after_of, turned_of}
use Rattle.script.proofs.CutAnywhere.{same_line}
use Rattle.day_log.specs.Log.{Course, on_line, after_line, after_bytes}
use Rattle.day_log.specs.Groups.{between_at, Between}
use Rattle.day_log.proofs.Bytes.{Ready, part, part_brings_lem, part_ready, part_line, byte_taken, none_behind}

-- ---- the first line of some bytes, its newline with it
abbrev pub first_line : List ℕ → List ℕ
first_line l = take (length (line_front l) + 1) l

first_past : (c : ℕ) (cs : List ℕ) → (c ≡ 10 → ⊥) → first_line (c ∷ cs) ≡ c ∷ first_line cs
first_past c cs n =
    let e : length (c ∷ line_front cs) + 1 ≡ suc (length (line_front cs) + 1) = omega arith in
    ap (λ (t : List ℕ). take (length t + 1) (c ∷ cs)) (front_past 10 c cs n) ∙ ap (λ (k : ℕ). take k (c ∷ cs)) e

module _ (x : Course) (c : ℕ) (cs : List ℕ) (r : Ready x) where
  byte_on_lem : (c ≡ 10 → ⊥) → (more : List ℕ) → after_bytes x (c ∷ more) ≡ after_bytes (part x c) more
  unfolding after_bytes
  byte_on_lem h more = ap (λ (y : Course). after_bytes y more) (byte_taken x c r ∙ part_brings_lem x c r (none_behind c h))

  line_ends : c ≡ 10 → after_bytes x (first_line (c ∷ cs)) ≡ after_line x (c ∷ cs)
  unfolding after_bytes brings_of
  line_ends h =
      ap (λ (t : List ℕ). after_bytes x (take (length t + 1) (c ∷ cs))) (front_here 10 c cs h)
      ∙ byte_taken x c r
      ∙ same_line (λ (q : Read) (t : State). on_line (event_of q.progress) x t q.call) x.reader (c ∷ []) (c ∷ cs) (held_here 10 c [] h ∙ sym (held_here 10 c cs h)) (front_here 10 c [] h ∙ sym (front_here 10 c cs h))

  line_goes : (c ≡ 10 → ⊥) → after_bytes (part x c) (first_line cs) ≡ after_line (part x c) cs → after_bytes x (first_line (c ∷ cs)) ≡ after_line x (c ∷ cs)
  line_goes h more = ap (after_bytes x) (first_past c cs h) ∙ byte_on_lem h (first_line cs) ∙ more ∙ part_line x c cs (none_behind c h)

last_part : (x : Course) (c : ℕ) → Ready x → (c ≡ 10 → ⊥) → after_bytes x (first_line (c ∷ [])) ≡ after_line x (c ∷ [])
unfolding after_bytes
last_part x c r h =
    ap (after_bytes x) (first_past c [] h ∙ ap (λ (t : List ℕ). c ∷ t) (take-nil (length (line_front []) + 1)))
    ∙ byte_taken x c r

-- a line taken byte by byte
pub line_taken : (x : Course) (c : ℕ) (cs : List ℕ) → Ready x → after_bytes x (first_line (c ∷ cs)) ≡ after_line x (c ∷ cs)
line_taken x c [] r = elim (ℕ_discrete c 10) [ yes h ↦ line_ends x c [] r h | no h ↦ last_part x c r h ]
line_taken x c (d ∷ ds) r = elim (ℕ_discrete c 10) [ yes h ↦ line_ends x c (d ∷ ds) r h | no h ↦ line_goes x c (d ∷ ds) r h (line_taken (part x c) d ds (part_ready x c r (none_behind c h))) ]

-- ---- inside a line
part_begun : (x : Course) (c : ℕ) → (c ≡ 10 → ⊥) → Between (part x c) → ⊥
unfolding part after_of
part_begun x c h b =
    let e : (after_of x.reader (c ∷ [])).held ≡ grown_of x.reader.held (c ∷ []) = rw (none_behind c h) refl in
    let f : length (line_front (c ∷ [])) ≡ 1 + length (line_front []) = ap length (front_past 10 c [] h) in
    omega (
      arith,
      ap (λ (s : State). length s.held) b.reader,
      ap length e,
      length-take 65 (x.reader.held ++ line_front (c ∷ [])),
      length-append x.reader.held (line_front (c ∷ [])),
      f,
    )

inside_past : (c : ℕ) (cs : List ℕ) (k : ℕ) → suc k ≤ length (line_front (c ∷ cs)) → (c ≡ 10 → ⊥) × (k ≤ length (line_front cs))
inside_past c cs k h =
    elim (ℕ_discrete c 10) [
      | yes e ↦ absurd (omega (arith, ap length (front_here 10 c cs e)))
      | no e ↦ (e, omega (arith, ap length (front_past 10 c cs e)))
    ]

pub inside_line : (x : Course) (c : ℕ) (cs : List ℕ) (k : ℕ) → Ready x → suc k ≤ length (line_front (c ∷ cs)) → Between (after_bytes x (take (suc k) (c ∷ cs))) → ⊥
unfolding after_bytes
inside_line x c cs zero r h b =
    let p = inside_past c cs 0 h in
    part_begun x c p.0 (subst Between (byte_on_lem x c [] r p.0 []) b)
inside_line x c [] (suc k) r h b = let p = inside_past c [] (suc k) h in absurd (omega (arith, p.1, ap length (front_none 10)))
inside_line x c (d ∷ ds) (suc k) r h b =
    let p = inside_past c (d ∷ ds) (suc k) h in
    inside_line (part x c) d ds k (part_ready x c r (none_behind c p.0)) p.1 (subst Between (byte_on_lem x c [] r p.0 (take (suc k) (d ∷ ds))) b)

-- ---- behind a good line that is not its group's last: an op or a field was read
abbrev begun_by_lem : Call → ℕ
begun_by_lem c = c.row + c.place

op_row : (i : ℕ) (rs : List OpRow) (t : List ℕ) (row : ℕ) → op_from (suc i) rs t ≡ Some row → 0 < row
op_row i [] t row h = let z : ◌≡◌ {A = ℕ} 0 1 = cc in absurd (omega arith)
op_row i (x ∷ xs) t row h = by (same_of t x.name) h (op_row (suc i) xs t row) where
  by : (b : Bool) → cond b (Some (suc i)) (op_from (suc (suc i)) xs t) ≡ Some row → (op_from (suc (suc i)) xs t ≡ Some row → 0 < row) → 0 < row
  by true g rest = let z : suc i ≡ row = cc in omega arith
  by false g rest = rest g

named_row : (t : List ℕ) (row : ℕ) → op_named t ≡ Some row → 0 < row
unfolding op_named
named_row t row h = op_row 0 ops t row h

after_row : (f : Field) (line : List ℕ) (row : ℕ) → after_name f None op_named line ≡ Some row → 0 < row
after_row f line row h = by (starts_of line f.name) h where
  by : (b : Bool) → cond b (op_named (drop (length f.name) line)) None ≡ Some row → 0 < row
  by true g = named_row (drop (length f.name) line) row g
  by false g = let z : ◌≡◌ {A = ℕ} 0 1 = cc in absurd (omega arith)

module _ (c : Call) where
  op_begun : (o : Option ℕ) → ((row : ℕ) → o ≡ Some row → 0 < row) → (with_op c o).progress ≡ Progress.More → 0 < begun_by_lem (with_op c o).call
  op_begun None k h = let z : ◌≡◌ {A = ℕ} 0 1 = cc in absurd (omega arith)
  op_begun (Some row) k h = omega (arith, k row refl)

  number_begun : (p : Option ℕ) → (with_number c p).progress ≡ Progress.More → 0 < begun_by_lem (with_number c p).call
  unfolding moved_of
  number_begun None h = let z : ◌≡◌ {A = ℕ} 0 1 = cc in absurd (omega arith)
  number_begun (Some n) h = omega arith

  counter_begun : (p : Option ℤ) → (with_counter c p).progress ≡ Progress.More → 0 < begun_by_lem (with_counter c p).call
  unfolding moved_of
  counter_begun None h = let z : ◌≡◌ {A = ℕ} 0 1 = cc in absurd (omega arith)
  counter_begun (Some n) h = omega arith

  kind_begun : (p : Option Kind) → (with_kind c p).progress ≡ Progress.More → 0 < begun_by_lem (with_kind c p).call
  unfolding moved_of
  kind_begun None h = let z : ◌≡◌ {A = ℕ} 0 1 = cc in absurd (omega arith)
  kind_begun (Some k) h = omega arith

  value_begun : (p : Option Value) → (with_value c p).progress ≡ Progress.More → 0 < begun_by_lem (with_value c p).call
  unfolding moved_of
  value_begun None h = let z : ◌≡◌ {A = ℕ} 0 1 = cc in absurd (omega arith)
  value_begun (Some v) h = omega arith

  held_begun : (f : Field) (k : Holds) (line : List ℕ) → (held_line c f k line).progress ≡ Progress.More → 0 < begun_by_lem (held_line c f k line).call
  unfolding held_line
  held_begun f Holds.Nothing line h = let z : ◌≡◌ {A = ℕ} 0 1 = cc in absurd (omega arith)
  held_begun f Holds.Op line h = op_begun (after_name f None op_named line) (after_row f line) h
  held_begun f (Holds.Number most) line h = number_begun (number_of f most line) h
  held_begun f Holds.Counter line h = counter_begun (after_name f None signed32_of line) h
  held_begun f Holds.Kind line h = kind_begun (after_name f None kind_named line) h
  held_begun f Holds.Value line h = value_begun (after_name f None (value_of c.kind) line) h
  held_begun f Holds.Byte line h = number_begun (after_name f None byte_of line) h
  held_begun f Holds.Party line h = number_begun (after_name f None party_of line) h

  line_begun : (line : List ℕ) → (line_of c line).progress ≡ Progress.More → 0 < begun_by_lem (line_of c line).call
  unfolding line_of
  line_begun line h = by (ltb 64 (length line)) h where
    held : Read
    held = held_line c (field_at c.row c.place) (field_at c.row c.place).holds line

    by : (b : Bool) → (cond {A = Read} b (bad_of c) held).progress ≡ Progress.More → 0 < begun_by_lem (cond {A = Read} b (bad_of c) held).call
    by true g = let z : ◌≡◌ {A = ℕ} 0 1 = cc in absurd (omega arith)
    by false g = held_begun (field_at c.row c.place) (field_at c.row c.place).holds line g

turned_begun : (n : ℕ) (q : Read) → event_of q.progress ≡ Event.Nothing → (q.progress ≡ Progress.More → 0 < begun_by_lem q.call) → 0 < begun_by_lem (turned_of n q.progress q.call).call
turned_begun n q e k = by q.progress e k where
  by : (p : Progress) → event_of p ≡ Event.Nothing → (p ≡ Progress.More → 0 < begun_by_lem q.call) → 0 < begun_by_lem (turned_of n p q.call).call
  by Progress.Bad h g = let z : ◌≡◌ {A = ℕ} 0 1 = cc in absurd (omega arith)
  by Progress.More h g = g refl
  by Progress.Ready h g = let z : ◌≡◌ {A = ℕ} 0 1 = cc in absurd (omega arith)

pub more_begun : (s : State) (rest : List ℕ) → has_end rest ≡ true → brings_of s rest ≡ Event.Nothing → 0 < begun_by_lem (after_of s rest).call
unfolding brings_of after_of
more_begun s rest e h = by (has_end rest) e h where
  line : Read
  line = line_of s.call (grown_of s.held rest)

  read : Bool → Read
  read b = cond {A = Read} b line (record { call = s.call; progress = Progress.More })

  by : (b : Bool) → b ≡ true → event_of (read b).progress ≡ Event.Nothing
      → 0 < begun_by_lem (cond {A = State} b (turned_of s.newlines (read b).progress (read b).call) (record { held = grown_of s.held rest; call = s.call; newlines = s.newlines })).call
  by true f g = turned_begun s.newlines line g (line_begun s.call (grown_of s.held rest))
  by false f g = let z : ◌≡◌ {A = ℕ} 0 1 = cc in absurd (omega arith)

-- so it does not stand between two groups
pub begun_not : (x : Course) → 0 < begun_by_lem x.reader.call → Between x → ⊥
begun_not x h b = omega (arith, ap (λ (s : State). begun_by_lem s.call) b.reader)

-- ---- behind the last line of a group
turned_between : (n : ℕ) (q : Read) → event_of q.progress ≡ Event.Call → turned_of n q.progress q.call ≡ between_at (turned_of n q.progress q.call).newlines
turned_between n q e = by q.progress e where
  by : (p : Progress) → event_of p ≡ Event.Call → turned_of n p q.call ≡ between_at (turned_of n p q.call).newlines
  by Progress.Bad h = let z : ◌≡◌ {A = ℕ} 0 1 = cc in absurd (omega arith)
  by Progress.More h = let z : ◌≡◌ {A = ℕ} 0 1 = cc in absurd (omega arith)
  by Progress.Ready h = refl

pub call_between : (s : State) (rest : List ℕ) → brings_of s rest ≡ Event.Call → after_of s rest ≡ between_at (after_of s rest).newlines
unfolding brings_of after_of
call_between s rest h = by (has_end rest) h where
  read : Bool → Read
  read b = cond {A = Read} b (line_of s.call (grown_of s.held rest)) (record { call = s.call; progress = Progress.More })

  next : Bool → State
  next b = cond {A = State} b (turned_of s.newlines (read b).progress (read b).call) (record { held = grown_of s.held rest; call = s.call; newlines = s.newlines })

  by : (b : Bool) → event_of (read b).progress ≡ Event.Call → next b ≡ between_at (next b).newlines
  by true g = turned_between s.newlines (read true) g
  by false g = let z : ◌≡◌ {A = ℕ} 0 1 = cc in absurd (omega arith)
