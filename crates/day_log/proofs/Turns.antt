-- A turn of the loop over some bytes of a log: one line.
use Rattle.std.specs.Prelude.{Some, None}
use mathlib.Core.Path.{◌≡◌, refl, sym, ap, ap₂, subst, ◌∙◌}
use mathlib.Core.Bool.{Bool, true, false, cond}
use mathlib.Core.List.{List}
use Prim.Native.Nat.{ℕ, suc, ◌+◌, ◌<◌, ◌≤◌, min}
use native.Mathlib.Decide.{dec_lt, ℕ_discrete}
use native.Mathlib.Omega.{arith}
use lib.ListN.{length, drop, get_or, drop_of_length-le}
use lib.Seq.{drop-cons, drop-drop}
use borrow.Author.Tests.{eq-eqb, ne_eqb}
use Rattle.tanks.specs.declared.Tanks.{Tanks}
use Rattle.tanks.specs.House.{House, refusal_at}
use Rattle.tanks.specs.Pool as pool
use Rattle.tanks.specs.Promises.{CalledAt}
use Rattle.tanks.proofs.CallLaws.{after_refused}
use Rattle.script.specs.declared.Call.{Call}
use Rattle.script.specs.declared.Event.{Event}
use Rattle.script.specs.declared.Fed.{Fed}
use Rattle.script.specs.declared.Progress.{Progress}
use Rattle.script.specs.declared.Read.{Read}
use Rattle.script.specs.declared.Reader.{Reader}
use Rattle.script.specs.Lines.{line_front, has_end, State, state_of, event_of, read_of, brings_of, after_of, turned_of, grown_of, counted_of, Feeds}
use Rattle.script.proofs.Unique.{fed_state}
use Rattle.day_log.specs.declared.Log.{Log}
use Rattle.day_log.specs.declared.Stop.{Stop}
use Rattle.day_log.specs.declared.Taken.{Taken}
use Rattle.day_log.specs.Log.{logged, call_of, Course, at_start, going, stopped, read_on, applied, on_line, after_line, after_bytes, step_of, wrong_line, stopped_log, course_of, log_at, Tidy, Sound, Takes}
use Rattle.day_log.proofs.Bytes.{behind_line, line_bytes, stopped_stays}
use Rattle.day_log.proofs.Ends.{sound_stopped}
use Rattle.day_log.proofs.Tidy.{log_of}

-- a log that is read
abbrev pub standing : Tanks → Reader → ℕ → Course
standing s r edits = record { house = pool.meaning s; reader = state_of r; edits = edits; stop = Stop.Going }

-- ---- what a step says of the event
pub step_on : (e : Event) (known : Bool) → step_of e known ≡ Some false → (e ≡ Event.Nothing) × (known ≡ true)
step_on Event.Nothing true h = (refl, refl)
step_on Event.Nothing false h = let z : ◌≡◌ {A = ℕ} 0 1 = cc in absurd (omega arith)
step_on Event.Bad known h = let z : ◌≡◌ {A = ℕ} 0 1 = cc in absurd (omega arith)
step_on Event.Call true h = let z : true ≡ false = cc in let y : ◌≡◌ {A = ℕ} 0 1 = cc in absurd (omega arith)
step_on Event.Call false h = let z : ◌≡◌ {A = ℕ} 0 1 = cc in absurd (omega arith)

pub step_whole : (e : Event) (known : Bool) → step_of e known ≡ Some true → (e ≡ Event.Call) × (known ≡ true)
step_whole Event.Nothing true h = let z : false ≡ true = cc in let y : ◌≡◌ {A = ℕ} 0 1 = cc in absurd (omega arith)
step_whole Event.Nothing false h = let z : ◌≡◌ {A = ℕ} 0 1 = cc in absurd (omega arith)
step_whole Event.Bad known h = let z : ◌≡◌ {A = ℕ} 0 1 = cc in absurd (omega arith)
step_whole Event.Call true h = (refl, refl)
step_whole Event.Call false h = let z : ◌≡◌ {A = ℕ} 0 1 = cc in absurd (omega arith)

pub step_wrong : (e : Event) (x : Course) (r : State) (c : Call) → step_of e (logged c.op) ≡ None → on_line e x r c ≡ stopped x (wrong_line e r.newlines) 13
unfolding on_line
step_wrong Event.Nothing x r c h = by (logged c.op) h where
  by : (b : Bool) → cond b (Some false) None ≡ None → cond b (read_on x r) (stopped x r.newlines 13) ≡ stopped x r.newlines 13
  by true g = let z : ◌≡◌ {A = ℕ} 0 1 = cc in absurd (omega arith)
  by false g = refl
step_wrong Event.Bad x r c h = refl
step_wrong Event.Call x r c h = by (logged c.op) h where
  done : Course
  done = applied x r (call_of c) (refusal_at x.house (call_of c).tank (call_of c).edit)

  by : (b : Bool) → cond b (Some true) None ≡ None → cond b done (stopped x r.newlines 13) ≡ stopped x r.newlines 13
  by true g = let z : ◌≡◌ {A = ℕ} 0 1 = cc in absurd (omega arith)
  by false g = refl

pub on_nothing : (v : Event) (x : Course) (r : State) (c : Call) → v ≡ Event.Nothing → logged c.op ≡ true → on_line v x r c ≡ read_on x r
unfolding on_line
on_nothing Event.Nothing x r c e k = rw k
on_nothing Event.Bad x r c e k = let z : ◌≡◌ {A = ℕ} 0 1 = cc in absurd (omega arith)
on_nothing Event.Call x r c e k = let z : ◌≡◌ {A = ℕ} 0 1 = cc in absurd (omega arith)

pub on_call : (v : Event) (x : Course) (r : State) (c : Call) → v ≡ Event.Call → logged c.op ≡ true → on_line v x r c ≡ applied x r (call_of c) (refusal_at x.house (call_of c).tank (call_of c).edit)
unfolding on_line
on_call Event.Nothing x r c e k = let z : ◌≡◌ {A = ℕ} 0 1 = cc in absurd (omega arith)
on_call Event.Bad x r c e k = let z : ◌≡◌ {A = ℕ} 0 1 = cc in absurd (omega arith)
on_call Event.Call x r c e k = rw k

-- after a whole group the next line names an op
ready_idle : (n : ℕ) (p : Progress) (c : Call) → event_of p ≡ Event.Call → logged (turned_of n p c).call.op ≡ true
ready_idle n Progress.Bad c h = let z : ◌≡◌ {A = ℕ} 0 1 = cc in absurd (omega arith)
ready_idle n Progress.More c h = let z : ◌≡◌ {A = ℕ} 0 1 = cc in absurd (omega arith)
ready_idle n Progress.Ready c h = refl

pub call_idle : (s : State) (rest : List ℕ) → brings_of s rest ≡ Event.Call → logged (after_of s rest).call.op ≡ true
unfolding brings_of after_of
call_idle s rest h = by (has_end rest) h where
  by : (b : Bool)
      → event_of (cond b (Rattle.script.specs.Reading.line_of s.call (grown_of s.held rest)) (record { call = s.call; progress = Progress.More })).progress ≡ Event.Call
      → logged (cond {A = State} b
      (turned_of s.newlines (cond b (Rattle.script.specs.Reading.line_of s.call (grown_of s.held rest)) (record { call = s.call; progress = Progress.More })).progress (cond b (Rattle.script.specs.Reading.line_of s.call (grown_of s.held rest)) (record { call = s.call; progress = Progress.More })).call)
      (record { held = grown_of s.held rest; call = s.call; newlines = s.newlines })).call.op ≡ true
  by true g = ready_idle s.newlines (Rattle.script.specs.Reading.line_of s.call (grown_of s.held rest)).progress (Rattle.script.specs.Reading.line_of s.call (grown_of s.held rest)).call g
  by false g = let z : ◌≡◌ {A = ℕ} 0 1 = cc in absurd (omega arith)

-- before a group's last newline the reader keeps the call that the line leaves
more_call : (n : ℕ) (p : Progress) (c : Call) → event_of p ≡ Event.Nothing → (turned_of n p c).call ≡ c
more_call n Progress.Bad c h = let z : ◌≡◌ {A = ℕ} 0 1 = cc in absurd (omega arith)
more_call n Progress.More c h = refl
more_call n Progress.Ready c h = let z : ◌≡◌ {A = ℕ} 0 1 = cc in absurd (omega arith)

pub call_kept : (s : State) (rest : List ℕ) → brings_of s rest ≡ Event.Nothing → (after_of s rest).call ≡ (read_of s rest).call
unfolding brings_of after_of
call_kept s rest h = by (has_end rest) h where
  read : Bool → Read
  read b = cond b (Rattle.script.specs.Reading.line_of s.call (grown_of s.held rest)) (record { call = s.call; progress = Progress.More })

  by : (b : Bool) → event_of (read b).progress ≡ Event.Nothing → (cond {A = State} b (turned_of s.newlines (read b).progress (read b).call) (record { held = grown_of s.held rest; call = s.call; newlines = s.newlines })).call ≡ (read b).call
  by true g = more_call s.newlines (read true).progress (read true).call g
  by false g = refl

drop_least : (n : ℕ) (l : List ℕ) → drop (min (length l) n) l ≡ drop n l
drop_least n l =
    elim (dec_lt n (length l)) [
      | yes h ↦ let e : min (length l) n ≡ n = omega arith in ap (λ (k : ℕ). drop k l) e
      | no h ↦ drop_of_length-le l {i = min (length l) n} (omega arith) ∙ sym (drop_of_length-le l {i = n} (omega arith))
    ]

-- ---- one line
module _ (s : Tanks) (edits : ℕ) {r : Reader} {from : ℕ} {input : List ℕ} {f : Fed} (more : from < length input) (fed : Feeds r input from f) (ready : logged r.call.op ≡ true) where
  behind : behind_line (drop from input) ≡ drop f.at input
  behind =
      drop-drop (length (line_front (drop from input)) + 1) from input
      ∙ (let e : from + (length (line_front (drop from input)) + 1) ≡ from + length (line_front (drop from input)) + 1 = omega arith in ap (λ (k : ℕ). drop k input) e)
      ∙ sym (drop_least (from + length (line_front (drop from input)) + 1) input)
      ∙ sym (ap (λ (k : ℕ). drop k input) fed.at)

  pub line_is : after_line (standing s r edits) (drop from input) ≡ on_line f.event (standing s r edits) (state_of f.reader) f.call
  line_is =
      ap (λ (v : Event). on_line v (standing s r edits) (after_of (state_of r) (drop from input)) (read_of (state_of r) (drop from input)).call) (sym fed.event)
      ∙ ap₂ (λ (t : State) (c : Call). on_line f.event (standing s r edits) t c) (sym (fed_state fed)) (sym fed.call)

  pub turned : after_bytes (standing s r edits) (drop from input) ≡ after_bytes (on_line f.event (standing s r edits) (state_of f.reader) f.call) (drop f.at input)
  turned =
      subst (λ (l : List ℕ). after_bytes (standing s r edits) l ≡ after_bytes (after_line (standing s r edits) l) (behind_line l)) (sym (drop-cons input from 0 more)) (line_bytes (standing s r edits) (get_or input from 0) (drop (suc from) input) (record { on = refl; op = ready }))
      ∙ ap₂ after_bytes line_is behind

  -- the line goes on, or is good and not its group's last
  pub turn_on : step_of f.event (logged f.call.op) ≡ Some false → after_bytes (standing s f.reader edits) (drop f.at input) ≡ after_bytes (standing s r edits) (drop from input)
  turn_on h =
      let e = step_on f.event (logged f.call.op) h in
      sym (turned ∙ ap (λ (y : Course). after_bytes y (drop f.at input)) (on_nothing f.event (standing s r edits) (state_of f.reader) f.call e.0 e.1))

  -- it is wrong
  pub turn_wrong : (line : ℕ) → step_of f.event (logged f.call.op) ≡ None → line ≡ wrong_line f.event f.reader.newlines → stopped (standing s r edits) line 13 ≡ after_bytes (standing s r edits) (drop from input)
  turn_wrong line h e =
      sym (
      turned
      ∙ ap (λ (y : Course). after_bytes y (drop f.at input)) (step_wrong f.event (standing s r edits) (state_of f.reader) f.call h)
      ∙ stopped_stays (stopped (standing s r edits) (wrong_line f.event f.reader.newlines) 13) (drop f.at input) refl
      ∙ ap (λ (k : ℕ). stopped (standing s r edits) k 13) (sym e))

  -- it ends a group
  group : f.event ≡ Event.Call → logged f.call.op ≡ true → after_bytes (standing s r edits) (drop from input) ≡ after_bytes (applied (standing s r edits) (state_of f.reader) (call_of f.call) (refusal_at (pool.meaning s) (call_of f.call).tank (call_of f.call).edit)) (drop f.at input)
  group e k = turned ∙ ap (λ (y : Course). after_bytes y (drop f.at input)) (on_call f.event (standing s r edits) (state_of f.reader) f.call e k)

  module _ {next : Tanks} {number : ℕ} (e : (f.event ≡ Event.Call) × (logged f.call.op ≡ true)) (called : CalledAt s (call_of f.call).tank (call_of f.call).edit number next) where
    pub turn_edit : number ≡ 0 → after_bytes (standing next f.reader (counted_of edits)) (drop f.at input) ≡ after_bytes (standing s r edits) (drop from input)
    turn_edit z =
        sym (
        group e.0 e.1
        ∙ ap (λ (y : Course). after_bytes y (drop f.at input))
        (rw (eq-eqb (refusal_at (pool.meaning s) (call_of f.call).tank (call_of f.call).edit) 0 (sym called.number_is ∙ z))
        (ap (λ (h : House). record { house = h; reader = state_of f.reader; edits = counted_of edits; stop = Stop.Going }) (sym called.is))))

    pub turn_refused : 0 < number → record { house = pool.meaning next; reader = at_start; edits = edits; stop = Stop.Refused f.reader.newlines number } ≡ after_bytes (standing s r edits) (drop from input)
    turn_refused z =
        let n : ℕ = refusal_at (pool.meaning s) (call_of f.call).tank (call_of f.call).edit in
        let same : pool.meaning next ≡ pool.meaning s = called.is ∙ after_refused (pool.meaning s) (call_of f.call).tank (call_of f.call).edit (omega (arith, called.number_is)) in
        sym (
        group e.0 e.1
        ∙ ap (λ (y : Course). after_bytes y (drop f.at input)) (rw (ne_eqb n 0 (λ q. omega (arith, called.number_is))))
        ∙ stopped_stays (stopped (standing s r edits) f.reader.newlines n) (drop f.at input) refl
        ∙ ap₂ (λ (h : House) (k : ℕ). record { house = h; reader = at_start; edits = edits; stop = Stop.Refused f.reader.newlines k }) (sym same) (sym called.number_is))

  pub ready_on : step_of f.event (logged f.call.op) ≡ Some false → logged f.reader.call.op ≡ true
  ready_on h =
      let e = step_on f.event (logged f.call.op) h in
      ap (λ (t : State). logged t.call.op) (fed_state fed)
      ∙ ap (λ (c : Call). logged c.op) (call_kept (state_of r) (drop from input) (sym fed.event ∙ e.0) ∙ sym fed.call)
      ∙ e.1

  pub ready_call : f.event ≡ Event.Call → logged f.reader.call.op ≡ true
  ready_call e = ap (λ (t : State). logged t.call.op) (fed_state fed) ∙ call_idle (state_of r) (drop from input) (sym fed.event ∙ e)

-- ---- the loop
pub record Underway (bytes : List ℕ) (s₀ : Tanks) (r₀ : Reader) (edits₀ : ℕ) (s : Tanks) (r : Reader) (edits from : ℕ) : Type 0 where
  pub inside : from ≤ length bytes
  pub sound : pool.Sound s
  pub op : logged r.call.op ≡ true
  pub tidy : Tidy r.line
  pub left : after_bytes (standing s r edits) (drop from bytes) ≡ after_bytes (standing s₀ r₀ edits₀) bytes

pub underway_none : (bytes : List ℕ) (s : Tanks) (r : Reader) (edits : ℕ) → pool.Sound s → logged r.call.op ≡ true → Tidy r.line → Underway bytes s r edits s r edits 0
underway_none bytes s r edits h k y = record { inside = omega arith; sound = h; op = k; tidy = y; left = refl }

-- ---- the ways out
course_going : (s : Tanks) (l : Log) → l.stop ≡ Stop.Going → course_of s l ≡ standing s l.reader l.edits
course_going s l e = ap (λ (q : Stop). record { house = pool.meaning s; reader = state_of l.reader; edits = l.edits; stop = q }) e

module _ (s : Tanks) (l : Log) (bytes : List ℕ) (r : Taken) where
  takes : pool.Sound r.tanks → Sound r.log → course_of r.tanks r.log ≡ after_bytes (course_of s l) bytes → Takes s l bytes r
  takes h k e = record { tanks_sound = h; log_sound = k; house = ap (λ (x : Course). x.house) e; log = log_of (pool.meaning r.tanks) r.log k ∙ ap log_at e }

  -- it had stopped
  pub takes_was : pool.Sound s → Sound l → going l.stop ≡ false → (r.tanks ≡ s) × (r.log ≡ l) → Takes s l bytes r
  takes_was h k g e = takes (rw e.0 h) (subst Sound (sym e.1) k) (ap₂ course_of e.0 e.1 ∙ sym (stopped_stays (course_of s l) bytes g))

  module _ (on : l.stop ≡ Stop.Going) where
    start : after_bytes (course_of s l) bytes ≡ after_bytes (standing s l.reader l.edits) bytes
    start = ap (λ (x : Course). after_bytes x bytes) (course_going s l on)

    -- it stops
    pub takes_stopped : (tanks : Tanks) (edits line number : ℕ) → pool.Sound tanks → (r.tanks ≡ tanks) × (r.log ≡ stopped_log edits line number)
        → record { house = pool.meaning tanks; reader = at_start; edits = edits; stop = Stop.Refused line number } ≡ after_bytes (standing s l.reader l.edits) bytes → Takes s l bytes r
    takes_stopped tanks edits line number h e g = takes (rw e.0 h) (sound_stopped edits line number e.1) (ap₂ course_of e.0 e.1 ∙ g ∙ sym start)

    -- all bytes are taken
    pub takes_on : (tanks : Tanks) (reader : Reader) (edits from : ℕ) → Underway bytes s l.reader l.edits tanks reader edits from → length bytes ≤ from
        → (r.tanks ≡ tanks) × (r.log ≡ record { reader = reader; edits = edits; stop = Stop.Going }) → Takes s l bytes r
    unfolding after_bytes
    takes_on tanks reader edits from u d e =
        takes
        (rw e.0 u.sound)
        (subst Sound (sym e.1) (record { op = u.op; tidy = u.tidy }))
        (ap₂ course_of e.0 e.1
        ∙ sym (ap (after_bytes (standing tanks reader edits)) (drop_of_length-le bytes d))
        ∙ u.left
        ∙ sym start)
