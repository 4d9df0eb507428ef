-- A turn of the loop over the groups at the front of some bytes: one line. Behind a group's last line the log stands between two groups; at no
-- other place of a line does it.
use Rattle.std.specs.Prelude.{Some, None}
use mathlib.Core.Path.{◌≡◌, refl, sym, ap, subst, ◌∙◌}
use mathlib.Core.Bool.{true, false}
use mathlib.Core.List.{List, ◌∷◌}
use Prim.Native.Nat.{ℕ, suc, ◌+◌, ◌-◌, ◌<◌, ◌≤◌, min}
use native.Mathlib.Decide.{dec_lt}
use native.Mathlib.Omega.{arith}
use lib.ListN.{length, take, drop, get_or, length-drop, take-append-drop}
use lib.Seq.{take_all, take-add, drop-cons}
use borrow.Author.Tests.{eq-eqb, ne_eqb, lt-ltb}
use Rattle.text.proofs.Finding.{held_by_length}
use Rattle.tanks.specs.declared.Tanks.{Tanks}
use Rattle.tanks.specs.House.{House, refusal_at}
use Rattle.tanks.specs.Pool as pool
use Rattle.tanks.specs.Promises.{CalledAt}
use Rattle.tanks.proofs.CallLaws.{after_refused}
use Rattle.script.specs.declared.Event.{Event}
use Rattle.script.specs.declared.Fed.{Fed}
use Rattle.script.specs.declared.Reader.{Reader}
use Rattle.script.specs.Lines.{line_front, has_end, State, state_of, counted_of, Feeds}
use Rattle.script.proofs.Unique.{fed_state}
use Rattle.day_log.specs.declared.Stop.{Stop}
use Rattle.day_log.specs.declared.Took.{Took}
use Rattle.day_log.specs.Log.{logged, call_of, Course, at_start, stopped, on_line, after_line, after_bytes, step_of, wrong_line}
use Rattle.day_log.specs.Groups.{between_at, Between, begun, after_first, TakesGroups}
use Rattle.day_log.proofs.Begun.{first_line, line_taken, inside_line, more_begun, begun_not, call_between}
use Rattle.day_log.proofs.Bytes.{Ready, cut_anywhere, stopped_stays}
use Rattle.day_log.proofs.Turns.{standing, step_on, step_wrong, on_nothing, on_call, line_is}

-- ---- more of the bytes
pub first_more : (h : House) (bytes : List ℕ) (n m : ℕ) → after_first h (n + m) bytes ≡ after_bytes (after_first h n bytes) (take m (drop n bytes))
first_more h bytes n m = ap (after_bytes (begun h)) (take-add n m bytes) ∙ cut_anywhere (begun h) (take n bytes) (take m (drop n bytes))

pub first_all : (h : House) (bytes : List ℕ) (n : ℕ) → length bytes ≤ n → after_first h n bytes ≡ after_bytes (begun h) bytes
first_all h bytes n e = ap (after_bytes (begun h)) (take_all n bytes e)

pub first_rest : (h : House) (bytes : List ℕ) (n : ℕ) → after_bytes (begun h) bytes ≡ after_bytes (after_first h n bytes) (drop n bytes)
first_rest h bytes n = ap (after_bytes (begun h)) (sym (take-append-drop n bytes)) ∙ cut_anywhere (begun h) (take n bytes) (drop n bytes)

take_least : (n : ℕ) (l : List ℕ) → take (min (length l) n) l ≡ take n l
take_least n l =
    elim (dec_lt n (length l)) [
      | yes h ↦ let e : min (length l) n ≡ n = omega arith in ap (λ (k : ℕ). take k l) e
      | no h ↦ take_all (min (length l) n) l (omega arith) ∙ sym (take_all n l (omega arith))
    ]

-- ---- the loop
pub record Grouping (bytes : List ℕ) (h : House) (s : Tanks) (r : Reader) (edits lines at from : ℕ) : Type 0 where
  pub inside : from ≤ length bytes
  pub behind : at ≤ from
  pub sound : pool.Sound s
  pub op : logged r.call.op ≡ true
  pub here : after_first h from bytes ≡ standing s r edits
  pub there : after_first h at bytes ≡ record { house = pool.meaning s; reader = between_at lines; edits = edits; stop = Stop.Going }
  pub none : (n : ℕ) → at < n → n ≤ from → Between (after_first h n bytes) → ⊥

pub grouping_none : (bytes : List ℕ) (s : Tanks) (r : Reader) → pool.Sound s → logged r.call.op ≡ true → state_of r ≡ at_start → Grouping bytes (pool.meaning s) s r 0 0 0 0
unfolding after_bytes
grouping_none bytes s r h k e =
    record {
      inside = omega arith;
      behind = omega arith;
      sound = h;
      op = k;
      here = ap (λ (q : State). record { house = pool.meaning s; reader = q; edits = 0; stop = Stop.Going }) (sym e);
      there = refl;
      none = λ n a b. absurd (omega arith);
    }

module _ {bytes : List ℕ} {h : House} {s : Tanks} {r : Reader} {edits lines at from : ℕ} {f : Fed} (g : Grouping bytes h s r edits lines at from) (more : from < length bytes) (fed : Feeds r bytes from f) where
  abbrev front : ℕ
  front = length (line_front (drop from bytes))

  ready : Ready (standing s r edits)
  ready = record { on = refl; op = g.op }

  split : drop from bytes ≡ get_or bytes from 0 ∷ drop (suc from) bytes
  split = drop-cons bytes from 0 more

  further : (m : ℕ) → after_first h (from + m) bytes ≡ after_bytes (standing s r edits) (take m (drop from bytes))
  further m = first_more h bytes from m ∙ ap (λ (x : Course). after_bytes x (take m (drop from bytes))) g.here

  -- the whole line
  pub after_line_lem : after_first h f.at bytes ≡ on_line f.event (standing s r edits) (state_of f.reader) f.call
  after_line_lem =
      (let e : from + front + 1 ≡ from + (front + 1) = omega arith in
      ap (λ (k : ℕ). after_first h k bytes) fed.at ∙ ap (after_bytes (begun h)) (take_least (from + front + 1) bytes) ∙ ap (λ (k : ℕ). after_first h k bytes) e)
      ∙ further (front + 1)
      ∙ subst (λ (l : List ℕ). after_bytes (standing s r edits) (first_line l) ≡ after_line (standing s r edits) l) (sym split) (line_taken (standing s r edits) (get_or bytes from 0) (drop (suc from) bytes) ready)
      ∙ line_is s edits more fed g.op

  -- a place inside it
  pub not_inside : (n : ℕ) → from < n → n ≤ from + front → Between (after_first h n bytes) → ⊥
  not_inside n a b k =
      let e : n ≡ from + suc (n - from - 1) = omega arith in
      let x : Between (after_bytes (standing s r edits) (take (suc (n - from - 1)) (drop from bytes))) = subst Between (ap (λ (j : ℕ). after_first h j bytes) e ∙ further (suc (n - from - 1))) k in
      inside_line (standing s r edits) (get_or bytes from 0) (drop (suc from) bytes) (n - from - 1) ready
      (subst (λ (l : List ℕ). suc (n - from - 1) ≤ length (line_front l)) split (omega arith))
      (subst (λ (l : List ℕ). Between (after_bytes (standing s r edits) (take (suc (n - from - 1)) l))) split x)

  at_most : f.at ≤ from + front + 1
  at_most = omega (arith, fed.at)

  at_inside : f.at ≤ length bytes
  at_inside = omega (arith, fed.at)

  at_more : from < f.at
  at_more = omega (arith, fed.at)

  -- before the line's end
  pub not_before : (n : ℕ) → at < n → n < f.at → Between (after_first h n bytes) → ⊥
  not_before n a b k =
      elim (dec_lt from n) [
        | yes e ↦ not_inside n e (omega (arith, at_most)) k
        | no e ↦ g.none n a (omega arith) k
      ]

  -- a good line that is not its group's last
  module _ (good : step_of f.event (logged f.call.op) ≡ Some false) where
    pub line_on : after_first h f.at bytes ≡ standing s f.reader edits
    line_on =
        let e = step_on f.event (logged f.call.op) good in
        after_line_lem ∙ on_nothing f.event (standing s r edits) (state_of f.reader) f.call e.0 e.1

    -- with its newline
    newline_not : from + front < f.at → Between (after_first h f.at bytes) → ⊥
    newline_not b k =
        let e = step_on f.event (logged f.call.op) good in
        let ended : has_end (drop from bytes) ≡ true = held_by_length 10 (drop from bytes) ∙ lt-ltb front (length (drop from bytes)) (omega (arith, at_inside, length-drop from bytes)) in
        begun_not (standing s f.reader edits) (subst (λ (q : State). 0 < q.call.row + q.call.place) (sym (fed_state fed)) (more_begun (state_of r) (drop from bytes) ended (sym fed.event ∙ e.0))) (subst Between line_on k)

    not_at : Between (after_first h f.at bytes) → ⊥
    not_at k =
        elim (dec_lt (from + front) f.at) [
          | yes e ↦ newline_not e k
          | no e ↦ not_inside f.at at_more (omega arith) k
        ]

    not_to : (n : ℕ) → at < n → n ≤ f.at → Between (after_first h n bytes) → ⊥
    not_to n a b k =
        elim (dec_lt n f.at) [
          | yes e ↦ not_before n a e k
          | no e ↦ let z : n ≡ f.at = omega arith in not_at (subst (λ (j : ℕ). Between (after_first h j bytes)) z k)
        ]

    pub group_on : logged f.reader.call.op ≡ true → Grouping bytes h s f.reader edits lines at f.at
    group_on o =
        record {
          inside = at_inside;
          behind = omega (arith, g.behind, at_more);
          sound = g.sound;
          op = o;
          here = line_on;
          there = g.there;
          none = not_to;
        }

  -- the last line of a group
  module _ {next : Tanks} {number : ℕ} (e : (f.event ≡ Event.Call) × (logged f.call.op ≡ true)) (called : CalledAt s (call_of f.call).tank (call_of f.call).edit number next) where
    -- its edit is applied
    applied_at : number ≡ 0 → after_first h f.at bytes ≡ standing next f.reader (counted_of edits)
    applied_at z =
        after_line_lem
        ∙ on_call f.event (standing s r edits) (state_of f.reader) f.call e.0 e.1
        ∙ rw (eq-eqb (refusal_at (pool.meaning s) (call_of f.call).tank (call_of f.call).edit) 0 (sym called.number_is ∙ z))
        (ap (λ (x : House). record { house = x; reader = state_of f.reader; edits = counted_of edits; stop = Stop.Going }) (sym called.is))

    pub group_edit : number ≡ 0 → logged f.reader.call.op ≡ true → Grouping bytes h next f.reader (counted_of edits) f.reader.newlines f.at f.at
    group_edit z o =
        record {
          inside = at_inside;
          behind = omega arith;
          sound = called.sound;
          op = o;
          here = applied_at z;
          there =
              applied_at z
              ∙ ap (λ (q : State). record { house = pool.meaning next; reader = q; edits = counted_of edits; stop = Stop.Going })
              (fed_state fed ∙ call_between (state_of r) (drop from bytes) (sym fed.event ∙ e.0) ∙ ap (λ (q : State). between_at q.newlines) (sym (fed_state fed)));
          none = λ n a b. absurd (omega arith);
        }

    -- or refused
    pub refused_at : 0 < number → after_first h f.at bytes ≡ stopped (standing s r edits) f.reader.newlines number
    refused_at z =
        let n : ℕ = refusal_at (pool.meaning s) (call_of f.call).tank (call_of f.call).edit in
        after_line_lem
        ∙ on_call f.event (standing s r edits) (state_of f.reader) f.call e.0 e.1
        ∙ rw (ne_eqb n 0 (λ q. omega (arith, called.number_is))) (ap (stopped (standing s r edits) f.reader.newlines) (sym called.number_is))

    pub refused_same : 0 < number → pool.meaning next ≡ pool.meaning s
    refused_same z = called.is ∙ after_refused (pool.meaning s) (call_of f.call).tank (call_of f.call).edit (omega (arith, called.number_is))

  -- a wrong line
  pub wrong_at : (line : ℕ) → step_of f.event (logged f.call.op) ≡ None → line ≡ wrong_line f.event f.reader.newlines → after_first h f.at bytes ≡ stopped (standing s r edits) line 13
  wrong_at line w e =
      after_line_lem ∙ step_wrong f.event (standing s r edits) (state_of f.reader) f.call w ∙ ap (λ (k : ℕ). stopped (standing s r edits) k 13) (sym e)

-- ---- the ways out
module _ (s₀ : Tanks) {bytes : List ℕ} {s : Tanks} {r : Reader} {edits lines at from : ℕ} (g : Grouping bytes (pool.meaning s₀) s r edits lines at from) where
  between_there : Between (after_first (pool.meaning s₀) at bytes)
  between_there = subst Between (sym g.there) (record { on = refl; reader = refl })

  takes : (tanks : Tanks) (stop : Stop) → pool.Sound tanks → pool.meaning tanks ≡ pool.meaning s → ((n : ℕ) → at < n → n ≤ length bytes → Between (after_first (pool.meaning s₀) n bytes) → ⊥) → stop ≡ (after_bytes (begun (pool.meaning s₀)) bytes).stop
      → TakesGroups s₀ bytes (record { tanks = tanks; at = at; lines = lines; edits = edits; stop = stop })
  takes tanks stop sound is none e =
      record {
        sound = sound;
        inside = omega (arith, g.inside, g.behind);
        between = between_there;
        last = none;
        house = is ∙ sym (ap (λ (x : Course). x.house) g.there);
        lines = sym (ap (λ (x : Course). x.reader.newlines) g.there);
        edits = sym (ap (λ (x : Course). x.edits) g.there);
        stop = e;
      }

  -- the bytes are over
  pub takes_all : (k : Took) → length bytes ≤ from → k ≡ record { tanks = s; at = at; lines = lines; edits = edits; stop = Stop.Going } → TakesGroups s₀ bytes k
  takes_all k d e =
      subst (TakesGroups s₀ bytes) (sym e)
      (takes s Stop.Going g.sound refl (λ n a b. g.none n a (omega (arith, d, b))) (ap (λ (x : Course). x.stop) (sym g.here ∙ first_all (pool.meaning s₀) bytes from d)))

  -- the log stops at a line
  module _ {f : Fed} (more : from < length bytes) (fed : Feeds r bytes from f) (line number : ℕ) (stops : after_first (pool.meaning s₀) f.at bytes ≡ stopped (standing s r edits) line number) where
    past : (n : ℕ) → f.at ≤ n → Between (after_first (pool.meaning s₀) n bytes) → ⊥
    past n a k =
        let e : n ≡ f.at + (n - f.at) = omega arith in
        let x : after_first (pool.meaning s₀) n bytes ≡ stopped (standing s r edits) line number =
        ap (λ (j : ℕ). after_first (pool.meaning s₀) j bytes) e
        ∙ first_more (pool.meaning s₀) bytes f.at (n - f.at)
        ∙ ap (λ (y : Course). after_bytes y (take (n - f.at) (drop f.at bytes))) stops
        ∙ stopped_stays (stopped (standing s r edits) line number) (take (n - f.at) (drop f.at bytes)) refl
        in
        let b : Between (stopped (standing s r edits) line number) = subst Between x k in
        let c : Stop.Refused line number ≡ Stop.Going = b.on in
        let z : ◌≡◌ {A = ℕ} 0 1 = cc c in
        absurd (omega arith)

    stop_is : (after_bytes (begun (pool.meaning s₀)) bytes).stop ≡ Stop.Refused line number
    stop_is =
        ap (λ (x : Course). x.stop) (
        first_rest (pool.meaning s₀) bytes f.at
        ∙ ap (λ (y : Course). after_bytes y (drop f.at bytes)) stops
        ∙ stopped_stays (stopped (standing s r edits) line number) (drop f.at bytes) refl)

    none_past : (n : ℕ) → at < n → n ≤ length bytes → Between (after_first (pool.meaning s₀) n bytes) → ⊥
    none_past n a b k =
        elim (dec_lt n f.at) [
          | yes e ↦ not_before g more fed n a e k
          | no e ↦ past n (omega arith) k
        ]

    pub takes_stop : (k : Took) (tanks : Tanks) → pool.Sound tanks → pool.meaning tanks ≡ pool.meaning s → k ≡ record { tanks = tanks; at = at; lines = lines; edits = edits; stop = Stop.Refused line number } → TakesGroups s₀ bytes k
    takes_stop k tanks sound is e = subst (TakesGroups s₀ bytes) (sym e) (takes tanks (Stop.Refused line number) sound is none_past (sym stop_is))
