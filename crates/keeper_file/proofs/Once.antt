-- Exactly once: a log that is taken in two runs, the second from the place on at which the first left it, ends with the tanks and the place of
-- taking it at once, and stops where that does.
use mathlib.Core.Path.{◌≡◌, refl, sym, ap, subst, ◌∙◌}
use mathlib.Core.Bool.{Bool, true, false, cond}
use mathlib.Core.List.{List, [], ◌∷◌, ◌++◌}
use Prim.Native.Nat.{ℕ, ◌+◌, ◌-◌, ◌^◌, ◌≤◌, ◌<◌}
use native.Mathlib.Decide.{dec_lt}
use native.Mathlib.Omega.{arith}
use lib.Dec.{eqb}
use lib.ListN.{length, take, drop, length-append, length-drop}
use lib.Seq.{take-append-le}
use Rattle.tanks.specs.declared.Tanks.{Tanks}
use Rattle.tanks.specs.House.{House, refusal_at, after_at}
use Rattle.tanks.specs.Pool.{meaning}
use Rattle.tanks.proofs.Unique.{unique}
use Rattle.script.specs.declared.Call.{Call}
use Rattle.script.specs.declared.Event.{Event}
use Rattle.script.specs.declared.Progress.{Progress}
use Rattle.script.specs.declared.Read.{Read}
use Rattle.script.specs.Reading.{line_of}
use Rattle.script.specs.Lines.{has_end, grown_of, State, read_of, brings_of, after_of, turned_of, counted_of}
use Rattle.day_log.specs.declared.Stop.{Stop}
use Rattle.day_log.specs.declared.Took.{Took}
use Rattle.day_log.specs.Log.{Course, logged, call_of, on_line, after_line, after_byte, after_bytes}
use Rattle.day_log.specs.Groups.{Between, between_at, begun, after_first, TakesGroups}
use Rattle.day_log.proofs.Grouping.{first_more, first_rest}
use Rattle.keeper_file.specs.File.{further_by}

-- ---- What the theorem speaks of
-- one stop in two counts of lines, the second from so many lines further on
abbrev pub SameStop : ℕ → Stop → Stop → Type 0
SameStop k Stop.Going Stop.Going = Unit {0}
SameStop k Stop.Going (Stop.Refused m b) = ⊥
SameStop k (Stop.Refused l a) Stop.Going = ⊥
SameStop k (Stop.Refused l a) (Stop.Refused m b) = (l ≡ further_by m k) × (a ≡ b)

-- two runs come to what one comes to
pub record Once (first second whole : Took) : Type 0 where
  pub tanks : second.tanks ≡ whole.tanks
  pub at : first.at + second.at ≡ whole.at
  pub stop : SameStop first.lines whole.stop second.stop

-- ---- Two logs that differ in what they have counted
abbrev pub Along : ℕ → ℕ → ℕ → Stop → Stop → Type 0
Along k n m Stop.Going Stop.Going = n ≡ further_by m k
Along k n m Stop.Going (Stop.Refused o b) = ⊥
Along k n m (Stop.Refused l a) Stop.Going = ⊥
Along k n m (Stop.Refused l a) (Stop.Refused o b) = (l ≡ further_by o k) × (a ≡ b)

pub record Like (k : ℕ) (x y : Course) : Type 0 where
  pub house : x.house ≡ y.house
  pub held : x.reader.held ≡ y.reader.held
  pub call : x.reader.call ≡ y.reader.call
  pub along : Along k x.reader.newlines y.reader.newlines x.stop y.stop

module _ (k : ℕ) where
  counted_further : (n m : ℕ) → n ≡ further_by m k → counted_of n ≡ further_by (counted_of m) k
  counted_further n m e = omega (arith, e)

  -- what a line makes of two readers
  record LikeState (r q : State) : Type 0 where
    held : r.held ≡ q.held
    call : r.call ≡ q.call
    newlines : r.newlines ≡ further_by q.newlines k

  turned_like : (n m : ℕ) (p : Progress) (c : Call) → n ≡ further_by m k → LikeState (turned_of n p c) (turned_of m p c)
  turned_like n m Progress.Bad c e = record { held = refl; call = refl; newlines = e }
  turned_like n m Progress.More c e = record { held = refl; call = refl; newlines = counted_further n m e }
  turned_like n m Progress.Ready c e = record { held = refl; call = refl; newlines = counted_further n m e }

  after_like : (held : List ℕ) (call : Call) (n m : ℕ) (rest : List ℕ) → n ≡ further_by m k → LikeState (after_of (record { held = held; call = call; newlines = n }) rest) (after_of (record { held = held; call = call; newlines = m }) rest)
  unfolding after_of
  after_like held call n m rest e = by (has_end rest) where
    read : Bool → Read
    read b = cond {A = Read} b (line_of call (grown_of held rest)) (record { call = call; progress = Progress.More })

    next : Bool → ℕ → State
    next b j = cond {A = State} b (turned_of j (read b).progress (read b).call) (record { held = grown_of held rest; call = call; newlines = j })

    by : (b : Bool) → LikeState (next b n) (next b m)
    by true = turned_like n m (read true).progress (read true).call e
    by false = record { held = refl; call = refl; newlines = e }

  module _ (h : House) (p q : State) (a b : ℕ) (s t : Stop) (r u : State) (c : Call) (l : LikeState r u) where
    left : Course
    left = record { house = h; reader = p; edits = a; stop = s }

    right : Course
    right = record { house = h; reader = q; edits = b; stop = t }

    on_like : (e : Event) → Like k (on_line e left r c) (on_line e right u c)
    unfolding on_line left right
    on_like Event.Nothing = by (logged c.op) where
      one : Bool → State → Course → Course
      one b w x = cond {A = Course} b (record { house = h; reader = w; edits = x.edits; stop = Stop.Going }) (record { house = h; reader = Rattle.day_log.specs.Log.at_start; edits = x.edits; stop = Stop.Refused w.newlines 13 })

      by : (b : Bool) → Like k (one b r left) (one b u right)
      by true = record { house = refl; held = l.held; call = l.call; along = l.newlines }
      by false = record { house = refl; held = refl; call = refl; along = (l.newlines, refl) }
    on_like Event.Bad = record { house = refl; held = refl; call = refl; along = (counted_further r.newlines u.newlines l.newlines, refl) }
    on_like Event.Call = by (logged c.op) (eqb number 0) where
      number : ℕ
      number = refusal_at h (call_of c).tank (call_of c).edit

      halt : ℕ → State → Course → Course
      halt n w x = record { house = h; reader = Rattle.day_log.specs.Log.at_start; edits = x.edits; stop = Stop.Refused w.newlines n }

      one : Bool → Bool → State → Course → Course
      one known good w x = cond {A = Course} known (cond {A = Course} good (record { house = after_at h (call_of c).tank (call_of c).edit; reader = w; edits = counted_of x.edits; stop = Stop.Going }) (halt number w x)) (halt 13 w x)

      by : (known good : Bool) → Like k (one known good r left) (one known good u right)
      by true true = record { house = refl; held = l.held; call = l.call; along = l.newlines }
      by true false = record { house = refl; held = refl; call = refl; along = (l.newlines, refl) }
      by false good = record { house = refl; held = refl; call = refl; along = (l.newlines, refl) }

  -- one byte more
  same_byte : (h : House) (held : List ℕ) (call : Call) (n m a b : ℕ) (s t : Stop) (byte : ℕ) → Along k n m s t
      → Like k (after_byte (record { house = h; reader = record { held = held; call = call; newlines = n }; edits = a; stop = s }) byte) (after_byte (record { house = h; reader = record { held = held; call = call; newlines = m }; edits = b; stop = t }) byte)
  unfolding after_byte brings_of left right
  same_byte h held call n m a b Stop.Going Stop.Going byte e =
      on_like h (record { held = held; call = call; newlines = n }) (record { held = held; call = call; newlines = m }) a b Stop.Going Stop.Going
      (after_of (record { held = held; call = call; newlines = n }) (byte ∷ [])) (after_of (record { held = held; call = call; newlines = m }) (byte ∷ [])) (read_of (record { held = held; call = call; newlines = n }) (byte ∷ [])).call
      (after_like held call n m (byte ∷ []) e) (brings_of (record { held = held; call = call; newlines = n }) (byte ∷ []))
  same_byte h held call n m a b Stop.Going (Stop.Refused o d) byte e = absurd e
  same_byte h held call n m a b (Stop.Refused l d) Stop.Going byte e = absurd e
  same_byte h held call n m a b (Stop.Refused l d) (Stop.Refused o f) byte e = record { house = refl; held = refl; call = refl; along = e }

  like_byte : (x y : Course) (byte : ℕ) → Like k x y → Like k (after_byte x byte) (after_byte y byte)
  like_byte x y byte l =
      let z : Course = record { house = x.house; reader = record { held = x.reader.held; call = x.reader.call; newlines = y.reader.newlines }; edits = y.edits; stop = y.stop } in
      let e : z ≡ y = λ i. record { house = l.house i; reader = record { held = l.held i; call = l.call i; newlines = y.reader.newlines }; edits = y.edits; stop = y.stop } in
      subst (λ (w : Course). Like k (after_byte x byte) (after_byte w byte)) e (same_byte x.house x.reader.held x.reader.call x.reader.newlines y.reader.newlines x.edits y.edits x.stop y.stop byte l.along)

  pub like_bytes : (x y : Course) (bytes : List ℕ) → Like k x y → Like k (after_bytes x bytes) (after_bytes y bytes)
  unfolding after_bytes
  like_bytes x y [] l = l
  like_bytes x y (c ∷ cs) l = like_bytes (after_byte x c) (after_byte y c) cs (like_byte x y c l)

  -- both stand between two groups, or neither does
  on_left : (n m : ℕ) (s t : Stop) → Along k n m s t → t ≡ Stop.Going → s ≡ Stop.Going
  on_left n m Stop.Going t e g = refl
  on_left n m (Stop.Refused l a) Stop.Going e g = absurd e
  on_left n m (Stop.Refused l a) (Stop.Refused o b) e g = let z : ◌≡◌ {A = ℕ} 0 1 = cc g in absurd (omega arith)

  on_right : (n m : ℕ) (s t : Stop) → Along k n m s t → s ≡ Stop.Going → t ≡ Stop.Going
  on_right n m Stop.Going Stop.Going e g = refl
  on_right n m Stop.Going (Stop.Refused o b) e g = absurd e
  on_right n m (Stop.Refused l a) t e g = let z : ◌≡◌ {A = ℕ} 0 1 = cc g in absurd (omega arith)

  pub between_left : (x y : Course) → Like k x y → Between y → Between x
  between_left x y l b =
      let e : x.reader.held ≡ [] = l.held ∙ ap (λ (q : State). q.held) b.reader in
      let f : x.reader.call ≡ (between_at 0).call = l.call ∙ ap (λ (q : State). q.call) b.reader in
      record { on = on_left x.reader.newlines y.reader.newlines x.stop y.stop l.along b.on; reader = λ i. record { held = e i; call = f i; newlines = x.reader.newlines } }

  pub between_right : (x y : Course) → Like k x y → Between x → Between y
  between_right x y l b =
      let e : y.reader.held ≡ [] = sym l.held ∙ ap (λ (q : State). q.held) b.reader in
      let f : y.reader.call ≡ (between_at 0).call = sym l.call ∙ ap (λ (q : State). q.call) b.reader in
      record { on = on_right x.reader.newlines y.reader.newlines x.stop y.stop l.along b.on; reader = λ i. record { held = e i; call = f i; newlines = y.reader.newlines } }

  same_stop : (n m : ℕ) (s t : Stop) → Along k n m s t → SameStop k s t
  same_stop n m Stop.Going Stop.Going e = tt
  same_stop n m Stop.Going (Stop.Refused o b) e = e
  same_stop n m (Stop.Refused l a) Stop.Going e = e
  same_stop n m (Stop.Refused l a) (Stop.Refused o b) e = e

-- a log that stands between two groups is like one that begins there
pub begins : (x : Course) (h : House) → x.house ≡ h → x.reader.newlines < 2 ^ 64 → Between x → Like x.reader.newlines x (begun h)
begins x h e w b =
    record {
      house = e;
      held = ap (λ (q : State). q.held) b.reader;
      call = ap (λ (q : State). q.call) b.reader;
      along = subst (λ (s : Stop). Along x.reader.newlines x.reader.newlines 0 s Stop.Going) (sym b.on) (omega (arith, w));
    }

-- ---- Two runs
module _ (s : Tanks) (a b : List ℕ) (first second whole : Took) (small : first.lines < 2 ^ 64) (f : TakesGroups s a first) (g : TakesGroups first.tanks (drop first.at (a ++ b)) second) (w : TakesGroups s (a ++ b) whole) where
  h : House
  h = meaning s

  rest : List ℕ
  rest = drop first.at (a ++ b)

  -- where the first run left the log
  stood : Course
  stood = after_first (meaning s) first.at (a ++ b)

  same_place : after_first (meaning s) first.at a ≡ after_first (meaning s) first.at (a ++ b)
  same_place = ap (after_bytes (begun (meaning s))) (sym (take-append-le first.at a b f.inside))

  like_begun : Like first.lines stood (begun (meaning first.tanks))
  unfolding stood
  like_begun =
      let lines : first.lines ≡ (after_first (meaning s) first.at (a ++ b)).reader.newlines = f.lines ∙ ap (λ (x : Course). x.reader.newlines) same_place in
      subst (λ (k : ℕ). Like k (after_first (meaning s) first.at (a ++ b)) (begun (meaning first.tanks))) (sym lines)
      (begins (after_first (meaning s) first.at (a ++ b)) (meaning first.tanks) (sym (f.house ∙ ap (λ (x : Course). x.house) same_place)) (omega (arith, small, lines)) (subst Between same_place f.between))

  -- so many bytes behind it
  like_at : (m : ℕ) → Like first.lines (after_first (meaning s) (first.at + m) (a ++ b)) (after_first (meaning first.tanks) m (drop first.at (a ++ b)))
  unfolding stood
  like_at m =
      subst (λ (x : Course). Like first.lines x (after_first (meaning first.tanks) m (drop first.at (a ++ b)))) (sym (first_more (meaning s) (a ++ b) first.at m))
      (like_bytes first.lines (after_first (meaning s) first.at (a ++ b)) (begun (meaning first.tanks)) (take m (drop first.at (a ++ b))) like_begun)

  rest_length : length (drop first.at (a ++ b)) ≡ length (a ++ b) - first.at
  rest_length = length-drop first.at (a ++ b)

  short : first.at ≤ length (a ++ b)
  short = omega (arith, f.inside, length-append a b)

  not_less : whole.at < first.at + second.at → ⊥
  not_less l = w.last (first.at + second.at) l (omega (arith, g.inside, rest_length, short)) (between_left first.lines (after_first (meaning s) (first.at + second.at) (a ++ b)) (after_first (meaning first.tanks) second.at (drop first.at (a ++ b))) (like_at second.at) g.between)

  not_more : first.at + second.at < whole.at → ⊥
  not_more l =
      let m : ℕ = whole.at - first.at in
      let e : whole.at ≡ first.at + (whole.at - first.at) = omega (arith, l) in
      g.last (whole.at - first.at) (omega (arith, l)) (omega (arith, w.inside, rest_length, l))
      (between_right first.lines (after_first (meaning s) (first.at + (whole.at - first.at)) (a ++ b)) (after_first (meaning first.tanks) (whole.at - first.at) (drop first.at (a ++ b))) (like_at (whole.at - first.at)) (subst (λ (k : ℕ). Between (after_first (meaning s) k (a ++ b))) e w.between))

  at_is : first.at + second.at ≡ whole.at
  at_is =
      elim (dec_lt (first.at + second.at) whole.at) [
        | yes l ↦ absurd (not_more l)
        | no l ↦
            elim (dec_lt whole.at (first.at + second.at)) [
              | yes o ↦ absurd (not_less o)
              | no o ↦ omega (arith, l, o)
            ]
      ]

  like_end : Like first.lines (after_bytes (begun (meaning s)) (a ++ b)) (after_bytes (begun (meaning first.tanks)) (drop first.at (a ++ b)))
  unfolding stood
  like_end =
      subst (λ (x : Course). Like first.lines x (after_bytes (begun (meaning first.tanks)) (drop first.at (a ++ b)))) (sym (first_rest (meaning s) (a ++ b) first.at))
      (like_bytes first.lines (after_first (meaning s) first.at (a ++ b)) (begun (meaning first.tanks)) (drop first.at (a ++ b)) like_begun)

  pub once : Once first second whole
  once =
      let x = after_bytes (begun (meaning s)) (a ++ b) in
      let y = after_bytes (begun (meaning first.tanks)) (drop first.at (a ++ b)) in
      record {
        tanks = unique second.tanks whole.tanks g.sound w.sound (g.house ∙ sym (like_at second.at).house ∙ ap (λ (k : ℕ). (after_first (meaning s) k (a ++ b)).house) at_is ∙ sym w.house);
        at = at_is;
        stop = subst (λ (q : Stop). SameStop first.lines q second.stop) (sym w.stop) (subst (λ (q : Stop). SameStop first.lines x.stop q) (sym g.stop) (same_stop first.lines x.reader.newlines y.reader.newlines x.stop y.stop like_end.along));
      }
