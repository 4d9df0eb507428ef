-- A line, or a part of a body, taken at once is its bytes taken one by one.
use mathlib.Core.Path.{◌≡◌, refl, sym, ap, ap₂, subst, ◌∙◌}
use mathlib.Core.Bool.{Bool, true, false, cond}
use mathlib.Core.List.{List, [], ◌∷◌, ◌++◌, append_assoc, append-nil, foldl, foldl-append}
use Prim.Native.Nat.{ℕ, suc, ◌<◌}
use lib.ListN.{length, take, drop, get_or}
use lib.Seq.{drop-cons}
use Rattle.tanks.specs.declared.Tanks.{Tanks}
use Rattle.tanks.specs.House.{House}
use Rattle.tanks.specs.Pool.{meaning}
use Rattle.script.specs.declared.Call.{Call}
use Rattle.script.specs.declared.Event.{Event}
use Rattle.script.specs.declared.Inlet.{Inlet}
use Rattle.script.specs.declared.Taken.{Taken}
use Rattle.script.specs.Bodies.{Stage, Brought, brings_nothing, brought_by, behind_part, stage_of, brought_of, Takes}
use Rattle.script.specs.Lines.{state_of}
use Rattle.script.proofs.Folded.{Cuttable, part_bytes, brought_cuttable, byte_on}
use Rattle.answers.specs.Waiting.{Pieces, Waiting, waiting, with_all, Short, Adds}
use Rattle.answers.proofs.Laws.{short_append}
use Rattle.clerk.specs.declared.Moved.{Moved}
use Rattle.clerk.specs.declared.Side.{Side}
use Rattle.clerk.specs.Desk.{says_of, Performs}
use Rattle.clerk.specs.Course.{Course, malformed_says, said_on, said_brought, on_brought, after_part, said_part, after_byte, said_byte, after_bytes, said_bytes}

-- bytes taken in two parts, with nothing written out in between, lead to the same
pub cut_anywhere : (x : Course) (a b : List ℕ) → after_bytes x (a ++ b) ≡ after_bytes (after_bytes x a) b
unfolding after_bytes
cut_anywhere x a b = foldl-append after_byte x a b

-- when the run is over nothing more is taken
pub over_stays : (x : Course) (more : List ℕ) → x.over ≡ true → after_bytes x more ≡ x
unfolding after_bytes after_byte
over_stays x [] e = refl
over_stays x (b ∷ more) e = ap (λ (y : Course). after_bytes y more) (rw e) ∙ over_stays x more e

-- a byte more says nothing
silent_byte : (x : Course) (byte : ℕ) → x.over ≡ true → said_byte x byte ≡ []
unfolding said_byte
silent_byte x byte e = ap (λ (b : Bool). cond b [] (said_part x (byte ∷ []))) e

-- the run stays over
over_byte : (x : Course) (byte : ℕ) → x.over ≡ true → (after_byte x byte).over ≡ true
unfolding after_bytes
over_byte x byte e = ap (λ (y : Course). y.over) (over_stays x (byte ∷ []) e) ∙ e

-- bytes say nothing
pub silent_bytes : (x : Course) (input : List ℕ) → x.over ≡ true → said_bytes x input ≡ []
unfolding said_bytes
silent_bytes x [] e = refl
silent_bytes x (byte ∷ more) e = ap₂ ◌++◌ (silent_byte x byte e) (silent_bytes (after_byte x byte) more (over_byte x byte e))

-- ---- Where bytes lead, and what they say
-- a course, and what was said on the way
abbrev both : Course → Pieces → Course × Pieces
both x said = (x, said)

-- of bytes
abbrev heard : Course → List ℕ → Course × Pieces
heard x input = both (after_bytes x input) (said_bytes x input)

-- pieces said before
abbrev said_first : Pieces → Course × Pieces → Course × Pieces
said_first said p = both p.0 (said ++ p.1)

-- when the run is over, as good as none
over_heard : (x : Course) (more : List ℕ) → x.over ≡ true → heard x more ≡ heard x []
unfolding after_bytes said_bytes
over_heard x more e = ap₂ both (over_stays x more e) (silent_bytes x more e)

-- ---- A part of some bytes, by the fold of `script`
abbrev tells_over : Course × Pieces → Bool
tells_over p = p.0.over

-- where the script stands
abbrev tells_stage : Course × Pieces → Stage
tells_stage p = p.0.stage

-- what is brought is performed, and its answer said behind what was said before
tells_on : Course × Pieces → Brought → Course × Pieces
tells_on p b = both (on_brought p.0 b) (p.1 ++ said_brought p.0 b)

-- another place in the script, and nothing else
abbrev tells_moved : Course × Pieces → Stage → Course × Pieces
tells_moved p i = both (record { house = p.0.house; side = p.0.side; stage = i; waits = p.0.waits; over = false }) p.1

-- where nothing is brought yet only the place in the script is another
quiet : (p : Course × Pieces) (i : Stage) (c : Call) → tells_on p (brings_nothing i c) ≡ tells_moved p i
unfolding tells_on on_brought said_on with_all
quiet p i c = ap (both (record { house = p.0.house; side = p.0.side; stage = i; waits = p.0.waits; over = false })) (append-nil p.1)

-- what is done with what is brought does not depend on that place
alike : (p : Course × Pieces) (i : Stage) (b : Brought) → tells_on (tells_moved p i) b ≡ tells_on p b
unfolding tells_on on_brought
alike p i b = refl

cuttable : Cuttable tells_over tells_stage brought_by tells_on behind_part
cuttable = brought_cuttable tells_over tells_stage tells_on tells_moved quiet (λ p i. refl) (λ p i. refl) alike

-- one byte
tells_by : (over : Bool) (x y : Course) (said more : Pieces) → cond over (both x said) (both y (said ++ more)) ≡ both (cond over x y) (said ++ cond over [] more)
tells_by true x y said more = ap (both x) (sym (append-nil said))
tells_by false x y said more = refl

tells_byte : (x : Course) (said : Pieces) (byte : ℕ) → byte_on tells_over tells_stage brought_by tells_on behind_part (both x said) byte ≡ both (after_byte x byte) (said ++ said_byte x byte)
unfolding tells_on after_byte said_byte
tells_byte x said byte = tells_by x.over x (after_part x (byte ∷ [])) said (said_part x (byte ∷ []))

-- bytes
tells_bytes : (x : Course) (said : Pieces) (input : List ℕ) → foldl (byte_on tells_over tells_stage brought_by tells_on behind_part) (both x said) input ≡ said_first said (heard x input)
unfolding after_bytes said_bytes
tells_bytes x said [] = ap (both x) (sym (append-nil said))
tells_bytes x said (byte ∷ more) =
    ap (λ (p : Course × Pieces). foldl (byte_on tells_over tells_stage brought_by tells_on behind_part) p more) (tells_byte x said byte)
    ∙ tells_bytes (after_byte x byte) (said ++ said_byte x byte) more
    ∙ ap (both (after_bytes (after_byte x byte) more)) (append_assoc said (said_byte x byte) (said_bytes (after_byte x byte) more))

-- the part that some bytes begin with, then the bytes behind it
part_heard : (x : Course) (c : ℕ) (cs : List ℕ) → x.over ≡ false → heard x (c ∷ cs) ≡ said_first (said_part x (c ∷ cs)) (heard (after_part x (c ∷ cs)) (behind_part x.stage (c ∷ cs)))
unfolding tells_on
part_heard x c cs e =
    sym (tells_bytes x [] (c ∷ cs))
    ∙ part_bytes tells_over tells_stage brought_by tells_on behind_part cuttable (both x []) c cs e
    ∙ tells_bytes (after_part x (c ∷ cs)) (said_part x (c ∷ cs)) (behind_part x.stage (c ∷ cs))

-- ---- What is left of some bytes
-- it leads where all of them do; where its pieces are short, those of all are
pub record Left (x : Course) (left : List ℕ) (y : Course) (all : List ℕ) : Type 0 where
  pub is : after_bytes x left ≡ after_bytes y all
  pub short : Short (said_bytes x left) → Short (said_bytes y all)

pub left_all : (x : Course) (all : List ℕ) → Left x all x all
left_all x all = record { is = refl; short = λ h. h }

pub left_then : {x y z : Course} {a b c : List ℕ} → Left x a y b → Left y b z c → Left x a z c
left_then l m = record { is = l.is ∙ m.is; short = λ h. m.short (l.short h) }

-- what is left when some pieces are said
left_by : (x : Course) (a : List ℕ) {y : Course} {b : List ℕ} (ts : Pieces) → Short ts → heard y b ≡ said_first ts (heard x a) → Left x a y b
left_by x a ts h e =
    record {
      is = sym (ap (λ (p : Course × Pieces). p.0) e);
      short = λ k. subst Short (sym (ap (λ (p : Course × Pieces). p.1) e)) (short_append ts (said_bytes x a) h k);
    }

-- ---- A turn of the loop over the bytes of a read
-- a run that goes on
abbrev pub standing : Tanks → Side → Inlet → List ℕ → ℕ → List ℕ → Course
standing s side i memory at out = record { house = meaning s; side = side; stage = stage_of i memory; waits = waiting out at; over = false }

-- what is brought, where the event is known
abbrev brought_as : Event → Brought → Brought
brought_as e b = record { stage = b.stage; event = e; call = b.call; body = b.body }

module _ (s : Tanks) (side : Side) (at : ℕ) (out : List ℕ) {i : Inlet} {from : ℕ} {input memory after : List ℕ} {t : Taken} (more : from < length input) (taken : Takes i input from memory t after) where
  -- where the run is before the turn
  abbrev here : Course
  here = standing s side i memory at out

  -- what the turn brings, by its event
  abbrev brought : Event → Brought
  brought e = brought_as e (brought_of t after)

  part_taken_lem : heard here (drop from input) ≡ said_first (said_part here (drop from input)) (heard (after_part here (drop from input)) (drop t.at input))
  part_taken_lem =
      subst (λ (l : List ℕ). heard here l ≡ said_first (said_part here l) (heard (after_part here l) (behind_part here.stage l))) (sym (drop-cons input from 0 more)) (part_heard here (get_or input from 0) (drop (suc from) input) refl)
      ∙ ap (λ (l : List ℕ). said_first (said_part here (drop from input)) (heard (after_part here (drop from input)) l)) (sym taken.behind)

  -- and the bytes behind it
  turned : (e : Event) → t.event ≡ e → heard here (drop from input) ≡ said_first (said_brought here (brought e)) (heard (on_brought here (brought e)) (drop t.at input))
  turned e h =
      part_taken_lem
      ∙ ap (λ (b : Brought). said_first (said_brought here b) (heard (on_brought here b) (drop t.at input))) (sym taken.is)
      ∙ ap (λ (v : Event). said_first (said_brought here (brought v)) (heard (on_brought here (brought v)) (drop t.at input))) h

  pub turn_nothing : t.event ≡ Event.Nothing → Left (standing s side t.inlet after at out) (drop t.at input) here (drop from input)
  unfolding on_brought said_on with_all Short
  turn_nothing h = left_by (standing s side t.inlet after at out) (drop t.at input) [] tt (turned Event.Nothing h)

  pub turn_call : {d : Moved} {out' : List ℕ} → t.event ≡ Event.Call → Performs t.call.op s side t.call (take t.size after) out at d out' → Left (standing d.tanks d.side t.inlet after d.at out') (drop t.at input) here (drop from input)
  unfolding on_brought said_on
  turn_call {d} {out'} h p =
      left_by (standing d.tanks d.side t.inlet after d.at out') (drop t.at input) (says_of t.call.op (meaning s) side t.call (take t.size after)) p.answer.short
      (turned Event.Call h ∙ ap (λ (y : Course). said_first (says_of t.call.op (meaning s) side t.call (take t.size after)) (heard y (drop t.at input))) (sym performed))
    where
      placed : House → Side → Waiting → Course
      placed h k w = record { house = h; side = k; stage = stage_of t.inlet after; waits = w; over = false }

      performed : standing d.tanks d.side t.inlet after d.at out' ≡ on_brought here (brought Event.Call)
      performed = λ j. record { house = p.is j; side = p.keeps j; stage = stage_of t.inlet after; waits = p.answer.is j; over = false }

  pub turn_bad : {k : ℕ} {out' : List ℕ} → t.event ≡ Event.Bad → Adds out at (malformed_says (state_of t.inlet.reader)) k out'
      → Left (record { house = meaning s; side = side; stage = stage_of t.inlet after; waits = waiting out' k; over = true }) [] here (drop from input)
  unfolding on_brought said_on
  turn_bad {k} {out'} h p =
      left_by ended [] (malformed_says (state_of t.inlet.reader)) p.short
      (turned Event.Bad h
      ∙ ap (λ (y : Course). said_first (malformed_says (state_of t.inlet.reader)) (heard y (drop t.at input))) (sym said)
      ∙ ap (said_first (malformed_says (state_of t.inlet.reader))) (over_heard ended (drop t.at input) refl))
    where
      ended : Course
      ended = record { house = meaning s; side = side; stage = stage_of t.inlet after; waits = waiting out' k; over = true }

      said : ended ≡ on_brought here (brought Event.Bad)
      said = ap (λ (w : Waiting). record { house = meaning s; side = side; stage = stage_of t.inlet after; waits = w; over = true }) p.is
