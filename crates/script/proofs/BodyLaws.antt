-- What the code's steps hand back is what the next bytes bring.
use mathlib.Core.Path.{◌≡◌, refl, sym, ap, ap₂, subst, ◌∙◌}
use mathlib.Core.Bool.{Bool, true, false, cond}
use mathlib.Core.List.{List, [], ◌++◌}
use Prim.Native.Nat.{ℕ, ◌+◌, ◌-◌, ◌≤◌, ◌<◌, min}
use native.Mathlib.Decide.{dec_lt}
use native.Mathlib.Omega.{arith}
use lib.Dec.{eqb}
use lib.ListN.{length, take, drop, length-take, length-drop, drop_of_length-le}
use lib.Seq.{drop-drop}
use borrow.Author.Tests.{ne_eqb, eq-eqb}
use Rattle.text.specs.Number.{put}
use Rattle.text.proofs.Putting.{take_put, put_room}
use Rattle.script.specs.declared.Call.{Call}
use Rattle.script.specs.declared.Event.{Event}
use Rattle.script.specs.declared.Fed.{Fed}
use Rattle.script.specs.declared.Inlet.{Inlet}
use Rattle.script.specs.declared.Op.{Op}
use Rattle.script.specs.declared.Reader.{Reader}
use Rattle.script.specs.declared.Taken.{Taken}
use Rattle.script.specs.Grammar.{most_body}
use Rattle.script.specs.Args.{number_at}
use Rattle.script.specs.Lines.{line_front, State, state_of, read_of, brings_of, after_of, Feeds}
use Rattle.script.specs.Bodies.{body_by, body_of, brings_call, brings_nothing, Brought, line_brings, counted_in, passed, body_brings, brought_by, behind_line, behind_part, stage_of, Fits, resting, end_taken, part_taken, brought_of, Takes}
use Rattle.script.proofs.CutLaws.{take_min}
use Rattle.script.proofs.Unique.{fed_state}

-- ---- Sizes
body_by_lem : (op : Op) (n : ℕ) → body_by op n ≤ most_body
body_by_lem Op.Nothing n = omega arith
body_by_lem (Op.Change e) n = omega arith
body_by_lem (Op.Question q) n = omega arith
body_by_lem (Op.Listing l) n = omega arith
body_by_lem (Op.Text x) n = omega arith
body_by_lem (Op.Desk d) n = omega arith
body_by_lem (Op.Both b) n = omega arith

-- no body is longer than one may be
pub body_most : (c : Call) → body_of c ≤ most_body
unfolding body_of
body_most c = body_by_lem c.op (number_at c 0)

-- past the end of a list there is nothing
pub drop_min : (n : ℕ) (l : List ℕ) → drop (min n (length l)) l ≡ drop n l
drop_min n l =
    elim (dec_lt n (length l)) [
      | yes h ↦ let e : min n (length l) ≡ n = omega arith in ap (λ (k : ℕ). drop k l) e
      | no h ↦ drop_of_length-le l {i = min n (length l)} (omega arith) ∙ sym (drop_of_length-le l {i = n} (omega arith))
    ]

-- ---- A line's end
-- a whole call, by whether it has a body
call_brought : (none : Bool) (r : Reader) (c : Call) (at n : ℕ) (d : List ℕ)
    → brought_of (cond none (record { inlet = resting r; event = Event.Call; call = c; size = 0; at = at }) (record { inlet = record { reader = r; call = c; have = 0; left = n }; event = Event.Nothing; call = c; size = 0; at = at })) d
    ≡ cond none (brings_call (state_of r) c []) (brings_nothing (record { lines = state_of r; call = c; body = []; left = n }) c)
call_brought true r c at n d = refl
call_brought false r c at n d = refl

end_brought : (e : Event) (r : Reader) (c : Call) (at : ℕ) (d : List ℕ) → brought_of (end_taken e r c at) d ≡ line_brings e (state_of r) c
unfolding end_taken line_brings
end_brought Event.Nothing r c at d = refl
end_brought Event.Bad r c at d = refl
end_brought Event.Call r c at d = call_brought (eqb (body_of c) 0) r c at (body_of c) d

-- what stands beside it
pub record Ended (c : Call) (at : ℕ) (t : Taken) : Type 0 where
  pub at_is : t.at ≡ at
  pub none : t.size ≡ 0
  pub begins : t.inlet.have ≡ 0
  pub most : t.inlet.left ≤ body_of c

call_ended : (none : Bool) (r : Reader) (c : Call) (at : ℕ)
    → Ended c at (cond none (record { inlet = resting r; event = Event.Call; call = c; size = 0; at = at }) (record { inlet = record { reader = r; call = c; have = 0; left = body_of c }; event = Event.Nothing; call = c; size = 0; at = at }))
call_ended true r c at = record { at_is = refl; none = refl; begins = refl; most = omega arith }
call_ended false r c at = record { at_is = refl; none = refl; begins = refl; most = omega arith }

end_ended : (e : Event) (r : Reader) (c : Call) (at : ℕ) → Ended c at (end_taken e r c at)
unfolding end_taken
end_ended Event.Nothing r c at = record { at_is = refl; none = refl; begins = refl; most = omega arith }
end_ended Event.Bad r c at = record { at_is = refl; none = refl; begins = refl; most = omega arith }
end_ended Event.Call r c at = call_ended (eqb (body_of c) 0) r c at

module _ (i : Inlet) (input : List ℕ) (from : ℕ) (d : List ℕ) (f : Fed) (t : Taken) (more : from < length input) (lines : i.left ≡ 0) (room : most_body ≤ length d) (fed : Feeds i.reader input from f)
    (is-taken : t ≡ end_taken f.event f.reader f.call f.at) where
  ended : Ended f.call f.at t
  ended = subst (Ended f.call f.at) (sym is-taken) (end_ended f.event f.reader f.call f.at)

  line_brought_lem : brought_of t d ≡ line_brings (brings_of (state_of i.reader) (drop from input)) (after_of (state_of i.reader) (drop from input)) (read_of (state_of i.reader) (drop from input)).call
  line_brought_lem =
      ap (λ (u : Taken). brought_of u d) is-taken
      ∙ end_brought f.event f.reader f.call f.at d
      ∙ ap₂ (λ (e : Event) (s : State). line_brings e s f.call) fed.event (fed_state fed)
      ∙ ap (line_brings (brings_of (state_of i.reader) (drop from input)) (after_of (state_of i.reader) (drop from input))) fed.call

  line_behind : drop f.at input ≡ behind_line (drop from input)
  line_behind =
      let n : ℕ = length (line_front (drop from input)) in
      let e : f.at ≡ min (from + (n + 1)) (length input) = omega (arith, fed.at) in
      ap (λ (k : ℕ). drop k input) e ∙ drop_min (from + (n + 1)) input ∙ sym (drop-drop (n + 1) from input)

  pub takes_line : Takes i input from d t d
  unfolding brought_by behind_part
  takes_line =
      record {
        is = line_brought_lem ∙ sym (ap (λ (b : Bool). cond b (line_brings (brings_of (state_of i.reader) (drop from input)) (after_of (state_of i.reader) (drop from input)) (read_of (state_of i.reader) (drop from input)).call) (body_brings (stage_of i d) (take i.left (drop from input)))) (eq-eqb i.left 0 lines));
        behind = ap (λ (k : ℕ). drop k input) ended.at_is ∙ line_behind ∙ sym (ap (λ (b : Bool). cond b (behind_line (drop from input)) (drop i.left (drop from input))) (eq-eqb i.left 0 lines));
        further = omega (arith, ended.at_is, fed.at, more);
        inside = omega (arith, ended.at_is, fed.at);
        fits = omega (arith, ended.begins, ended.most, body_most f.call, room);
        sized = omega (arith, ended.none);
      }

-- ---- A part of a body
-- what is brought, by how much is left then
abbrev part_brings : Call → State → List ℕ → ℕ → Brought
part_brings c s body left = cond (eqb left 0) (brings_call s c body) (brings_nothing (record { lines = s; call = c; body = body; left = left }) c)

part_by : (whole : Bool) (r : Reader) (c : Call) (have left at : ℕ) (d : List ℕ)
    → brought_of (cond whole (record { inlet = resting r; event = Event.Call; call = c; size = have; at = at }) (record { inlet = record { reader = r; call = c; have = have; left = left }; event = Event.Nothing; call = c; size = 0; at = at })) d
    ≡ cond whole (brings_call (state_of r) c (take have d)) (brings_nothing (record { lines = state_of r; call = c; body = take have d; left = left }) c)
part_by true r c have left at d = refl
part_by false r c have left at d = refl

part_brought : (r : Reader) (c : Call) (have left at : ℕ) (d : List ℕ) → brought_of (part_taken r c have left at) d ≡ part_brings c (state_of r) (take have d) left
unfolding part_taken
part_brought r c have left at d = part_by (eqb left 0) r c have left at d

-- what stands beside it
record Parted (have left at : ℕ) (t : Taken) : Type 0 where
  pub at_is : t.at ≡ at
  pub most : t.size ≤ have
  pub room : t.inlet.have + t.inlet.left ≤ have + left

parted_by : (whole : Bool) (r : Reader) (c : Call) (have left at : ℕ)
    → Parted have left at (cond whole (record { inlet = resting r; event = Event.Call; call = c; size = have; at = at }) (record { inlet = record { reader = r; call = c; have = have; left = left }; event = Event.Nothing; call = c; size = 0; at = at }))
parted_by true r c have left at = record { at_is = refl; most = omega arith; room = omega arith }
parted_by false r c have left at = record { at_is = refl; most = omega arith; room = omega arith }

part_parted : (r : Reader) (c : Call) (have left at : ℕ) → Parted have left at (part_taken r c have left at)
unfolding part_taken
part_parted r c have left at = parted_by (eqb left 0) r c have left at

module _ (i : Inlet) (input : List ℕ) (from : ℕ) (d : List ℕ) (more : ℕ) (inside : from < length input) (some : 0 < i.left) (fits : Fits i d) (is_more : more ≡ min i.left (length input - from)) where
  -- the bytes that the code takes
  abbrev piece : List ℕ
  piece = take (from + more - from) (drop from input)

  piece_is : piece ≡ take i.left (drop from input)
  piece_is =
      let e : from + more - from ≡ min i.left (length (drop from input)) = omega (arith, length-drop from input) in
      ap (λ (k : ℕ). take k (drop from input)) e ∙ take_min i.left (length (drop from input)) (drop from input) (omega arith)

  length_piece : length piece ≡ more
  length_piece = omega (arith, length-take (from + more - from) (drop from input), length-drop from input)

  pub piece_room_lem : i.have + length piece ≤ length d
  piece_room_lem = omega (arith, length_piece)

  module _ (have : ℕ) (after : List ℕ) (is-have : have ≡ i.have + length piece) (is_after : after ≡ put d i.have piece) (next : Reader)
      (is-next : next ≡ record { line = i.reader.line; call = i.reader.call; newlines = counted_in i.reader.newlines piece }) (t : Taken) (is-taken : t ≡ part_taken next i.call have (i.left - more) (from + more)) where
    come : take have after ≡ take i.have d ++ piece
    come = ap₂ (λ (k : ℕ) (l : List ℕ). take k l) is-have is_after ∙ take_put d i.have piece piece_room_lem

    brings : brought_of t after ≡ body_brings (stage_of i d) piece
    unfolding body_brings
    brings =
        let s : state_of next ≡ passed (state_of i.reader) piece = ap state_of is-next in
        let l : i.left - more ≡ i.left - length piece = omega (arith, length_piece) in
        ap (λ (u : Taken). brought_of u after) is-taken
        ∙ part_brought next i.call have (i.left - more) (from + more) after
        ∙ ap₂ (λ (a : State) (b : List ℕ). part_brings i.call a b (i.left - more)) s come
        ∙ ap (part_brings i.call (passed (state_of i.reader) piece) (take i.have d ++ piece)) l

    parted : Parted have (i.left - more) (from + more) t
    parted = subst (Parted have (i.left - more) (from + more)) (sym is-taken) (part_parted next i.call have (i.left - more) (from + more))

    part_behind : drop (from + more) input ≡ drop i.left (drop from input)
    part_behind =
        let e : more ≡ min i.left (length (drop from input)) = omega (arith, length-drop from input) in
        sym (drop-drop more from input) ∙ ap (λ (k : ℕ). drop k (drop from input)) e ∙ drop_min i.left (drop from input)

    pub takes_part : Takes i input from d t after
    unfolding brought_by behind_part
    takes_part =
        let no : eqb i.left 0 ≡ false = ne_eqb i.left 0 (λ e. omega arith) in
        record {
          is = brings ∙ ap (body_brings (stage_of i d)) piece_is ∙ sym (ap (λ (b : Bool). cond b (line_brings (brings_of (state_of i.reader) (drop from input)) (after_of (state_of i.reader) (drop from input)) (read_of (state_of i.reader) (drop from input)).call) (body_brings (stage_of i d) (take i.left (drop from input)))) no);
          behind = ap (λ (k : ℕ). drop k input) parted.at_is ∙ part_behind ∙ sym (ap (λ (b : Bool). cond b (behind_line (drop from input)) (drop i.left (drop from input))) no);
          further = omega (arith, parted.at_is, is_more, inside, some);
          inside = omega (arith, parted.at_is, is_more, inside);
          fits = omega (arith, parted.room, is-have, length_piece, is_more, fits, ap length is_after, put_room d i.have piece);
          sized = omega (arith, parted.most, is-have, length_piece, is_more, fits, ap length is_after, put_room d i.have piece);
        }
