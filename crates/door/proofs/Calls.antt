-- The calls of a script: what is said goes into memory that is held, so the place behind it tells whether it is all there.
use mathlib.Core.Path.{◌≡◌, refl, sym, ap, ap₂, subst, ◌∙◌}
use mathlib.Core.Bool.{Bool, false}
use mathlib.Core.List.{List, flatten}
use Prim.Native.Nat.{ℕ, ◌+◌, ◌≤◌, ◌<◌}
use native.Mathlib.Decide.{dec_lt}
use native.Mathlib.Omega.{arith}
use lib.ListN.{length, take}
use Rattle.text.specs.Number.{put}
use Rattle.text.proofs.Putting.{take_put}
use Rattle.tanks.specs.declared.Tanks.{Tanks}
use Rattle.tanks.specs.House.{House}
use Rattle.tanks.specs.Pool.{meaning}
use Rattle.script.specs.declared.Inlet.{Inlet}
use Rattle.script.specs.Reading.{fresh_of}
use Rattle.script.specs.Writing.{most_written}
use Rattle.script.specs.Lines.{reader_at, state_of, counted_of}
use Rattle.script.specs.Bodies.{resting, stage_of, ending_in}
use Rattle.answers.specs.Waiting.{Pieces, Waiting, waiting, piece_room, with_all, Short}
use Rattle.answers.proofs.Held.{all_behind, held_late}
use Rattle.clerk.specs.declared.Eaten.{Eaten}
use Rattle.clerk.specs.declared.Side.{Side}
use Rattle.clerk.specs.declared.Stand.{Stand}
use Rattle.clerk.specs.Desk.{empty_side}
use Rattle.clerk.specs.Course.{Course, Eats, Whereabouts, where_of, after_bytes, said_bytes}
use Rattle.clerk.specs.Course as course
use Rattle.clerk.proofs.Cuts.{waits_bytes, place_bytes, said_bytes_lem}
use Rattle.door.specs.declared.Ran.{Ran}
use Rattle.door.specs.Door.{most_answers, starting, course_of, house_after, answers_of, bad_in, bad_at, bad_line, RunsCalls}

-- ---- What is put into memory that is held
-- the place behind it, and what stands in front
pub record Stands (pieces : Pieces) (w : Waiting) : Type 0 where
  pub few : w.at ≤ most_answers → (w.at ≡ length (flatten pieces)) × (take w.at w.buffer ≡ flatten pieces)
  pub many : most_answers < w.at → most_answers < length (flatten pieces)

-- so few that they stand there
few_stand : (d : List ℕ) (pieces : Pieces) (w : Waiting) → 262337 ≡ length d → w ≡ waiting (put d 0 (flatten pieces)) (0 + length (flatten pieces)) → length (flatten pieces) ≤ most_answers → Stands pieces w
few_stand d pieces w room e h =
    let all = flatten pieces in
    let zero' : 0 + length all ≡ length all = omega arith in
    let at : w.at ≡ length all = ap (λ (x : Waiting). x.at) e ∙ zero' in
    record {
      few = λ k. (at, ap (λ (x : Waiting). take x.at x.buffer) e ∙ take_put d 0 all (omega (arith, h, room)));
      many = λ k. absurd (omega (arith, at, k, h));
    }

-- so many that the place is in the last bytes
many_stand : (d : List ℕ) (pieces : Pieces) (w : Waiting) → 262337 ≡ length d → length d ≤ w.at + piece_room → most_answers < length (flatten pieces) → Stands pieces w
many_stand d pieces w room late h = record { few = λ k. absurd (omega (arith, room, late, k)); many = λ k. h }

pub stands : (d : List ℕ) (pieces : Pieces) → 262337 ≡ length d → Short pieces → Stands pieces (with_all (waiting d 0) pieces)
stands d pieces room short =
    elim (dec_lt most_answers (length (flatten pieces))) [
      | yes k ↦ many_stand d pieces (with_all (waiting d 0) pieces) room (held_late (waiting d 0) pieces (omega (arith, room)) short (omega (arith, room, k))) k
      | no k ↦ few_stand d pieces (with_all (waiting d 0) pieces) room (all_behind d 0 pieces short (omega (arith, room, k))) (omega (arith, k))
    ]

-- ---- A run of a script
-- the wrong line where a run is
abbrev bad_where : Whereabouts → ℕ
bad_where w = bad_in w.over (ending_in w.stage.left w.stage.lines) (counted_of w.stage.lines.newlines)

-- where code begins
pub first_course : (s : Tanks) (stand : Stand) (memory held : List ℕ) {inlet : Inlet} {side : Side} → stand ≡ record { inlet = inlet; side = side; at = 0; over = false } → inlet ≡ resting (reader_at (fresh_of 0) 0) → side ≡ empty_side
    → course.course_of s stand memory held ≡ record { house = meaning s; side = empty_side; stage = stage_of (resting (reader_at (fresh_of 0) 0)) memory; waits = waiting held 0; over = false }
first_course s stand memory held e f g =
    ap (λ (x : Stand). course.course_of s x memory held) e
    ∙ ap₂ (λ (i : Inlet) (k : Side). course.course_of s (record { inlet = i; side = k; at = 0; over = false }) memory held) f g

module _ (s : Tanks) (script : List ℕ) {e : Eaten} {stand : Stand} {memory after held out : List ℕ} (eats : Eats s stand memory held script e after out) (begin : course.course_of s stand memory held ≡ record { house = meaning s; side = empty_side; stage = stage_of (resting (reader_at (fresh_of 0) 0)) memory; waits = waiting held 0; over = false }) where
  -- it comes to the same place as without that memory
  same_place : where_of (course.course_of e.tanks e.stand after out) ≡ where_of (course_of (meaning s) script)
  same_place = ap where_of eats.is ∙ ap (λ (x : Course). where_of (after_bytes x script)) begin ∙ place_bytes script _ (starting (meaning s)) refl

  -- and says the same
  same_said : said_bytes (course.course_of s stand memory held) script ≡ said_bytes (starting (meaning s)) script
  same_said = ap (λ (x : Course). said_bytes x script) begin ∙ said_bytes_lem script _ (starting (meaning s)) refl

  -- which stands in the memory
  same_waits : waiting out e.stand.at ≡ with_all (waiting held 0) (said_bytes (course.course_of s stand memory held) script)
  same_waits =
      ap (λ (x : Course). x.waits) eats.is
      ∙ waits_bytes (course.course_of s stand memory held) script
      ∙ ap (λ (x : Course). with_all x.waits (said_bytes (course.course_of s stand memory held) script)) begin

  answers_stand : 262337 ≡ length held → Stands (said_bytes (starting (meaning s)) script) (waiting out e.stand.at)
  answers_stand room =
      subst (λ (p : Pieces). Stands p (waiting out e.stand.at)) same_said
      (subst (Stands (said_bytes (course.course_of s stand memory held) script)) (sym same_waits) (stands held (said_bytes (course.course_of s stand memory held) script) room eats.short))

  -- so a run is what it is without memory
  pub runs_calls : {r : Ran} {line : ℕ} → 262337 ≡ length held → r ≡ record { tanks = e.tanks; line = line; at = e.stand.at } → line ≡ bad_in e.stand.over (ending_in e.stand.inlet.left (state_of e.stand.inlet.reader)) (counted_of e.stand.inlet.reader.newlines) → RunsCalls (meaning s) script r out
  unfolding answers_of
  runs_calls {r} {line} room is wrong =
      let x = answers_stand room in
      subst
      (λ (k : Ran). RunsCalls (meaning s) script k out)
      (sym is)
      (record {
        sound = eats.ready.sound;
        is = ap (λ (w : Whereabouts). w.house) same_place;
        line_is = wrong ∙ ap bad_where same_place;
        few = x.few;
        many = x.many;
      })
