-- The line is made beside, so that too short a buffer is left as it was; then both are put one behind the other.
use mathlib.Core.Path.{◌≡◌, refl, ap}
use mathlib.Core.List.{List, ◌++◌}
use Prim.Native.Nat.{◌+◌, ◌≤◌}
use native.Mathlib.Omega.{arith}
use lib.ListN.{length, take, length-append}
use Rattle.text.proofs.Putting.{put_room}
use Rattle.lists.proofs.ListLaws.{handed_short, handed_full}
use Rattle.keeper_file.specs.File.{place_text}
use Rattle.keeper_file.proofs.Filing.{front_text, both_front, both_length}
use Rattle.keeper_file.proofs.put_file.Goals as goal

pub returns-then-out-k : goal.returns-then-out-k
returns-then-out-k c =
    let a = c.args in
    let h = handed_short 0 (place_text a.place ++ a.text.now) a.out.now refl (omega (arith, c.if-out-k.true, c.put_field-k.ensures.place, length-append (place_text a.place) a.text.now)) in
    record { value = h.0; out_after = h.1 }

pub returns-then-out-k-2 : goal.returns-then-out-k-2
returns-then-out-k-2 c =
    let a = c.args in
    let h = handed_short 0 (place_text a.place ++ a.text.now) a.out.now refl (omega (arith, c.if-out-k-2.true, c.if-out-k.false, c.put_field-k.ensures.place, length-append (place_text a.place) a.text.now)) in
    record { value = h.0; out_after = h.1 }

pub slice_bounds-put-end : goal.slice_bounds-put-end
slice_bounds-put-end c =
    let line_is : take c.put_field-k.result c.put_field-k.new.out ≡ place_text c.args.place = front_text c.put_field-k.ensures (omega (arith, c.put_field-k.ensures.place, c.put_field-k.ensures.few)) in
    omega (arith, ap length line_is, c.put_field-k.ensures.place)

pub put-a-requires : goal.put-a-requires
put-a-requires c =
    let line_is : take c.put_field-k.result c.put_field-k.new.out ≡ place_text c.args.place = front_text c.put_field-k.ensures (omega (arith, c.put_field-k.ensures.place, c.put_field-k.ensures.few)) in
    omega (arith, c.if-out-k.false, ap length line_is, c.put_field-k.ensures.place)

pub put-b-requires : goal.put-b-requires
put-b-requires c =
    let a = c.args in
    let line_is : take c.put_field-k.result c.put_field-k.new.out ≡ place_text c.args.place = front_text c.put_field-k.ensures (omega (arith, c.put_field-k.ensures.place, c.put_field-k.ensures.few)) in
    omega (
      arith,
      c.if-out-k-2.false,
      c.if-out-k.false,
      ap length line_is,
      c.put_field-k.ensures.place,
      c.put-a.ensures.0,
      ap length c.put-a.ensures.1,
      put_room a.out.now 0 (take c.put_field-k.result c.put_field-k.new.out),
    )

pub returns : goal.returns
returns c =
    let a = c.args in
    let line_is : take c.put_field-k.result c.put_field-k.new.out ≡ place_text c.args.place = front_text c.put_field-k.ensures (omega (arith, c.put_field-k.ensures.place, c.put_field-k.ensures.few)) in
    let l = take c.put_field-k.result c.put_field-k.new.out in
    let n = ap length line_is in
    let room : length l + length a.text.now ≤ length a.out.now = omega (arith, c.if-out-k-2.false, c.if-out-k.false, n, c.put_field-k.ensures.place) in
    let h = handed_full 0 (place_text a.place ++ a.text.now) (l ++ a.text.now) a.out.now c.put-b.new.out c.put-b.result refl (ap (λ (t : List _). t ++ a.text.now) line_is) (omega (arith, room, n, length-append (place_text a.place) a.text.now))
    (both_front a.out.now c.put-a.new.out c.put-b.new.out l a.text.now c.put-a.result c.put-b.result c.put-a.ensures.0 c.put-a.ensures.1 c.put-b.ensures.0 c.put-b.ensures.1 room)
    (both_length a.out.now c.put-a.new.out c.put-b.new.out l a.text.now c.put-a.result c.put-b.result c.put-a.ensures.0 c.put-a.ensures.1 c.put-b.ensures.0 c.put-b.ensures.1 room)
    in
    record { value = h.0; out_after = h.1 }
