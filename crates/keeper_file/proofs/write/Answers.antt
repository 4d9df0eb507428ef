-- The room is that of the longest saved text, so all of it is written there, and put behind its line.
use mathlib.Core.Path.{◌≡◌, sym, ap, subst, ◌∙◌}
use mathlib.Core.List.{List, ◌++◌}
use Prim.Native.Nat.{ℕ}
use native.Mathlib.Omega.{arith}
use lib.ListN.{length, length-take}
use Rattle.runs.specs.Stretches.{in_front}
use Rattle.lists.specs.declared.Listed.{Listed}
use Rattle.lists.specs.Lists.{filled_beside, unless_refused}
use Rattle.lists.proofs.ListLaws.{handed_part}
use Rattle.tanks.specs.Pool.{meaning}
use Rattle.saved.specs.Writes.{written}
use Rattle.saved.proofs.Bound.{written_fits}
use Rattle.keeper_file.specs.File.{place_text, file_of, room_number}
use Rattle.keeper_file.proofs.Filing.{few_filled, filed_again}
use Rattle.keeper_file.proofs.write.Goals as goal

pub slice_bounds-text-end : goal.slice_bounds-text-end
slice_bounds-text-end c =
    let t = written (meaning c.args.s) in
    let value = c.write-t.ensures.value in
    let accepted = ap (λ (l : Listed). l.number) value ∙ written_fits c.args.s c.requires _ (omega (arith, c.text_room-text.ensures)) in
    let zero = sym (ap (λ (l : Listed). l.number) value) ∙ accepted in
    let text_is = handed_part _ t _ c.write-t.result c.write-t.new.out (value, c.write-t.ensures.out_after) ∙ ap (λ (n : ℕ). unless_refused n t) zero in
    let count_is = ap (λ (l : Listed). l.count) value ∙ ap (λ (n : ℕ). length (unless_refused n t)) zero in
    omega (arith, ap length text_is, length-take c.write-t.result.count c.write-t.new.out, count_is)

pub slice_bounds-put_file-end : goal.slice_bounds-put_file-end
slice_bounds-put_file-end c =
    let t = written (meaning c.args.s) in
    let value = c.write-t.ensures.value in
    let accepted = ap (λ (l : Listed). l.number) value ∙ written_fits c.args.s c.requires _ (omega (arith, c.text_room-text.ensures)) in
    let zero = sym (ap (λ (l : Listed). l.number) value) ∙ accepted in
    let text_is = handed_part _ t _ c.write-t.result c.write-t.new.out (value, c.write-t.ensures.out_after) ∙ ap (λ (n : ℕ). unless_refused n t) zero in
    let count_is = ap (λ (l : Listed). l.count) value ∙ ap (λ (n : ℕ). length (unless_refused n t)) zero in
    omega (arith, ap length text_is, count_is)

pub returns : goal.returns
returns c =
    let a = c.args in
    let out = a.out.now in
    let t = written (meaning c.args.s) in
    let value = c.write-t.ensures.value in
    let accepted = ap (λ (l : Listed). l.number) value ∙ written_fits c.args.s c.requires _ (omega (arith, c.text_room-text.ensures)) in
    let zero = sym (ap (λ (l : Listed). l.number) value) ∙ accepted in
    let text_is = handed_part _ t _ c.write-t.result c.write-t.new.out (value, c.write-t.ensures.out_after) ∙ ap (λ (n : ℕ). unless_refused n t) zero in
    let first : c.put_file.result ≡ filled_beside (room_number (length out) (file_of a.place (meaning a.s))) (file_of a.place (meaning a.s)) =
    subst (λ (t : List ℕ). c.put_file.result ≡ filled_beside (room_number (length out) (place_text a.place ++ t)) (place_text a.place ++ t)) text_is c.put_file.ensures.value in
    record {
      value = first;
      out_after = subst (λ (t : List ℕ). c.put_file.new.out ≡ in_front (unless_refused (room_number (length out) (place_text a.place ++ t)) (place_text a.place ++ t)) out) text_is c.put_file.ensures.out_after;
      filed_again = (
        λ z. filed_again a.place (meaning a.s) c.ranges.place.fits (c.write-t.ensures.said_again accepted),
        omega (arith, ap (λ (l : Listed). l.count) first, few_filled (length out) (file_of a.place (meaning a.s))),
      );
    }
