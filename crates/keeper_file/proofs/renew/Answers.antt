-- What was put in front of the buffer is the file, or nothing: it is that which is compared.
use mathlib.Core.Path.{◌≡◌, sym, ap, ◌∙◌}
use Prim.Native.Nat.{ℕ}
use lib.ListN.{length}
use Rattle.runs.specs.Stretches.{in_front}
use Rattle.lists.specs.declared.Listed.{Listed}
use Rattle.lists.specs.Lists.{unless_refused}
use Rattle.lists.proofs.ListLaws.{handed_part, handed_count}
use Rattle.tanks.specs.Pool.{meaning}
use Rattle.keeper_file.specs.File.{file_of, file_number, differs}
use Rattle.keeper_file.proofs.renew.Goals as goal

pub slice_bounds-changed-end-2 : goal.slice_bounds-changed-end-2
slice_bounds-changed-end-2 c = handed_count _ _ _ c.write-w.result c.write-w.new.out (c.write-w.ensures.value, c.write-w.ensures.out_after)

pub returns : goal.returns
returns c =
    let a = c.args in
    let t = file_of a.place (meaning a.s) in
    let w = c.write-w.ensures in
    let number_is : c.write-w.result.number ≡ file_number (length a.next.now) a.place (meaning a.s) = ap (λ (l : Listed). l.number) w.value in
    let text_is = handed_part _ t _ c.write-w.result c.write-w.new.out (w.value, w.out_after) ∙ ap (λ (n : ℕ). unless_refused n t) (sym number_is) in
    record {
      number_is = number_is;
      count_is = ap (λ (l : Listed). l.count) w.value ∙ ap (λ (n : ℕ). length (unless_refused n t)) (sym number_is);
      text = w.out_after ∙ ap (λ (n : ℕ). in_front (unless_refused n t) a.next.now) (sym number_is);
      inside = w.filed_again.1;
      again = w.filed_again.0;
      changed = λ z. c.changed.ensures ∙ ap (differs a.kept.now) (text_is ∙ ap (λ (n : ℕ). unless_refused n t) z);
    }
