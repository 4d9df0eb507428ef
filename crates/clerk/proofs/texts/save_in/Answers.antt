-- As much room as is lent is as good as what the call names.
use Prim.Native.Nat.{ℕ}
use borrow.Author.Rules.{rules}
use native.Mathlib.Omega.{arith}
use lib.ListN.{length}
use mathlib.Core.Path.{ap, ◌∙◌}
use Rattle.answers.proofs.Laws.{adds_as}
use Rattle.answers.specs.Replies.{or_refused, bytes_say}
use Rattle.saved.specs.Writes.{written, write_number}
use Rattle.tanks.specs.Pool.{meaning}
use Rattle.clerk.specs.Calls.{save_says}
use Rattle.clerk.proofs.Saving.{save_room, saved_said, saved_inside}
use Rattle.clerk.proofs.texts.save_in.Goals as goal

pub text_or-requires : goal.text_or-requires
text_or-requires c =
    let a = c.args in
    let w = c.write-l.ensures in
    (search rules, saved_inside (write_number (length a.part.now) (meaning a.s)) (written (meaning a.s)) a.part.now _ _ w.value w.out_after, omega (arith, c.write-l.auto.out, c.requires.part_len.0))

pub returns : goal.returns
unfolding save_says
returns c =
    let a = c.args in
    let w = c.write-l.ensures in
    adds_as
    (saved_said (write_number (length a.part.now) (meaning a.s)) (written (meaning a.s)) a.part.now _ _ w.value w.out_after
    ∙ ap (λ (n : ℕ). or_refused n (bytes_say (written (meaning a.s)))) (save_room a.s c.requires.sound a.room _ c.requires.part_len.0))
    c.text_or.ensures
