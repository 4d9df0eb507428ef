-- Its parts, or nothing.
use mathlib.Core.List.{[]}
use Rattle.answers.proofs.Laws.{and_then, no_piece}
use Rattle.picture.specs.Picture.{held_says}
use Rattle.picture.proofs.Choices.{when_true, when_false}
use borrow.Author.Tests.{lt-ltb, le-ltb}
use lib.Dec.{ltb}
use Rattle.picture.proofs.entries.held_entry.Goals as goal

pub returns-then-hold-gt65535 : goal.returns-then-hold-gt65535
unfolding held_says
returns-then-hold-gt65535 c =
    let a = c.args in
    when_true [] _ (ltb 65535 a.hold) (lt-ltb 65535 a.hold c.if-hold-gt65535.true) (no_piece _ _)

pub returns : goal.returns
unfolding held_says
returns c =
    let a = c.args in
    when_false [] _ (ltb 65535 a.hold) (le-ltb 65535 a.hold c.if-hold-gt65535.false) (and_then c.patch-a.ensures (and_then c.say-b.ensures (and_then c.patch-c.ensures (and_then c.say-d.ensures (and_then c.caption-e.ensures c.say.ensures)))))
