-- By the op: one of the four edits is not made here.
use mathlib.Core.Path.{refl}
use Rattle.clerk.specs.Calls.{change_kind}
use Rattle.clerk.proofs.Performing.{as_change, any_opens, no_edit}
use Rattle.clerk.proofs.change.Goals as goal

pub returns-in-Open : goal.returns-in-Open
returns-in-Open c = as_change c.in-Open.is (any_opens c.opened.ensures)

pub returns-in-Annotate : goal.returns-in-Annotate
unfolding change_kind
returns-in-Annotate c = no_edit _ _ c.in-Annotate.is refl c.requires.sound.1

pub returns-in-Insert : goal.returns-in-Insert
unfolding change_kind
returns-in-Insert c = no_edit _ _ c.in-Insert.is refl c.requires.sound.1

pub returns-in-Delete : goal.returns-in-Delete
unfolding change_kind
returns-in-Delete c = no_edit _ _ c.in-Delete.is refl c.requires.sound.1

pub returns-in-Remove : goal.returns-in-Remove
unfolding change_kind
returns-in-Remove c = no_edit _ _ c.in-Remove.is refl c.requires.sound.1

pub returns-in-Age : goal.returns-in-Age
returns-in-Age c = as_change c.in-Age.is c.aged.ensures
