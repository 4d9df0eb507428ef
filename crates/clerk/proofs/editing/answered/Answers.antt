-- By the edit.
use Rattle.clerk.proofs.Edited.{as_edit}
use Rattle.clerk.specs.Calls.{edit_says}
use Rattle.clerk.proofs.editing.answered.Goals as goal

pub styles_of-requires : goal.styles_of-requires
styles_of-requires c = c.requires.marks_bound

pub returns-in-Annotate : goal.returns-in-Annotate
unfolding edit_says
returns-in-Annotate c = as_edit _ _ _ c.in-Annotate.is c.accept.ensures

pub returns-in-Insert : goal.returns-in-Insert
unfolding edit_says
returns-in-Insert c = as_edit _ _ _ c.in-Insert.is (rw c.styles_of.ensures at c.set_or.ensures)

pub returns-in-Delete : goal.returns-in-Delete
unfolding edit_says
returns-in-Delete c = as_edit _ _ _ c.in-Delete.is c.accept-in-Delete.ensures

pub returns-in-Remove : goal.returns-in-Remove
unfolding edit_says
returns-in-Remove c = as_edit _ _ _ c.in-Remove.is c.first_or.ensures
