-- In each case the tank's own function is called, and its promise is the case's.
use Rattle.tanks.proofs.perform.Goals as goal

pub annotate-requires : goal.annotate-requires
annotate-requires c = c.requires

pub delete-requires : goal.delete-requires
delete-requires c = c.requires

pub insert-requires : goal.insert-requires
insert-requires c = c.requires

pub remove-requires : goal.remove-requires
remove-requires c = c.requires

pub returns-in-Annotate : goal.returns-in-Annotate
returns-in-Annotate c = rw c.in-Annotate.is c.annotate.ensures

pub returns-in-Delete : goal.returns-in-Delete
returns-in-Delete c = rw c.in-Delete.is c.delete.ensures

pub returns-in-Insert : goal.returns-in-Insert
returns-in-Insert c = rw c.in-Insert.is c.insert.ensures

pub returns-in-Remove : goal.returns-in-Remove
returns-in-Remove c = rw c.in-Remove.is c.remove.ensures
