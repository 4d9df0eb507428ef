-- By the op: a mark and an identity are read from the call.
use Rattle.clerk.specs.Calls.{change_kind}
use Rattle.clerk.specs.declared.Kind.{Kind}
use Rattle.script.specs.Args.{number_at}
use Rattle.styles.specs.declared.Identity.{Identity}
use Rattle.styles.specs.declared.Mark.{Mark}
use Rattle.tanks.specs.declared.Edit.{Edit}
use mathlib.Core.Path.{ap}
use Rattle.clerk.proofs.editing.change_kind.Goals as goal

pub returns-in-Open : goal.returns-in-Open
unfolding change_kind
returns-in-Open c = rw c.in-Open.is

pub returns-in-Annotate : goal.returns-in-Annotate
unfolding change_kind
returns-in-Annotate c = let a = c.args in rw c.in-Annotate.is (ap (λ (m : Mark). Kind.Edits (Edit.Annotate (number_at a.call 1) (number_at a.call 2) m)) c.mark_of.ensures)

pub returns-in-Insert : goal.returns-in-Insert
unfolding change_kind
returns-in-Insert c = rw c.in-Insert.is

pub returns-in-Delete : goal.returns-in-Delete
unfolding change_kind
returns-in-Delete c = rw c.in-Delete.is

pub returns-in-Remove : goal.returns-in-Remove
unfolding change_kind
returns-in-Remove c = let a = c.args in rw c.in-Remove.is (ap (λ (id : Identity). Kind.Edits (Edit.Remove id (number_at a.call 4))) c.identity_of.ensures)

pub returns-in-Age : goal.returns-in-Age
unfolding change_kind
returns-in-Age c = rw c.in-Age.is
