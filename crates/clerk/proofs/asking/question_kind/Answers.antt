-- By the op.
use Rattle.clerk.specs.Calls.{question_kind}
use Rattle.clerk.proofs.asking.question_kind.Goals as goal

pub returns-in-Length : goal.returns-in-Length
unfolding question_kind
returns-in-Length c = rw c.in-Length.is

pub returns-in-Touched : goal.returns-in-Touched
unfolding question_kind
returns-in-Touched c = rw c.in-Touched.is

pub returns-in-Runs : goal.returns-in-Runs
unfolding question_kind
returns-in-Runs c = rw c.in-Runs.is

pub returns-in-Value : goal.returns-in-Value
unfolding question_kind
returns-in-Value c = rw c.in-Value.is

pub returns-in-HasKey : goal.returns-in-HasKey
unfolding question_kind
returns-in-HasKey c = rw c.in-HasKey.is

pub returns-in-AllValue : goal.returns-in-AllValue
unfolding question_kind
returns-in-AllValue c = rw c.in-AllValue.is

pub returns-in-Same : goal.returns-in-Same
unfolding question_kind
returns-in-Same c = rw c.in-Same.is

pub returns-in-Marks : goal.returns-in-Marks
unfolding question_kind
returns-in-Marks c = rw c.in-Marks.is

pub returns-in-Inherit : goal.returns-in-Inherit
unfolding question_kind
returns-in-Inherit c = rw c.in-Inherit.is

pub returns-in-Mark : goal.returns-in-Mark
unfolding question_kind
returns-in-Mark c = rw c.in-Mark.is

pub returns-in-Inherited : goal.returns-in-Inherited
unfolding question_kind
returns-in-Inherited c = rw c.in-Inherited.is

pub returns-in-Find : goal.returns-in-Find
unfolding question_kind
returns-in-Find c = rw c.in-Find.is

pub returns-in-Propose : goal.returns-in-Propose
unfolding question_kind
returns-in-Propose c = rw c.in-Propose.is
