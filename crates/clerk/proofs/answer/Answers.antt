-- By the op: what is asked of one tank where it stands is not answered here.
use mathlib.Core.Path.{refl}
use Rattle.clerk.proofs.Performing.{as_answer, no_look}
use Rattle.clerk.specs.Calls.{answer_says, question_kind}
use Rattle.clerk.proofs.answer.Goals as goal

pub returns-in-Length : goal.returns-in-Length
unfolding answer_says
returns-in-Length c = as_answer _ _ _ c.in-Length.is c.length.ensures

pub returns-in-Touched : goal.returns-in-Touched
unfolding answer_says
returns-in-Touched c = as_answer _ _ _ c.in-Touched.is c.touched.ensures

pub returns-in-Runs : goal.returns-in-Runs
unfolding answer_says
returns-in-Runs c = as_answer _ _ _ c.in-Runs.is c.runs.ensures

pub returns-in-Value : goal.returns-in-Value
unfolding question_kind
returns-in-Value c = no_look c.in-Value.is refl c.requires.sound.1

pub returns-in-HasKey : goal.returns-in-HasKey
unfolding question_kind
returns-in-HasKey c = no_look c.in-HasKey.is refl c.requires.sound.1

pub returns-in-AllValue : goal.returns-in-AllValue
unfolding question_kind
returns-in-AllValue c = no_look c.in-AllValue.is refl c.requires.sound.1

pub returns-in-Same : goal.returns-in-Same
unfolding question_kind
returns-in-Same c = no_look c.in-Same.is refl c.requires.sound.1

pub returns-in-Marks : goal.returns-in-Marks
unfolding question_kind
returns-in-Marks c = no_look c.in-Marks.is refl c.requires.sound.1

pub returns-in-Inherit : goal.returns-in-Inherit
unfolding question_kind
returns-in-Inherit c = no_look c.in-Inherit.is refl c.requires.sound.1

pub returns-in-Mark : goal.returns-in-Mark
unfolding question_kind
returns-in-Mark c = no_look c.in-Mark.is refl c.requires.sound.1

pub returns-in-Inherited : goal.returns-in-Inherited
unfolding question_kind
returns-in-Inherited c = no_look c.in-Inherited.is refl c.requires.sound.1

pub returns-in-Find : goal.returns-in-Find
unfolding question_kind
returns-in-Find c = no_look c.in-Find.is refl c.requires.sound.1

pub returns-in-Propose : goal.returns-in-Propose
unfolding answer_says
returns-in-Propose c = as_answer _ _ _ c.in-Propose.is c.propose.ensures
