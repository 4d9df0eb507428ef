-- A row for each group of ops.
use Rattle.script.specs.Bodies.{body_of}
use Rattle.script.proofs.bodies.body_size.Goals as goal

pub returns-in-Nothing : goal.returns-in-Nothing
unfolding body_of
returns-in-Nothing c = rw c.in-Nothing.is

pub returns-in-Change : goal.returns-in-Change
unfolding body_of
returns-in-Change c = rw c.in-Change.is

pub returns-in-Question : goal.returns-in-Question
unfolding body_of
returns-in-Question c = rw c.in-Question.is

pub returns-in-Listing : goal.returns-in-Listing
unfolding body_of
returns-in-Listing c = rw c.in-Listing.is

pub returns-in-Text : goal.returns-in-Text
unfolding body_of
returns-in-Text c = rw c.in-Text.is c.least.ensures

pub returns-in-Desk : goal.returns-in-Desk
unfolding body_of
returns-in-Desk c = rw c.in-Desk.is

pub returns-in-Both : goal.returns-in-Both
unfolding body_of
returns-in-Both c = rw c.in-Both.is
