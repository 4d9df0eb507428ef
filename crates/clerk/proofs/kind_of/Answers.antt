-- By the op.
use Rattle.clerk.specs.Calls.{kind_of}
use Rattle.script.specs.declared.Op.{Op}
use mathlib.Core.Path.{sym, ap, ◌∙◌}
use Rattle.clerk.proofs.kind_of.Goals as goal

pub returns-in-Nothing : goal.returns-in-Nothing
unfolding kind_of
returns-in-Nothing c = rw c.in-Nothing.is

pub returns-in-Change : goal.returns-in-Change
unfolding kind_of
returns-in-Change c = let a = c.args in c.change_kind.ensures ∙ sym (ap (λ (o : Op). kind_of o a.who a.call) c.in-Change.is)

pub returns-in-Question : goal.returns-in-Question
unfolding kind_of
returns-in-Question c = let a = c.args in c.question_kind.ensures ∙ sym (ap (λ (o : Op). kind_of o a.who a.call) c.in-Question.is)

pub returns-in-Listing : goal.returns-in-Listing
unfolding kind_of
returns-in-Listing c = let a = c.args in c.listing_kind.ensures ∙ sym (ap (λ (o : Op). kind_of o a.who a.call) c.in-Listing.is)

pub returns-in-Text : goal.returns-in-Text
unfolding kind_of
returns-in-Text c = rw c.in-Text.is

pub returns-in-Desk : goal.returns-in-Desk
unfolding kind_of
returns-in-Desk c = rw c.in-Desk.is

pub returns-in-Both : goal.returns-in-Both
unfolding kind_of
returns-in-Both c = let a = c.args in c.both_kind.ensures ∙ sym (ap (λ (o : Op). kind_of o a.who a.call) c.in-Both.is)
