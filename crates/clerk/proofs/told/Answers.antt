-- By the op: what does not ask is not answered here.
use Rattle.clerk.proofs.Performing.{as_told, untold, state_question, state_listing}
use Rattle.clerk.specs.Calls.{asking_says}
use mathlib.Core.Path.{refl}
use Rattle.clerk.proofs.told.Goals as goal

pub answer-requires : goal.answer-requires
answer-requires c = record { sound = (c.requires.sound.0, state_question c.args.who c.args.call c.requires.sound.1 c.in-Question.is); piece_room_in_bounds = c.requires.piece_room_in_bounds }

pub listed-requires : goal.listed-requires
listed-requires c = record { sound = (c.requires.sound.0, state_listing c.args.who c.args.call c.requires.sound.1 c.in-Listing.is); piece_room_in_bounds = c.requires.piece_room_in_bounds }

pub returns-in-Nothing : goal.returns-in-Nothing
unfolding asking_says
returns-in-Nothing c = untold _ _ _ c.in-Nothing.is refl

pub returns-in-Change : goal.returns-in-Change
unfolding asking_says
returns-in-Change c = untold _ _ _ c.in-Change.is refl

pub returns-in-Question : goal.returns-in-Question
unfolding asking_says
returns-in-Question c = as_told _ _ _ c.in-Question.is c.answer.ensures

pub returns-in-Listing : goal.returns-in-Listing
unfolding asking_says
returns-in-Listing c = as_told _ _ _ c.in-Listing.is c.listed.ensures

pub returns-in-Text : goal.returns-in-Text
unfolding asking_says
returns-in-Text c = untold _ _ _ c.in-Text.is refl

pub returns-in-Desk : goal.returns-in-Desk
unfolding asking_says
returns-in-Desk c = untold _ _ _ c.in-Desk.is refl

pub returns-in-Both : goal.returns-in-Both
unfolding asking_says
returns-in-Both c = untold _ _ _ c.in-Both.is refl
