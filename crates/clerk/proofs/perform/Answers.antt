-- By the op: one that asks is not performed here, nor is an edit of one tank.
use Rattle.clerk.proofs.Performing.{as_moved, changes, texted, noted, both, none, no_question, no_listing, other_change, other_both}
use borrow.Author.Rules.{rules}
use Rattle.clerk.proofs.perform.Goals as goal

pub change-d-requires : goal.change-d-requires
change-d-requires c = record { sound = (c.requires.sound.0, other_change _ _ c.requires.sound.2 c.in-Change.is); piece_room_in_bounds = search rules }

pub on_both-requires : goal.on_both-requires
on_both-requires c = record { sound = (c.requires.sound.0, c.requires.sound.1, other_both _ _ c.requires.sound.2 c.in-Both.is); piece_room_in_bounds = search rules }

pub returns-in-Nothing : goal.returns-in-Nothing
returns-in-Nothing c = as_moved c.moving.ensures (none _ _ _ _ _ _ c.in-Nothing.is c.requires.sound.0 c.requires.sound.1)

pub returns-in-Change : goal.returns-in-Change
returns-in-Change c = as_moved c.moving-in-Change.ensures (changes c.args.s c.args.side _ _ c.in-Change.is c.requires.sound.1 c.change-d.ensures)

pub returns-in-Question : goal.returns-in-Question
returns-in-Question c = no_question _ _ c.requires.sound.2 c.in-Question.is

pub returns-in-Listing : goal.returns-in-Listing
returns-in-Listing c = no_listing _ _ c.requires.sound.2 c.in-Listing.is

pub returns-in-Text : goal.returns-in-Text
returns-in-Text c = texted _ _ _ _ c.in-Text.is c.take_text.ensures

pub returns-in-Desk : goal.returns-in-Desk
returns-in-Desk c = as_moved c.moving-in-Desk.ensures (noted c.args.s c.args.side _ _ c.in-Desk.is c.requires.sound.0 c.at_desk-n.ensures)

pub returns-in-Both : goal.returns-in-Both
returns-in-Both c = both _ _ _ _ c.in-Both.is c.on_both.ensures
