-- By the op: the text of all tanks is not made here.
use Rattle.answers.proofs.Laws.{no_piece}
use Rattle.clerk.specs.Calls.{list_look_says}
use Rattle.clerk.proofs.Looked.{as_list_look}
use Rattle.clerk.proofs.listing.looked.Goals as goal

pub stretches-requires : goal.stretches-requires
stretches-requires c = record { can_ask = c.requires.can_ask; piece_room_in_bounds = c.requires.piece_room_in_bounds }

pub stretches_needed-requires : goal.stretches_needed-requires
stretches_needed-requires c = record { can_ask = c.requires.can_ask; piece_room_in_bounds = c.requires.piece_room_in_bounds }

pub whole_called-requires : goal.whole_called-requires
whole_called-requires c = record { can_ask = c.requires.can_ask; piece_room_in_bounds = c.requires.piece_room_in_bounds }

pub whole_needed-requires : goal.whole_needed-requires
whole_needed-requires c = record { can_ask = c.requires.can_ask; piece_room_in_bounds = c.requires.piece_room_in_bounds }

pub anchors-requires : goal.anchors-requires
anchors-requires c = record { can_ask = c.requires.can_ask; piece_room_in_bounds = c.requires.piece_room_in_bounds }

pub returns-in-Stretches : goal.returns-in-Stretches
returns-in-Stretches c = as_list_look _ _ _ _ _ c.in-Stretches.is c.stretches.ensures

pub returns-in-StretchesNeeded : goal.returns-in-StretchesNeeded
returns-in-StretchesNeeded c = as_list_look _ _ _ _ _ c.in-StretchesNeeded.is c.stretches_needed.ensures

pub returns-in-Whole : goal.returns-in-Whole
returns-in-Whole c = as_list_look _ _ _ _ _ c.in-Whole.is c.whole_called.ensures

pub returns-in-WholeNeeded : goal.returns-in-WholeNeeded
returns-in-WholeNeeded c = as_list_look _ _ _ _ _ c.in-WholeNeeded.is c.whole_needed.ensures

pub returns-in-Anchors : goal.returns-in-Anchors
returns-in-Anchors c = as_list_look _ _ _ _ _ c.in-Anchors.is c.anchors.ensures

pub returns-in-Save : goal.returns-in-Save
unfolding list_look_says
returns-in-Save c = as_list_look _ _ _ _ _ c.in-Save.is (no_piece _ _)

pub returns-in-SaveNeeded : goal.returns-in-SaveNeeded
unfolding list_look_says
returns-in-SaveNeeded c = as_list_look _ _ _ _ _ c.in-SaveNeeded.is (no_piece _ _)
