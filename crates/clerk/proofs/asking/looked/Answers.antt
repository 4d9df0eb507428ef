-- By the op: what is asked of the state is not answered here.
use Rattle.answers.proofs.Laws.{no_piece}
use Rattle.clerk.specs.Calls.{look_says}
use Rattle.clerk.proofs.Looked.{as_look}
use Rattle.clerk.proofs.asking.looked.Goals as goal

pub value-requires : goal.value-requires
value-requires c = record { can_ask = c.requires.can_ask; piece_room_in_bounds = c.requires.piece_room_in_bounds }

pub has_key-requires : goal.has_key-requires
has_key-requires c = record { can_ask = c.requires.can_ask; piece_room_in_bounds = c.requires.piece_room_in_bounds }

pub all_value-requires : goal.all_value-requires
all_value-requires c = record { can_ask = c.requires.can_ask; piece_room_in_bounds = c.requires.piece_room_in_bounds }

pub same-requires : goal.same-requires
same-requires c = record { can_ask = c.requires.can_ask; piece_room_in_bounds = c.requires.piece_room_in_bounds }

pub marks-requires : goal.marks-requires
marks-requires c = record { can_ask = c.requires.can_ask; piece_room_in_bounds = c.requires.piece_room_in_bounds }

pub inherit-requires : goal.inherit-requires
inherit-requires c = record { can_ask = c.requires.can_ask; piece_room_in_bounds = c.requires.piece_room_in_bounds }

pub mark-requires : goal.mark-requires
mark-requires c = record { can_ask = c.requires.can_ask; piece_room_in_bounds = c.requires.piece_room_in_bounds }

pub inherited-requires : goal.inherited-requires
inherited-requires c = record { can_ask = c.requires.can_ask; piece_room_in_bounds = c.requires.piece_room_in_bounds }

pub find-requires : goal.find-requires
find-requires c = record { can_ask = c.requires.can_ask; piece_room_in_bounds = c.requires.piece_room_in_bounds }

pub returns-in-Length : goal.returns-in-Length
unfolding look_says
returns-in-Length c = as_look _ _ _ _ _ c.in-Length.is (no_piece _ _)

pub returns-in-Touched : goal.returns-in-Touched
unfolding look_says
returns-in-Touched c = as_look _ _ _ _ _ c.in-Touched.is (no_piece _ _)

pub returns-in-Runs : goal.returns-in-Runs
unfolding look_says
returns-in-Runs c = as_look _ _ _ _ _ c.in-Runs.is (no_piece _ _)

pub returns-in-Value : goal.returns-in-Value
returns-in-Value c = as_look _ _ _ _ _ c.in-Value.is c.value.ensures

pub returns-in-HasKey : goal.returns-in-HasKey
returns-in-HasKey c = as_look _ _ _ _ _ c.in-HasKey.is c.has_key.ensures

pub returns-in-AllValue : goal.returns-in-AllValue
returns-in-AllValue c = as_look _ _ _ _ _ c.in-AllValue.is c.all_value.ensures

pub returns-in-Same : goal.returns-in-Same
returns-in-Same c = as_look _ _ _ _ _ c.in-Same.is c.same.ensures

pub returns-in-Marks : goal.returns-in-Marks
returns-in-Marks c = as_look _ _ _ _ _ c.in-Marks.is c.marks.ensures

pub returns-in-Inherit : goal.returns-in-Inherit
returns-in-Inherit c = as_look _ _ _ _ _ c.in-Inherit.is c.inherit.ensures

pub returns-in-Mark : goal.returns-in-Mark
returns-in-Mark c = as_look _ _ _ _ _ c.in-Mark.is c.mark.ensures

pub returns-in-Inherited : goal.returns-in-Inherited
returns-in-Inherited c = as_look _ _ _ _ _ c.in-Inherited.is c.inherited.ensures

pub returns-in-Find : goal.returns-in-Find
returns-in-Find c = as_look _ _ _ _ _ c.in-Find.is c.find.ensures

pub returns-in-Propose : goal.returns-in-Propose
unfolding look_says
returns-in-Propose c = as_look _ _ _ _ _ c.in-Propose.is (no_piece _ _)
