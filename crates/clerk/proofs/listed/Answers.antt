-- By the op: a list of one tank is not made here.
use mathlib.Core.Path.{refl}
use Rattle.clerk.specs.Calls.{listing_says, listing_kind}
use Rattle.clerk.proofs.Performing.{as_listed, no_list_look}
use Rattle.clerk.proofs.listed.Goals as goal

pub returns-in-Stretches : goal.returns-in-Stretches
unfolding listing_kind
returns-in-Stretches c = no_list_look c.in-Stretches.is refl c.requires.sound.1

pub returns-in-StretchesNeeded : goal.returns-in-StretchesNeeded
unfolding listing_kind
returns-in-StretchesNeeded c = no_list_look c.in-StretchesNeeded.is refl c.requires.sound.1

pub returns-in-Whole : goal.returns-in-Whole
unfolding listing_kind
returns-in-Whole c = no_list_look c.in-Whole.is refl c.requires.sound.1

pub returns-in-WholeNeeded : goal.returns-in-WholeNeeded
unfolding listing_kind
returns-in-WholeNeeded c = no_list_look c.in-WholeNeeded.is refl c.requires.sound.1

pub returns-in-Anchors : goal.returns-in-Anchors
unfolding listing_kind
returns-in-Anchors c = no_list_look c.in-Anchors.is refl c.requires.sound.1

pub returns-in-Save : goal.returns-in-Save
unfolding listing_says
returns-in-Save c = as_listed _ _ _ c.in-Save.is c.save.ensures

pub returns-in-SaveNeeded : goal.returns-in-SaveNeeded
unfolding listing_says
returns-in-SaveNeeded c = as_listed _ _ _ c.in-SaveNeeded.is c.save_needed.ensures
