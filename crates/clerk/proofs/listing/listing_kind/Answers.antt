-- By the op.
use Rattle.clerk.specs.Calls.{listing_kind}
use Rattle.clerk.proofs.listing.listing_kind.Goals as goal

pub returns-in-Stretches : goal.returns-in-Stretches
unfolding listing_kind
returns-in-Stretches c = rw c.in-Stretches.is

pub returns-in-StretchesNeeded : goal.returns-in-StretchesNeeded
unfolding listing_kind
returns-in-StretchesNeeded c = rw c.in-StretchesNeeded.is

pub returns-in-Whole : goal.returns-in-Whole
unfolding listing_kind
returns-in-Whole c = rw c.in-Whole.is

pub returns-in-WholeNeeded : goal.returns-in-WholeNeeded
unfolding listing_kind
returns-in-WholeNeeded c = rw c.in-WholeNeeded.is

pub returns-in-Anchors : goal.returns-in-Anchors
unfolding listing_kind
returns-in-Anchors c = rw c.in-Anchors.is

pub returns-in-Save : goal.returns-in-Save
unfolding listing_kind
returns-in-Save c = rw c.in-Save.is

pub returns-in-SaveNeeded : goal.returns-in-SaveNeeded
unfolding listing_kind
returns-in-SaveNeeded c = rw c.in-SaveNeeded.is
